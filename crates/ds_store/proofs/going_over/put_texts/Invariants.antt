use Rattle.std.proofs.Common.{◌<◌}
use Rattle.ds_store.proofs.going_over.put_texts.Given as goal

abbrev pub invariant-loop-number : goal.invariant-loop-number
invariant-loop-number l = l.process < l.layout.processes
