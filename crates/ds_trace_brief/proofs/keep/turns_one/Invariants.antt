use Rattle.std.proofs.Common.{◌≡◌}
use Rattle.ds_trace_brief.specs.Keeping.{turns_below}
use Rattle.ds_trace_brief.proofs.keep.turns_one.Given as goal

abbrev pub invariant-loop-number : goal.invariant-loop-number
invariant-loop-number l = l.one ≡ turns_below l.trace l.event l.number
