use Rattle.std.proofs.Common.{◌≡◌}
use Rattle.ds_trace_brief.specs.Keeping.{has_turned}
use Rattle.ds_trace_brief.proofs.keep.has_turned.Given as goal

abbrev pub invariant-loop-event : goal.invariant-loop-event
invariant-loop-event l = l.has ≡ has_turned l.trace l.number l.event
