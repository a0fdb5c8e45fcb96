use Rattle.std.proofs.Common.{◌≡◌}
use Rattle.ds_trace_brief.specs.Keeping.{kept_below}
use Rattle.ds_trace_brief.proofs.keep.kept.Given as goal

abbrev pub invariant-loop-event : goal.invariant-loop-event
invariant-loop-event l = l.events.items ≡ kept_below l.trace l.event
