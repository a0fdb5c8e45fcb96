use Rattle.std.proofs.Common.{◌≡◌}
use Rattle.std.specs.Prelude.{◌&&◌, not, slice_get}
use Rattle.ds_explore.specs.Judging.{any_below}
use Rattle.ds_explore_summary.specs.Summaries.{crashed_by, ends_as}
use Rattle.ds_explore_summary.proofs.summary.runs_so.Given as goal

abbrev pub invariant-loop-other : goal.invariant-loop-other
invariant-loop-other l = l.any ≡ any_below (λ other. ends_as l.outcomes l.at other && not (crashed_by (slice_get l.outcomes other))) l.other
