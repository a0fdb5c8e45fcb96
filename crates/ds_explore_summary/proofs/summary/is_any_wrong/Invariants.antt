use Rattle.std.proofs.Common.{◌≡◌}
use Rattle.std.specs.Prelude.{slice_get}
use Rattle.ds_explore.specs.Judging.{any_below}
use Rattle.ds_explore_summary.specs.Summaries.{wrong_by}
use Rattle.ds_explore_summary.proofs.summary.is_any_wrong.Given as goal

abbrev pub invariant-loop-at : goal.invariant-loop-at
invariant-loop-at l = l.any ≡ any_below (λ at. wrong_by (slice_get l.outcomes at)) l.at
