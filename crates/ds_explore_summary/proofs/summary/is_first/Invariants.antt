use Rattle.std.proofs.Common.{◌≡◌}
use Rattle.ds_explore.specs.Judging.{any_below}
use Rattle.ds_explore_summary.specs.Summaries.{ends_as}
use Rattle.ds_explore_summary.proofs.summary.is_first.Given as goal

abbrev pub invariant-loop-other : goal.invariant-loop-other
invariant-loop-other l = l.before ≡ any_below (ends_as l.outcomes l.at) l.other
