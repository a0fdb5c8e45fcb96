use Rattle.std.proofs.Common.{◌≡◌, ◌≤◌}
use Rattle.ds_explore_summary.specs.Summaries.{count_below, is_first}
use Rattle.ds_explore_summary.proofs.summary.endings.Given as goal

abbrev pub invariant-loop-at : goal.invariant-loop-at
invariant-loop-at l = record {
  is : l.count ≡ count_below (is_first l.outcomes) l.at;
  low : l.count ≤ l.at;
}
