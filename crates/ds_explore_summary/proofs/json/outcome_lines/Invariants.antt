use Rattle.std.proofs.Common.{◌≡◌}
use Rattle.ds_explore_summary.specs.Lines.{line_at}
use Rattle.ds_explore_summary.specs.Summaries.{texts_below}
use Rattle.ds_explore_summary.proofs.json.outcome_lines.Given as goal

abbrev pub invariant-loop-at : goal.invariant-loop-at
invariant-loop-at l = l.text.items ≡ texts_below (line_at l.outcomes) l.at
