use Rattle.std.proofs.Common.{◌≡◌}
use Rattle.ds_explore_summary.specs.Summaries.{first_text, texts_below}
use Rattle.ds_explore_summary.proofs.summary.blocks_text.Given as goal

abbrev pub invariant-loop-at : goal.invariant-loop-at
invariant-loop-at l = l.text.items ≡ texts_below (first_text l.outcomes) l.at
