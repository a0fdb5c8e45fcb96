use Rattle.std.proofs.Common.{◌≡◌, ◌++◌}
use Rattle.std.specs.Prelude.{codes}
use Rattle.ds_explore_summary.specs.Summaries.{ends_as, number_text, texts_below}
use Rattle.ds_explore_summary.proofs.summary.numbers_text.Given as goal

abbrev pub invariant-loop-other : goal.invariant-loop-other
invariant-loop-other l = l.text.items ≡ codes "outcomes" ++ texts_below (λ other. number_text (ends_as l.outcomes l.at other) other) l.other
