use Rattle.std.proofs.Common.{◌≡◌, ◌++◌}
use Rattle.std.specs.Prelude.{codes, slice_get}
use Rattle.ds_explore_summary.specs.Summaries.{number_text, texts_below, wrong_by}
use Rattle.ds_explore_summary.proofs.summary.wrong_text.Given as goal

abbrev pub invariant-loop-at : goal.invariant-loop-at
invariant-loop-at l = l.text.items ≡ codes "wrong outcomes" ++ texts_below (λ at. number_text (wrong_by (slice_get l.outcomes at)) at) l.at
