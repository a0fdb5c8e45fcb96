use Rattle.std.proofs.Common.{List, ℕ, ◌∙◌, ◌++◌, ap, append_assoc}
use Rattle.std.specs.Prelude.{Bool, codes, slice_get}
use Rattle.ds_explore_summary.specs.Summaries.{number_text, wrong_by}
use Rattle.ds_explore_summary.proofs.Endings.{texts_more}
use Rattle.ds_explore_summary.proofs.summary.wrong_text.Goals as goal

pub loop-at-preserved : goal.loop-at-preserved
loop-at-preserved c =
    texts_more (codes "wrong outcomes") (λ at. number_text (wrong_by (slice_get c.args.outcomes.now at)) at) c.loop-at.at c.loop-at.text.items c.in_ok-number.number.items c.extend_from_slice.new.self.items c.loop-at.invariant
    (c.in_ok-number.ensures ∙ ap (λ (b : Bool). number_text b c.loop-at.at) c.wrong_at.ensures)
    (c.in_ok-extend_from_slice.ensures.items ∙ ap (λ (xs : List ℕ). c.loop-at.text.items ++ xs) c.deref.ensures.value)
