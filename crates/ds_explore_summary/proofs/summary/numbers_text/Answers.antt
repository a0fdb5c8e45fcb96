use Rattle.std.proofs.Common.{List, ℕ, ◌∙◌, ◌++◌, ap, append_assoc}
use Rattle.std.specs.Prelude.{Bool, codes}
use Rattle.ds_explore_summary.specs.Summaries.{ends_as, number_text}
use Rattle.ds_explore_summary.proofs.Endings.{texts_more}
use Rattle.ds_explore_summary.proofs.summary.numbers_text.Goals as goal

pub loop-other-preserved : goal.loop-other-preserved
loop-other-preserved c =
    texts_more (codes "outcomes") (λ other. number_text (ends_as c.args.outcomes.now c.args.at other) other) c.loop-other.other c.loop-other.text.items c.in_ok-number.number.items c.extend_from_slice.new.self.items c.loop-other.invariant
    (c.in_ok-number.ensures ∙ ap (λ (b : Bool). number_text b c.loop-other.other) c.ends_as.ensures)
    (c.in_ok-extend_from_slice.ensures.items ∙ ap (λ (xs : List ℕ). c.loop-other.text.items ++ xs) c.deref.ensures.value)
