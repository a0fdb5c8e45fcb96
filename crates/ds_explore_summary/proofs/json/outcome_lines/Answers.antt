use Rattle.std.proofs.Common.{List, ℕ, ◌+◌, ◌∙◌, ◌++◌, ap, refl, sym}
use Rattle.std.specs.Prelude.{Option}
use Rattle.std.proofs.lemmas.Option.{slice_get_read}
use Rattle.ds_explore.specs.declared.exploration.Outcome.{Outcome}
use Rattle.ds_explore_summary.specs.Lines.{line_at, line_by}
use Rattle.ds_explore_summary.proofs.Endings.{blocks_more}
use Rattle.ds_explore_summary.proofs.json.outcome_lines.Goals as goal

pub loop-at-preserved : goal.loop-at-preserved
loop-at-preserved c =
    blocks_more (line_at c.args.outcomes.now) c.loop-at.at c.loop-at.text.items c.in_ok-line.line.items c.extend_from_slice.new.self.items c.loop-at.invariant
    (c.in_ok-line.ensures ∙ ap (λ (o : Option Outcome). line_by (c.loop-at.at + 1) o) (sym (slice_get_read c.args.outcomes.now _ c.loop-at.at c.index-outcomes-at.result refl c.loop-at-test.true c.index-outcomes-at.is)))
    (c.in_ok-extend_from_slice.ensures.items ∙ ap (λ (xs : List ℕ). c.loop-at.text.items ++ xs) c.deref.ensures.value)
