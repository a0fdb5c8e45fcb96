use Rattle.std.proofs.Common.{ap, subst, ◌≡◌, ◌∙◌, ℕ}
use Rattle.std.proofs.lemmas.Result.{IfOk-weaker}
use Rattle.std.specs.Mem.Slots.{slots_items}
use Rattle.ds_formula.specs.Cells.{index_of}
use Rattle.ds_layout.specs.declared.layout.Layout.{Layout}
use Rattle.ds_state.specs.Shown.{last_text, text_at}
use Rattle.ds_state.specs.World.{of_cell}
use Rattle.ds_shared.proofs.Texts.{closed_in, text_closed}
use Rattle.ds_shared.proofs.sheet.ClosedSheet.text_of.Goals as goal

pub returns : goal.returns
returns c =
    let s = c.args.self.now in
    let ws = slots_items s.words.table.words in
    IfOk-weaker c.text.result _ _ (λ r h b sound.
    let cell : ℕ = index_of s.layout.shape c.args.cell in
    h ∙ ap (λ (n : ℕ). text_at s.layout (closed_in s.layout ws) n) c.index.ensures.value
    ∙ subst (λ (l : Layout). text_at l (closed_in l ws) cell ≡ last_text (of_cell cell b.hidden.counted)) s.same (text_closed s.words.key ws cell b sound)) c.text.ensures
