-- The answer of an edit is true.
use Rattle.std.proofs.Common.{ℕ, ◌≡◌, ◌<◌, ◌≤◌, ◌+◌, ◌⊎◌, List, [], ◌∷◌, ◌++◌, refl, ap, sym, ◌∙◌, subst, arith, inl, inr, zero, suc, length, length-append, drop}
use Rattle.std.specs.Prelude.{Contains}
use Rattle.std.proofs.lemmas.List.Elements.{All-contains}
use Rattle.ds_layout.specs.declared.head.Head.{Head}
use Rattle.ds_layout.specs.Head.{head_of, IsHead}
use Rattle.ds_layout.proofs.Packed.{head_of-head_word}
use Rattle.ds_state.specs.Edits.{PlainEditCall, text_parts}
use Rattle.ds_state.specs.World.{PlainEdit, edit_of, PlainWorld, of_cell, of_cell_when, IsHeadBy}
use Rattle.ds_state.specs.Known.{IsLate, known_at, Knowing}
use Rattle.ds_state.specs.CallsFit.{EditFits, CallFits}
use Rattle.ds_state.specs.Sound.{IsSound, IsOfSheet}
use Rattle.ds_state.specs.declared.stage.Outcome.{Outcome}
use Rattle.ds_state.specs.declared.stage.Outcome.TheVariants as outcome
use Rattle.ds_state.specs.declared.stage.Stage.{Stage}
use Rattle.ds_state.specs.declared.stage.Stage.TheVariants.{Answer}
use Rattle.ds_state.specs.declared.situation.Situation.{Situation}
use Rattle.ds_state.specs.declared.situation.Situation.TheVariants.{Editing}
use Rattle.ds_state.proofs.Heads.{Small, small_counted, small_of_cell, small_before, cell_of-middle, by_most}
use Rattle.ds_state.proofs.Few.{of_cell_few}
use Rattle.ds_state.proofs.Found.{contains_at, contains_more, from_cell}
use Rattle.ds_state.proofs.Noted.{when_rest, of_sheet_middle}
use Rattle.ds_edit.specs.EditAnswers.{Overtakes, IsTrueOf, IsTrueAnswer}
use Rattle.ds_layout.specs.declared.place.Edition.{Edition}

-- an element of two lists joined is one of the first, or one of the second
in_either : (xs ys before : List PlainEdit) (e : PlainEdit) (after : List PlainEdit) → xs ++ ys ≡ before ++ e ∷ after
    → ((rest : List PlainEdit) × (xs ≡ before ++ e ∷ rest)) ⊎ ((front : List PlainEdit) × (ys ≡ front ++ e ∷ after))
in_either [] ys before e after parts = inr (before, parts)
in_either (x ∷ xs) ys [] e after parts = inl (xs, let same : x ≡ e = cc in ap (λ z. z ∷ xs) same)
in_either (x ∷ xs) ys (b ∷ before) e after parts =
    let tails : xs ++ ys ≡ before ++ e ∷ after = cc in
    let firsts : x ≡ b = cc in
    elim (in_either xs ys before e after tails) [
      | inl h ↦ inl (h.0, ap (λ z. z ∷ xs) firsts ∙ ap (λ zs. b ∷ zs) h.1)
      | inr h ↦ inr (h.0, h.1)
    ]

-- what comes late comes later than before
all_later : (count : ℕ) (es : List PlainEdit) (e : PlainEdit) → Contains (drop count es) e → Contains es e
all_later zero es e h = h
all_later (suc count) [] e h = h
all_later (suc count) (x ∷ es) e h = contains_more x e es (all_later count es e h)

later : (since count : ℕ) (es : List PlainEdit) (e : PlainEdit) → since ≤ count → Contains (drop count es) e → Contains (drop since es) e
later zero count es e le h = all_later count es e h
later (suc since) zero es e le h = absurd (omega arith)
later (suc since) (suc count) [] e le h = h
later (suc since) (suc count) (x ∷ es) e le h = later since count es e (omega arith) h

module _ (w : PlainWorld) (sound : IsSound w) (e : PlainEdit) (since : ℕ) where
  small : Small (of_cell e.cell w.counted)
  small = small_of_cell e.cell w.counted (small_counted w sound.of_sheet)

  overtakes : (noted seen : ℕ) → IsLate w e since noted seen → Overtakes w e since seen
  overtakes noted seen h =
      let when : List PlainEdit = of_cell_when w e.cell h.count in
      let rest = when_rest w e.cell h.count in
      let at : IsHeadBy (of_cell e.cell w.counted) seen h.by = h.head in
      let after_when : Contains (drop h.count w.counted) h.by = elim (in_either when (of_cell e.cell (drop h.count w.counted)) at.before h.by at.after (sym rest ∙ at.parts)) [
        | inl early ↦ absurd (
            let le = by_most when seen h.by (small_before when (of_cell e.cell (drop h.count w.counted)) (subst (λ (xs : List PlainEdit). Small xs) rest small))
            (record { before = at.before; after = early.0; parts = early.1; is = at.is }) in
            let is = h.is in
            let greater = h.greater in
            omega arith)
        | inr late ↦ from_cell e.cell (drop h.count w.counted) h.by (subst (λ (xs : List PlainEdit). Contains xs h.by) (sym late.1) (contains_at late.0 h.by at.after))
      ] in
      let sheet : IsOfSheet w h.by = of_sheet_middle w sound.of_sheet e.cell at.before h.by at.after at.parts in
      let few = of_cell_few w sound e.cell in
      let l = ap length at.parts in
      let p = sheet.process in
      let n = sheet.number in
      let m = w.layout.limited in
      let head : Head = record { stamp = length at.before + 1; process = h.by.process; number = h.by.number } in
      let is : IsHead w.layout.processes head = record {
        counted = omega arith;
        packs = record { stamp = omega (arith, length-append at.before (h.by ∷ at.after)); process = omega arith; number = omega arith };
        process = p;
      } in
      record {
        by = h.by;
        counted = later since h.count w.counted h.by h.when.late after_when;
        cell = cell_of-middle e.cell w.counted at.before h.by at.after at.parts;
        head = head;
        reads = ap (λ x. head_of w.layout.processes x) at.is ∙ head_of-head_word w.layout.processes head is;
        process = refl;
        number = refl;
      }

  true_of : (edition : Edition) (how : Outcome) (refs : List ℕ) (parts count : ℕ) → Knowing w edition e refs since (known_at parts count (Answer how)) → IsTrueOf w e since how
  true_of edition outcome.Done refs parts count h =
      let at = h.standing.safe.head in
      from_cell e.cell w.counted e (subst (λ (xs : List PlainEdit). Contains xs e) (sym at.parts) (contains_at at.before e at.after))
  true_of edition (outcome.Overtaken noted seen) refs parts count h = (
    (λ there. let l = All-contains (λ (f : PlainEdit). f.process ≡ e.process → f.number < e.number) w.counted e h.standing there refl in omega arith),
    overtakes noted seen h.head,
  )

-- in a sound world an edit that is to answer Done is linearized, and one that is to answer Overtaken doesn't
pub answer_true : (e : PlainEditCall) (how : Outcome) (w : PlainWorld) → IsSound w → e.process < w.layout.processes → e.stage ≡ Answer how → w.situation e.process ≡ Editing e → IsTrueAnswer w (edit_of e) how
answer_true e how w sound low first at =
    let fits : EditFits w e.process e = subst (λ (x : Situation). CallFits w e.process x) at (sound.calls e.process low) in
    record {
      since = fits.since;
      issued = fits.open_edits;
      holds = true_of w sound (edit_of e) fits.since e.edition how e.refs (text_parts e.text) (length e.refs)
          (subst (λ (x : Stage). Knowing w e.edition (edit_of e) e.refs fits.since (known_at (text_parts e.text) (length e.refs) x)) first fits.knows);
    }
