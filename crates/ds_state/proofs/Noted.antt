-- The head that an edit noted, and the cell's head later.
use Rattle.std.proofs.Common.{ℕ, ◌≡◌, ◌≤◌, ◌+◌, ◌⊎◌, List, [], ◌∷◌, ◌++◌, refl, ap, sym, ◌∙◌, subst, arith, length, length-append, inl, inr, take, drop, get_or, Some}
use Rattle.std.specs.Prelude.{All, ◌==◌}
use Rattle.std.proofs.Math.Seq.{get_or-append_seam, take-length}
use Rattle.std.proofs.lemmas.List.{take-append-drop, append-nil}
use Rattle.std.proofs.lemmas.List.Elements.{All-filter}
use Rattle.ds_layout.specs.declared.head.Head.{Head}
use Rattle.ds_layout.specs.Head.{head_word, head_of, IsHead}
use Rattle.ds_layout.proofs.Packed.{head_of-head_word}
use Rattle.ds_state.specs.World.{PlainEdit, PlainWorld, of_cell, of_cell_when, head_after_all, IsHeadBy}
use Rattle.ds_state.specs.Known.{IsNoted}
use Rattle.ds_state.specs.Sound.{IsSound, IsOfSheet}
use Rattle.ds_state.proofs.Heads.{Small, of_cell-append, head_push, head_grows, by_append, by_last, parts_cases}
use Rattle.ds_state.proofs.Few.{of_cell_few}

-- a list is empty, or has a last element
pub last_cases : (es : List PlainEdit) → (es ≡ []) ⊎ ((before : List PlainEdit) × (by : PlainEdit) × (es ≡ before ++ by ∷ []))
last_cases [] = inl refl
last_cases (x ∷ es) = elim (last_cases es) [
  | inl none ↦ inr ([], x, ap (λ zs. x ∷ zs) none)
  | inr found ↦ inr (x ∷ found.0, found.1, ap (λ zs. x ∷ zs) found.2)
]

-- lists that are equal have the same last edit
pub last_same : (before : List PlainEdit) (by : PlainEdit) (before' : List PlainEdit) (by' : PlainEdit) → before ++ by ∷ [] ≡ before' ++ by' ∷ [] → by' ≡ by
last_same before by before' by' same = elim (parts_cases before by before' by' [] same) [
  | inl both ↦ both.1
  | inr more ↦ (
      let l = ap length same in
      let m = ap length more.1 in
      absurd (omega (arith, length-append before (by ∷ []), length-append before' (by' ∷ []), length-append before' (by' ∷ more.0))))
]

-- each edit of a cell is one of the sheet
pub of_sheet_middle : (w : PlainWorld) → All (λ e. IsOfSheet w e) w.counted → (cell : ℕ) (before : List PlainEdit) (by : PlainEdit) (after : List PlainEdit) → of_cell cell w.counted ≡ before ++ by ∷ after → IsOfSheet w by
unfolding of_cell
of_sheet_middle w h cell before by after parts =
    let all : All (λ e. IsOfSheet w e) (before ++ by ∷ after) = subst (λ (es : List PlainEdit). All (λ e. IsOfSheet w e) es) parts (All-filter (λ e. e.cell == cell) (λ e. IsOfSheet w e) w.counted h) in
    let there : IsOfSheet w (get_or (before ++ by ∷ after) (length before) by) = all (length before) by (omega (arith, length-append before (by ∷ after))) in
    subst (λ (e : PlainEdit). IsOfSheet w e) (get_or-append_seam before by after by) there

-- the edits of the cell now, and when n edits were linearized
pub when_now : (w : PlainWorld) (cell : ℕ) → of_cell_when w cell (length w.counted) ≡ of_cell cell w.counted
when_now w cell = ap (λ es. of_cell cell es) (take-length w.counted)

-- the edits of a cell are those of when n edits were linearized, and then those that came since
pub when_rest : (w : PlainWorld) (cell count : ℕ) → of_cell cell w.counted ≡ of_cell_when w cell count ++ of_cell cell (drop count w.counted)
when_rest w cell count = ap (λ es. of_cell cell es) (sym (take-append-drop count w.counted)) ∙ of_cell-append cell (take count w.counted) (drop count w.counted)

-- the head that an edit noted is one that a linearized edit gave its cell, now, too
pub noted_by : (w : PlainWorld) (e : PlainEdit) (since : ℕ) (head : Head) → (h : IsNoted w e since head) → IsHeadBy (of_cell e.cell w.counted) (head_word head) h.by
noted_by w e since head h = subst (λ (es : List PlainEdit). IsHeadBy es (head_word head) h.by) (sym (when_rest w e.cell h.count))
    (by_append (of_cell_when w e.cell h.count) (of_cell e.cell (drop h.count w.counted)) (head_word head) h.by
    (subst (λ (es : List PlainEdit). IsHeadBy es (head_word head) h.by) (sym h.parts)
    (subst (λ (word : ℕ). IsHeadBy (h.before ++ h.by ∷ []) word h.by) (sym h.word) (by_last h.before h.by))))

-- heads only grow, and where they are the same, so are the edits
pub when_most : (xs ys : List PlainEdit) → Small (xs ++ ys) → head_after_all xs ≤ head_after_all (xs ++ ys)
when_most xs [] s = rw (append-nil xs) (omega arith)
when_most xs (y ∷ ys) s = let g = head_grows xs y ys s in omega arith

-- where the head is the same with edits after it, there are none after it
pub when_same : (xs ys : List PlainEdit) → Small (xs ++ ys) → head_after_all xs ≡ head_after_all (xs ++ ys) → xs ++ ys ≡ xs
when_same xs [] s same = append-nil xs
when_same xs (y ∷ ys) s same = let g = head_grows xs y ys s in absurd (omega arith)

-- the head of a cell reads back
pub head_reads : (w : PlainWorld) → IsSound w → (cell : ℕ) (before : List PlainEdit) (by : PlainEdit) → of_cell cell w.counted ≡ before ++ by ∷ []
    → head_of w.layout.processes (head_after_all (of_cell cell w.counted)) ≡ Some (record { stamp = length before + 1; process = by.process; number = by.number })
head_reads w s cell before by parts =
    let h : Head = record { stamp = length before + 1; process = by.process; number = by.number } in
    let sheet : IsOfSheet w by = of_sheet_middle w s.of_sheet cell before by [] parts in
    let few = of_cell_few w s cell in
    let l = ap length parts in
    let p = sheet.process in
    let n = sheet.number in
    let m = w.layout.limited in
    let is : IsHead w.layout.processes h = record {
      counted = omega arith;
      packs = record { stamp = omega (arith, length-append before (by ∷ [])); process = omega arith; number = omega arith };
      process = p;
    } in
    ap (λ es. head_of w.layout.processes (head_after_all es)) parts ∙ ap (λ x. head_of w.layout.processes x) (head_push before by) ∙ head_of-head_word w.layout.processes h is
