-- How an edit ended, by the list of the linearized ones.
use Rattle.std.proofs.Common.{ℕ, ◌≡◌, ◌≢◌, ◌<◌, ◌==◌, List, [], ◌∷◌, ◌++◌, refl, ap, sym, ◌∙◌, arith, inl, inr, true, false}
use Rattle.std.specs.Prelude.{All, filter}
use Rattle.std.proofs.lemmas.Bool.Decides.{eqb_tells}
use Rattle.std.proofs.lemmas.List.Elements.{All-head, All-tail}
use Rattle.ds_layout.specs.declared.announcement.Phase.TheVariants as phase
use Rattle.ds_state.specs.World.{PlainEdit, of_cell, phase_among}

-- an edit above all numbers of its process in the list is not done
pub not_among : (es : List PlainEdit) (p n : ℕ) → All (λ e. e.process ≡ p → e.number < n) es → phase_among es p n ≡ phase.NotDone
not_among [] p n h = refl
not_among (e ∷ es) p n h =
    let rest = not_among es p n (All-tail (λ (f : PlainEdit). f.process ≡ p → f.number < n) e es h) in
    elim (eqb_tells e.process p) [
      | inr other ↦ rw other.0 rest
      | inl same ↦ elim (eqb_tells e.number n) [
        | inr apart ↦ rw (same.0, apart.0) rest
        | inl is ↦ absurd (let l = All-head (λ (f : PlainEdit). f.process ≡ p → f.number < n) e es h same.1 in let i = is.1 in omega arith)
      ]
    ]

in_rest : (es : List PlainEdit) (cell : ℕ) (x e : PlainEdit) (before after : List PlainEdit)
    → ((before : List PlainEdit) → filter (λ (f : PlainEdit). f.cell == cell) es ≡ before ++ e ∷ after → phase_among es e.process e.number ≡ phase.Done)
    → x ≢ e → x ∷ filter (λ (f : PlainEdit). f.cell == cell) es ≡ before ++ e ∷ after → phase_among es e.process e.number ≡ phase.Done
in_rest es cell x e [] after again ne parts = absurd (ne (cc))
in_rest es cell x e (b ∷ before) after again ne parts = again before (cc)

-- an edit of the cell at the front is the first of the cell's
pub kept : (cell : ℕ) (x : PlainEdit) (es : List PlainEdit) → (x.cell == cell) ≡ true → filter (λ (f : PlainEdit). f.cell == cell) (x ∷ es) ≡ x ∷ filter (λ (f : PlainEdit). f.cell == cell) es
kept cell x es t = rw t refl

-- an edit of another cell at the front is none of the cell's
pub dropped : (cell : ℕ) (x : PlainEdit) (es : List PlainEdit) → (x.cell == cell) ≡ false → filter (λ (f : PlainEdit). f.cell == cell) (x ∷ es) ≡ filter (λ (f : PlainEdit). f.cell == cell) es
dropped cell x es t = rw t refl

later : (es : List PlainEdit) (cell : ℕ) (x e : PlainEdit) (before after : List PlainEdit)
    → ((before : List PlainEdit) → filter (λ (f : PlainEdit). f.cell == cell) es ≡ before ++ e ∷ after → phase_among es e.process e.number ≡ phase.Done)
    → filter (λ (f : PlainEdit). f.cell == cell) (x ∷ es) ≡ before ++ e ∷ after → x ≢ e → phase_among es e.process e.number ≡ phase.Done
later es cell x e before after again parts ne = elim (eqb_tells x.cell cell) [
  | inl its ↦ in_rest es cell x e before after again ne (sym (kept cell x es its.0) ∙ parts)
  | inr other ↦ again before (sym (dropped cell x es other.0) ∙ parts)
]

-- an edit that stands among those of its cell ended as done
pub among : (es : List PlainEdit) (cell : ℕ) (before : List PlainEdit) (e : PlainEdit) (after : List PlainEdit) → of_cell cell es ≡ before ++ e ∷ after → phase_among es e.process e.number ≡ phase.Done
unfolding of_cell
among [] cell [] e after parts = absurd (cc)
among [] cell (b ∷ before) e after parts = absurd (cc)
among (x ∷ es) cell before e after parts =
    let rest : x ≢ e → phase_among es e.process e.number ≡ phase.Done = later es cell x e before after (λ b p. among es cell b e after p) parts in
    elim (eqb_tells x.process e.process) [
      | inr other ↦ rw other.0 (rest (λ same. other.1 (ap (λ (f : PlainEdit). f.process) same)))
      | inl same ↦ elim (eqb_tells x.number e.number) [
        | inr apart ↦ rw (same.0, apart.0) (rest (λ is. apart.1 (ap (λ (f : PlainEdit). f.number) is)))
        | inl is ↦ rw (same.0, is.0) refl
      ]
    ]
