-- An edit that gave a head is linearized, and its references have its cell in their rows.
use Rattle.std.proofs.Common.{ℕ, ◌≡◌, ◌/◌, List, [], ◌∷◌, ◌++◌, refl, sym, subst, arith, inl, inr, zero, suc}
use Rattle.std.specs.Prelude.{Contains}
use Rattle.std.proofs.lemmas.Bool.Decides.{eqb_tells}
use Rattle.std.proofs.lemmas.List.Elements.{Contains-append_right}
use Rattle.ds_formula.specs.Cells.{IsInside, index_of}
use Rattle.ds_formula.specs.declared.cells.Cell.{Cell}
use Rattle.ds_eval.proofs.Walks.{index_below}
use Rattle.ds_formula.specs.Plain.{PlainContent}
use Rattle.ds_formula.specs.Refs.{Refers}
use Rattle.ds_layout.specs.declared.place.Place.TheVariants.{Index}
use Rattle.ds_state.specs.World.{PlainEdit, PlainWorld, of_cell, IsHeadBy}
use Rattle.ds_state.specs.Owing.{IsIndexed}
use Rattle.ds_state.specs.Standing.{HasContent}
use Rattle.ds_state.specs.Sound.{IsSound}
use Rattle.ds_state.proofs.Heads.{cell_of-middle}
use Rattle.ds_state.proofs.Outcomes.{kept, dropped}
use Rattle.ds_state.proofs.Noted.{of_sheet_middle}

-- what stands between two lists is in the whole
pub contains_at : (before : List PlainEdit) (e : PlainEdit) (after : List PlainEdit) → Contains (before ++ e ∷ after) e
contains_at before e after = Contains-append_right before (e ∷ after) e (zero, omega arith, refl)

-- what is in a list is in it with one more in front
pub contains_more : (x e : PlainEdit) (es : List PlainEdit) → Contains es e → Contains (x ∷ es) e
contains_more x e es (k, l, is) = (suc k, omega arith, is)

in_front : (x e : PlainEdit) (es fs : List PlainEdit) → (Contains fs e → Contains es e) → Contains (x ∷ fs) e → Contains (x ∷ es) e
in_front x e es fs again (zero, l, is) = (zero, omega arith, is)
in_front x e es fs again (suc k, l, is) = contains_more x e es (again (k, omega arith, is))

-- an edit among those of one cell is one of the list
pub from_cell : (cell : ℕ) (es : List PlainEdit) (e : PlainEdit) → Contains (of_cell cell es) e → Contains es e
unfolding of_cell
from_cell cell [] e (k, l, is) = absurd (omega arith)
from_cell cell (x ∷ es) e h = elim (eqb_tells x.cell cell) [
  | inl its ↦ in_front x e es (of_cell cell es) (λ g. from_cell cell es e g) (subst (λ (xs : List PlainEdit). Contains xs e) (kept cell x es its.0) h)
  | inr other ↦ contains_more x e es (from_cell cell es e (subst (λ (xs : List PlainEdit). Contains xs e) (dropped cell x es other.0) h))
]

-- an edit that gave a cell a head is linearized
pub gave_counts : (w : PlainWorld) (cell head : ℕ) (by : PlainEdit) → IsHeadBy (of_cell cell w.counted) head by → Contains w.counted by
gave_counts w cell head by h = from_cell cell w.counted by (subst (λ (es : List PlainEdit). Contains es by) (sym h.parts) (contains_at h.before by h.after))

-- each cell that a content refers to has its cell in the row
pub refs_indexed : (w : PlainWorld) → IsSound w → (c head : ℕ) (content : PlainContent) → HasContent w c head content → (d : Cell) → Refers content d → IsInside w.layout.shape d → IsIndexed w (index_of w.layout.shape d) c
refs_indexed w sound c head content (inl none) d refers within = absurd (subst (λ (x : PlainContent). Refers x d) none.1 refers)
refs_indexed w sound c head content (inr h) d refers within =
    let its : h.by.cell ≡ c = cell_of-middle c w.counted h.gave.before h.by h.gave.after h.gave.parts in
    let row : ℕ = index_of w.layout.shape d in
    let both = (sound.words (Index row (h.by.cell / 64))).counted h.by (gave_counts w c head h.by h.gave) refl (record { content = content; cell = d; reads = h.reads; refers = refers; is = refl }) in
    subst (λ (x : ℕ). IsIndexed w row x) its (index_below w.layout.shape d within, (of_sheet_middle w sound.of_sheet c h.gave.before h.by h.gave.after h.gave.parts).cell, both.0)
