-- A swing before the done bit of the edit that it replaces is persisted leaves no sound world.
use Rattle.std.proofs.Common.{ℕ, ◌≡◌, List, [], ◌∷◌, ◌++◌, refl, ap, ◌∙◌, subst, inl, inr, append_assoc}
use Rattle.ds_layout.specs.Bits.{HasBit}
use Rattle.ds_state.specs.Edits.{PlainEditCall}
use Rattle.ds_state.specs.Sound.{IsSound}
use Rattle.ds_state.specs.World.{PlainEdit, edit_of, PlainWorld, done_place, of_cell}
use Rattle.ds_state.specs.WordsFit.{IsSuperseded}
use Rattle.ds_state.proofs.Heads.{of_cell-append, of_cell-own, cell_of-middle}
use Rattle.ds_edit.specs.Early.{StandsUndone, Swings}

-- an edit that has another one after it in its cell is not the last
passed : (w : PlainWorld) (by e : PlainEdit) (before after : List PlainEdit) → of_cell by.cell w.counted ≡ before ++ by ∷ (after ++ e ∷ []) → IsSuperseded w by.process by.number
passed w by e before [] parts = record { edit = by; process_is = refl; number_is = refl; before = before; next = e; after = []; parts = parts }
passed w by e before (x ∷ after) parts = record { edit = by; process_is = refl; number_is = refl; before = before; next = x; after = after ++ e ∷ []; parts = parts }

-- a swap that wins while the done bit of the edit that it replaces is not persisted leaves no sound world
pub early_swing : (e : PlainEditCall) (head : ℕ) (by : PlainEdit) (old new : PlainWorld) → StandsUndone old e.cell by → Swings e head old new → IsSound new → ⊥
early_swing e head by old new stands swings sound =
    let cell : by.cell ≡ e.cell = cell_of-middle e.cell old.counted stands.head.before by stands.head.after stands.head.parts in
    let parts : of_cell e.cell new.counted ≡ stands.head.before ++ by ∷ (stands.head.after ++ edit_of e ∷ []) =
    ap (λ es. of_cell e.cell es) swings.counted ∙ of_cell-append e.cell old.counted (edit_of e ∷ [])
    ∙ ap (λ es. of_cell e.cell old.counted ++ es) (of_cell-own (edit_of e)) ∙ ap (λ es. es ++ edit_of e ∷ []) stands.head.parts
    ∙ append_assoc stands.head.before (by ∷ stands.head.after) (edit_of e ∷ []) in
    let superseded = passed new by (edit_of e) stands.head.before stands.head.after (ap (λ c. of_cell c new.counted) cell ∙ parts) in
    let done : HasBit (new.memory.persisted (done_place by.process by.number)) by.number = (sound.words (done_place by.process by.number)).superseded by.number refl superseded in
    stands.undone (subst (λ n. HasBit n by.number) still done)
  where
    still : new.memory.persisted (done_place by.process by.number) ≡ old.memory.persisted (done_place by.process by.number)
    still = elim swings.memory.1 [ inl won ↦ won.1.persisted (done_place by.process by.number) | inr lost ↦ lost.1.persisted (done_place by.process by.number) ]
