-- What an edit would do that swings its cell's head too early.
use Rattle.std.specs.Prelude.{ℕ, ◌≡◌, ◌++◌, [], ◌∷◌}
use Rattle.ds_layout.specs.SheetMemory.{PerformsAt}
use Rattle.ds_layout.specs.declared.place.Place.TheVariants.{Head}
use Rattle.ds_state.specs.Edits.{PlainEditCall}
use Rattle.ds_state.specs.Known.{IsDone}
use Rattle.ds_state.specs.World.{PlainEdit, edit_of, PlainWorld, of_cell, IsHeadBy}
use Rattle.ds_state.specs.declared.stage.Stage.TheVariants.{Swap}
use Rattle.ds_edit.specs.EditSteps.{access_at}

-- the head of the cell, as processes see it, is this edit's, whose done bit is not persisted
pub record StandsUndone (w : PlainWorld) (cell : ℕ) (by : PlainEdit) : Type 0 where
  pub head : IsHeadBy (of_cell cell w.counted) (w.memory.cached (Head cell)) by
  pub undone : IsDone w by.process by.number → ⊥

-- the edit swings its cell's head, which is this one, from whichever stage: it is linearized then
pub record Swings (e : PlainEditCall) (head : ℕ) (old new : PlainWorld) : Type 0 where
  pub memory : PerformsAt (access_at e (Swap head)) e.process old.memory new.memory head
  pub counted : new.counted ≡ old.counted ++ edit_of e ∷ []
