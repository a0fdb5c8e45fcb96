-- What lasts in a sheet from any moment to any later one, whoever steps, where no crash comes between.
use Rattle.std.specs.Prelude.{ℕ, ◌≡◌, ◌≤◌, ◌++◌, List}
use Rattle.ds_layout.specs.declared.place.Place.TheVariants.{Mark, Value, Kind, Announce}
use Rattle.ds_layout.specs.Mark.{IsClean}
use Rattle.ds_state.specs.World.{PlainEdit, PlainWorld}

-- the sheet stays; marks and announcements only grow; a cell whose mark is clean keeps its value and its kind for as
-- long as it has that mark; the linearized edits stay, in their order, and others come after them
pub record Lasts (old new : PlainWorld) : Type 0 where
  pub layout : new.layout ≡ old.layout
  pub marks : (cell : ℕ) → old.memory.cached (Mark cell) ≤ new.memory.cached (Mark cell)
  pub announcements : (p : ℕ) → old.memory.cached (Announce p) ≤ new.memory.cached (Announce p)
  pub values : (cell : ℕ) → IsClean (old.memory.cached (Mark cell)) → new.memory.cached (Mark cell) ≡ old.memory.cached (Mark cell)
      → (new.memory.cached (Value cell) ≡ old.memory.cached (Value cell)) × (new.memory.cached (Kind cell) ≡ old.memory.cached (Kind cell))
  pub added : List PlainEdit
  pub counted : new.counted ≡ old.counted ++ added
