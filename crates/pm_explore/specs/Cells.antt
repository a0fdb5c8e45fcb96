-- The memory that cells show.
use Rattle.std.specs.Prelude.{ℕ, ◌≡◌, ◌≤◌, List, length}
use Rattle.ds_words.specs.declared.access.Access.{Access}
use Rattle.ds_words.specs.declared.access.Access.TheVariants.{Flush}
use Rattle.ds_words.specs.declared.access.BufferEntry.{BufferEntry}
use Rattle.ds_words.specs.declared.access.Class.{Class}
use Rattle.ds_words.specs.declared.words.Word.{Word}
use Rattle.ds_words.specs.Memory.{Memory, Performs}
use Rattle.pm_explore.specs.declared.cells.Cells.{Cells}
use Rattle.pm_explore.specs.declared.cells.Seen.{Seen}
use Rattle.pm_explore.specs.declared.cells.Seen.TheVariants as seen
use Rattle.pm_explore.specs.Lists.{IsAt, slot}

-- the words are those of the memory that the window lists, in its order, both sides of each
abbrev pub ShowsWords : List ℕ → List Word → Memory ℕ → Type 0
ShowsWords window words memory = (n : ℕ) (w : Word) → IsAt words (slot window n) w → (memory.cached n ≡ w.cached) × (memory.persisted n ≡ w.persisted)

-- the buffers are those of the first processes
abbrev pub ShowsBuffers : List (List (BufferEntry ℕ)) → Memory ℕ → Type 0
ShowsBuffers buffers memory = (p : ℕ) (b : List (BufferEntry ℕ)) → IsAt buffers p b → memory.buffer p ≡ b

-- the cells are those of the memory
pub record ShowsCells (window : List ℕ) (c : Cells) (memory : Memory ℕ) : Type 0 where
  pub fits : length c.words.items ≤ length window
  pub words : ShowsWords window c.words.items memory
  pub buffers : ShowsBuffers c.buffers.items memory

-- the word that the access flushes, if it is a flush, is of this class
abbrev pub IsFlushedAs : (ℕ → Class) → Access ℕ → Class → Type 0
IsFlushedAs class_of (Flush n) class = class_of n ≡ class
IsFlushedAs class_of _ class = Unit {0}

-- what was seen is right: in each memory that the cells show, the access can only be answered so, and lead to a memory that
-- the new cells show; or it cannot be made; or nothing is said, since its word is outside the window
abbrev pub Follows : List ℕ → Class → Access ℕ → ℕ → Cells → Cells → Seen → Type 0
Follows window class access p c c' (seen.Answer a) = (class_of : ℕ → Class) (m m' : Memory ℕ) (answer : ℕ) → IsFlushedAs class_of access class → ShowsCells window c m → Performs class_of access p m m' answer → (answer ≡ a) × ShowsCells window c' m'
Follows window class access p c c' seen.Never = (class_of : ℕ → Class) (m m' : Memory ℕ) (answer : ℕ) → ShowsCells window c m → Performs class_of access p m m' answer → ⊥
Follows window class access p c c' (seen.Outside n) = Unit {0}
