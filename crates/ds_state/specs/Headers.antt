-- What the headers of announced edits say.
use Rattle.std.specs.Prelude.{ℕ, ◌≡◌, ◌+◌, ◌⊎◌, Some}
use Rattle.ds_words.specs.Memory.{Memory}
use Rattle.ds_layout.specs.Announcement.{number_after}
use Rattle.ds_layout.specs.Header.{header_of}
use Rattle.ds_layout.specs.Places.{cells_of}
use Rattle.ds_layout.specs.declared.header.Header.{Header}
use Rattle.ds_layout.specs.declared.layout.Layout.{Layout}
use Rattle.ds_layout.specs.declared.place.Place.{Place}
use Rattle.ds_layout.specs.declared.place.Place.TheVariants as place
use Rattle.ds_state.specs.World.{PlainWorld}

-- one of these two words, the sides of an announcement, says this number, in any phase
abbrev pub SayNumber : ℕ → ℕ → ℕ → Type 0
SayNumber cached persisted number = (number_after cached ≡ number + 1) ⊎ (number_after persisted ≡ number + 1)

-- a side of the process's announcement says this number
abbrev pub IsSaid : Memory Place → ℕ → ℕ → Type 0
IsSaid m p number = SayNumber (m.cached (place.Announce p)) (m.persisted (place.Announce p)) number

-- the word is a header of this cell of the sheet
pub record SaysCell (layout : Layout) (cell word : ℕ) : Type 0 where
  pub header : Header
  pub is : header_of (cells_of layout) word ≡ Some header
  pub of_cell : header.cell ≡ cell

-- both sides of the header of the process's record with this number say one and the same cell of the sheet
pub record HasCell (w : PlainWorld) (p number : ℕ) : Type 0 where
  pub cell : ℕ
  pub cached : SaysCell w.layout cell (w.memory.cached (place.Header p number))
  pub persisted : SaysCell w.layout cell (w.memory.persisted (place.Header p number))
