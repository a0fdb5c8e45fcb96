-- What a caller reads of a world.
use Rattle.std.specs.Prelude.{ℕ, ◌≡◌, List, [], map, slice_index_or, Some}
use Rattle.ds_formula.specs.declared.cells.Cell.{Cell}
use Rattle.ds_formula.specs.Cells.{IsInside}
use Rattle.ds_layout.specs.declared.place.Place.{Place}
use Rattle.ds_layout.specs.SheetMemory.{memory}
use Rattle.ds_state.specs.Value.{WorldValue, world_of}
use Rattle.ds_state.specs.Shown.{value_in, mark_in, text_in}
use Rattle.ds_c.specs.declared.rows.ValueRow.{ValueRow}
use Rattle.ds_c.specs.declared.rows.MarkRow.{MarkRow}
use Rattle.ds_c.specs.declared.rows.SizeRow.{SizeRow}
use Rattle.ds_c.specs.declared.rows.WordRow.{WordRow}
use Rattle.ds_c.specs.declared.rows.PlaceRow.{PlaceRow}
use Rattle.ds_c.specs.declared.failure.Failure.{Failure}
use Rattle.ds_c.specs.declared.failure.Failure.TheVariants.{NoCell, NoMemory}
use Rattle.ds_c.specs.Rows.{value_row, mark_row, size_row, place_named}

-- what is answered is so of the world, which stays
abbrev pub Reads : {R : Type 0} → (WorldValue → R → Type 0) → WorldValue → R → WorldValue → Type 0
Reads P old told new = P old told × (new ≡ old)

-- the row says how large the sheet is
abbrev pub IsSizeOf : WorldValue → SizeRow → Type 0
IsSizeOf v row = row ≡ size_row v.sheet.layout

-- the row says the value of the cell, as processes see it
abbrev pub IsValueOf : Cell → WorldValue → ValueRow → Type 0
IsValueOf cell v row = row ≡ value_row (value_in (world_of v) cell)

-- the row says the mark of the cell, as processes see it
abbrev pub IsMarkOf : Cell → WorldValue → MarkRow → Type 0
IsMarkOf cell v row = row ≡ mark_row (mark_in (world_of v) cell)

-- the bytes are the text of the cell, as processes see it
abbrev pub IsTextOf : Cell → WorldValue → List ℕ → Type 0
IsTextOf cell v bytes = bytes ≡ text_in (world_of v) cell

-- the row says both sides of the word that is named
pub record IsWordOf (named : PlaceRow) (v : WorldValue) (row : WordRow) : Type 0 where
  pub place : Place
  pub place_is : place_named named ≡ Some place
  pub cached : row.cached ≡ (memory v.sheet).cached place
  pub persisted : row.persisted ≡ (memory v.sheet).persisted place

-- the rows say the values of the process's last report that was settled; none where it has had none
abbrev pub AreValuesOf : ℕ → WorldValue → List ValueRow → Type 0
AreValuesOf p v rows = rows ≡ map value_row (slice_index_or v.reports.values p [])

-- nothing can be wrong
abbrev pub Never : WorldValue → Failure → Type 0
Never v why = ⊥

-- the sheet has no such cell, or an allocation failed
abbrev pub LacksText : Cell → WorldValue → Failure → Type 0
LacksText cell v NoCell = IsInside v.sheet.layout.shape cell → ⊥
LacksText cell v NoMemory = Unit {0}
LacksText cell v why = ⊥
