-- Orders along the references of a sheet.
use Rattle.std.specs.Prelude.{ℕ, ◌≡◌, ◌<◌, ◌⊎◌, Bool, true, false, List, length, slice_get, slice_index_or, Some, Contains}
use Rattle.ds_formula.specs.declared.cells.Shape.{Shape}
use Rattle.ds_formula.specs.declared.cells.Cell.{Cell}
use Rattle.ds_formula.specs.Cells.{IsInside, count_of, index_of}
use Rattle.ds_formula.specs.Plain.{PlainContent}
use Rattle.ds_formula.specs.Refs.{Refers}
use Rattle.ds_eval.specs.Scratch.{Runs}
use Rattle.ds_eval.specs.SheetContents.{plain_or_empty}
use Rattle.ds_eval.specs.declared.sheet.Sheet.{Sheet}

-- the number stands in the order before this place
pub record StandsBefore (order : List ℕ) (place number : ℕ) : Type 0 where
  pub at : ℕ
  pub before : at < place
  pub there : slice_get order at ≡ Some number

-- all cells of the sheet that are written in the content stand in the order before this place
abbrev pub HasInputsBefore : Shape → List ℕ → ℕ → PlainContent → Type 0
HasInputsBefore shape order place content = (d : Cell) → Refers content d → IsInside shape d → StandsBefore order place (index_of shape d)

-- the cell stands in the order after all cells of the sheet that are written in it
pub record FollowsInputs (shape : Shape) (sheet : Cell → PlainContent) (order : List ℕ) (c : Cell) : Type 0 where
  pub place : ℕ
  pub there : slice_get order place ≡ Some (index_of shape c)
  pub inputs : HasInputsBefore shape order place (sheet c)

-- each cell of the sheet follows its inputs, but where references can be followed from it for ever
pub record GoesAlong (shape : Shape) (sheet : Cell → PlainContent) (order : List ℕ) : Type 0 where
  pub each : (c : Cell) → IsInside shape c → FollowsInputs shape sheet order c ⊎ Runs shape sheet c

-- ---- how that is found out

-- the cell with this number is among these
abbrev pub IsAmong : List Bool → ℕ → Type 0
IsAmong cells number = slice_index_or cells number false ≡ true

-- all cells of the sheet that are written in the content are among these
abbrev pub HasInputs : Shape → List Bool → PlainContent → Type 0
HasInputs shape cells content = (d : Cell) → Refers content d → IsInside shape d → IsAmong cells (index_of shape d)

-- a cell of the sheet that is written in the content is not among these
pub record LacksInput (shape : Shape) (cells : List Bool) (content : PlainContent) : Type 0 where
  pub input : Cell
  pub refers : Refers content input
  pub inside : IsInside shape input
  pub lacks : slice_index_or cells (index_of shape input) false ≡ false

-- the cell stands in the order, before this place, after all cells of the sheet that are written in it
pub record PlacedBefore (shape : Shape) (sheet : Cell → PlainContent) (order : List ℕ) (place : ℕ) (c : Cell) : Type 0 where
  pub at : ℕ
  pub before : at < place
  pub there : slice_get order at ≡ Some (index_of shape c)
  pub inputs : HasInputsBefore shape order at (sheet c)

-- these are cells, each of which stands in the order, before this place, after all cells of the sheet that are written in it
pub record ArePlaced (shape : Shape) (sheet : Cell → PlainContent) (order : List ℕ) (place : ℕ) (cells : List Bool) : Type 0 where
  pub whole : length cells ≡ count_of shape
  pub each : (c : Cell) → IsInside shape c → IsAmong cells (index_of shape c) → PlacedBefore shape sheet order place c

-- a cell of the sheet among the references is not one of these
pub record LacksOne (shape : Shape) (references : List Cell) (cells : List Bool) : Type 0 where
  pub input : Cell
  pub has : Contains references input
  pub inside : IsInside shape input
  pub lacks : slice_index_or cells (index_of shape input) false ≡ false

-- what the cell with this number holds
abbrev pub content_at : Sheet → ℕ → PlainContent
content_at sheet number = plain_or_empty (slice_get sheet.contents.items number)

-- each of as many cells of the sheet, by their numbers from 0, that is not among these has an input that is not
abbrev pub LeadsOn : Shape → (ℕ → PlainContent) → List Bool → ℕ → Type 0
LeadsOn shape content cells count = (n : ℕ) → n < count → slice_index_or cells n false ≡ false → LacksInput shape cells (content n)
