-- What a grid of texts shows: the values of the sheet whose cells hold them.
use Rattle.std.specs.Prelude.{◌≡◌, ◌≢◌, ◌<◌, ◌⊎◌, ℕ, Bool, List, [], length, slice_get, slice_index_or, Option, Some}
use Rattle.csv.specs.Reading.{AreRecords, default_config, strip_bom}
use Rattle.csv.specs.declared.parser.State.TheVariants as state
use Rattle.ds_formula.specs.declared.cells.Shape.{Shape}
use Rattle.ds_formula.specs.declared.cells.Cell.{Cell}
use Rattle.ds_formula.specs.declared.content.Content.{Content}
use Rattle.ds_formula.specs.declared.fault.TextFault.{TextFault}
use Rattle.ds_formula.specs.Shapes.{MayHave}
use Rattle.ds_formula.specs.Cells.{IsInside, count_of, cell_at, index_of}
use Rattle.ds_formula.specs.Plain.{PlainContent, plain}
use Rattle.ds_a1.specs.Answers.{ReadsBy, FaultsBy}
use Rattle.ds_eval.specs.declared.value.Value.{Value}
use Rattle.ds_eval.specs.Scratch.{IsScratch}
use Rattle.ds_script_io.specs.Input.{EndsWith}
use Rattle.ds_script_io.specs.declared.input.InputEnd.{InputEnd}
use Rattle.ds_script_io.specs.declared.input.InputEnd.TheVariants as inputs
use Rattle.ds_grid.specs.Labels.{held_text, table_text}
use Rattle.ds_grid.specs.declared.form.GridForm.{GridForm}
use Rattle.ds_grid.specs.declared.ending.GridFault.{GridFault}
use Rattle.ds_grid.specs.declared.ending.GridFault.TheVariants.{EmptyGrid, BadCsv, TooLarge}
use Rattle.ds_grid.specs.declared.ending.GridEnd.{GridEnd}
use Rattle.ds_grid.specs.declared.ending.GridEnd.TheVariants.{Ended, Grid, CellFault, TooLong, ReadFailed, WriteFailed, NoMemory}

-- ---- records

-- the bytes are CSV without a heading line, and these are its records
abbrev pub IsCsv : List ℕ → List (List (List ℕ)) → Type 0
IsCsv bytes rows = AreRecords default_config state.StartRecord (strip_bom bytes) rows

-- how many fields a record has
abbrev pub width : List (List (List ℕ)) → ℕ → ℕ
width rows row = length (slice_index_or rows row [])

-- every record has as many fields as the first one
abbrev pub AreEven : List (List (List ℕ)) → Type 0
AreEven rows = (row : ℕ) → row < length rows → width rows row ≡ width rows 0

-- the records fill a sheet of this shape: it has a row for each record, and a column for each field
pub record IsGridOf (rows : List (List (List ℕ))) (shape : Shape) : Type 0 where
  pub even : AreEven rows
  pub columns : shape.columns ≡ width rows 0
  pub rows_are : shape.rows ≡ length rows

-- a record has another number of fields than the first one
pub record AreUneven (rows : List (List (List ℕ))) : Type 0 where
  pub row : ℕ
  pub inside : row < length rows
  pub differs : width rows row ≢ width rows 0

-- every record has as many fields as the first one, and no sheet is so large
pub record IsTooLarge (rows : List (List (List ℕ))) : Type 0 where
  pub even : AreEven rows
  pub none : MayHave (width rows 0) (length rows) → ⊥

-- why records are no grid: there are none, they are uneven, or no sheet is so large; the first that holds is the
-- fault
abbrev pub HasFault : List (List (List ℕ)) → GridFault → Type 0
HasFault rows EmptyGrid = rows ≡ []
HasFault rows BadCsv = AreUneven rows
HasFault rows TooLarge = IsTooLarge rows

-- ---- texts

-- the field that the records have for a cell
abbrev pub cell_field : List (List (List ℕ)) → Cell → List ℕ
cell_field rows cell = slice_index_or (slice_index_or rows cell.row []) cell.column []

-- the text that a cell holds: none where its field passes through as a label
abbrev pub text_at : GridForm → List (List (List ℕ)) → Cell → List ℕ
text_at form rows cell = held_text form (cell_field rows cell)

-- these are the contents of the texts of the first cells, row by row from the left
abbrev pub AreRead : GridForm → Shape → List (List (List ℕ)) → List Content → Type 0
AreRead form shape rows contents = (index : ℕ) (content : Content) → slice_get contents index ≡ Some content → ReadsBy form.notation shape (text_at form rows (cell_at shape index)) (plain content)

-- these are the contents of the texts of all cells, row by row from the left
pub record AllRead (form : GridForm) (shape : Shape) (rows : List (List (List ℕ))) (contents : List Content) : Type 0 where
  pub each : AreRead form shape rows contents
  pub all : length contents ≡ count_of shape

-- the text of this cell has this fault, and the text of each cell before it has a content
pub record IsFirstFault (form : GridForm) (shape : Shape) (rows : List (List (List ℕ))) (cell : Cell) (fault : TextFault) : Type 0 where
  pub inside : IsInside shape cell
  pub faults : FaultsBy form.notation shape (text_at form rows cell) fault
  pub before : (index : ℕ) → index < index_of shape cell → (content : PlainContent) × ReadsBy form.notation shape (text_at form rows (cell_at shape index)) content

-- why the contents of a grid of this shape are not read
abbrev pub FailsAt : GridForm → Shape → List (List (List ℕ)) → GridEnd → Type 0
FailsAt form shape rows (CellFault cell fault) = IsFirstFault form shape rows cell fault
FailsAt form shape rows NoMemory = Unit {0}
FailsAt form shape rows end = ⊥

-- ---- the report

-- the records are those of a sheet, each cell holds the content of its text, and its values from scratch
-- are written, with the labels as they stand
pub record Shows (form : GridForm) (bytes out : List ℕ) : Type 0 where
  pub rows : List (List (List ℕ))
  pub csv : IsCsv bytes rows
  pub shape : Shape
  pub grid : IsGridOf rows shape
  pub contents : Cell → PlainContent
  pub reads : (cell : Cell) → IsInside shape cell → ReadsBy form.notation shape (text_at form rows cell) (contents cell)
  pub values : List Value
  pub scratch : IsScratch shape contents values
  pub is : out ≡ table_text form shape.columns rows values

-- the bytes are CSV, whose records have this fault
pub record HasGridFault (bytes : List ℕ) (fault : GridFault) : Type 0 where
  pub rows : List (List (List ℕ))
  pub csv : IsCsv bytes rows
  pub faults : HasFault rows fault

-- the bytes are CSV, whose records are those of a sheet, and this cell's text is the first with a fault
pub record HasCellFault (form : GridForm) (bytes : List ℕ) (cell : Cell) (fault : TextFault) : Type 0 where
  pub rows : List (List (List ℕ))
  pub csv : IsCsv bytes rows
  pub shape : Shape
  pub grid : IsGridOf rows shape
  pub first : IsFirstFault form shape rows cell fault

-- why a grid shows no values
abbrev pub Fails : GridForm → List ℕ → GridEnd → Type 0
Fails form bytes (Grid fault) = HasGridFault bytes fault
Fails form bytes (CellFault cell fault) = HasCellFault form bytes cell fault
Fails form bytes NoMemory = Unit {0}
Fails form bytes end = ⊥

-- what was read, why no more was, and what was written, by how the report ended
abbrev pub Ran : GridForm → InputEnd → List ℕ → List ℕ → GridEnd → Type 0
Ran form end bytes out Ended = (end ≡ inputs.Ended) × Shows form bytes out
Ran form end bytes out (Grid fault) = (end ≡ inputs.Ended) × (out ≡ []) × HasGridFault bytes fault
Ran form end bytes out (CellFault cell fault) = (end ≡ inputs.Ended) × (out ≡ []) × HasCellFault form bytes cell fault
Ran form end bytes out TooLong = (end ≡ inputs.TooLong) × (out ≡ [])
Ran form end bytes out ReadFailed = (end ≡ inputs.Failed) × (out ≡ [])
Ran form end bytes out WriteFailed = Unit {0}
Ran form end bytes out NoMemory = out ≡ []

-- a grid that was read: how the reading of its bytes ended, and how the report did
pub record Reported (form : GridForm) (limit : ℕ) (remaining : Option (List ℕ)) (ended failed : Bool) (bytes out : List ℕ) (result : GridEnd) : Type 0 where
  pub end : InputEnd
  pub ends_with : EndsWith limit remaining ended failed bytes end
  pub ran : Ran form end bytes out result

-- there was no room for an input: no byte was read, and none was written
pub record Unread (bytes out : List ℕ) (result : GridEnd) : Type 0 where
  pub none_read : bytes ≡ []
  pub none_written : out ≡ []
  pub is : result ≡ NoMemory

-- what became of an input: it was read and reported as a grid, or there was no room for it
abbrev pub Concludes : GridForm → ℕ → Option (List ℕ) → Bool → Bool → List ℕ → List ℕ → GridEnd → Type 0
Concludes form limit remaining ended failed bytes out result = Reported form limit remaining ended failed bytes out result ⊎ Unread bytes out result
