-- A mark for each cell that some sheet has, row by row from the left.
use Rattle.std.specs.Prelude.{◌≡◌, ℕ, zero, suc, ◌/◌, ◌%◌, ◌<◌, ◌≤◌, Bool, false, true, ◌&&◌, ◌||◌, nat_le, List, [], ◌∷◌, ◌++◌, length, slice_index_or, if◌then◌else◌}
use Rattle.ds_formula.specs.declared.cells.Cell.{Cell}
use Rattle.ds_formula.specs.declared.cells.Rect.{Rect}
use Rattle.ds_formula.specs.declared.references.TheConstants.{PLACES}
use Rattle.ds_formula.specs.declared.references.Rows.{Rows}
use Rattle.ds_formula.specs.Limits.{COLUMNS_MOST, ROWS_MOST}
use Rattle.ds_formula.specs.Plain.{Formula, Literal, At, Area, Signed, Joined, Called, Formulas, Nothing, Then}

-- the cell with this place among all that some sheet has
abbrev pub cell_by : ℕ → Cell
cell_by place = record { column = place % COLUMNS_MOST; row = place / COLUMNS_MOST }

-- whether the cell is one between the corners
abbrev pub is_within : Rect → Cell → Bool
is_within area cell = nat_le area.first.column cell.column && nat_le cell.column area.last.column && nat_le area.first.row cell.row && nat_le cell.row area.last.row

abbrev mutual
  -- whether the cell is written in the expression
  pub mentions : Formula → Cell → Bool
  mentions (Literal z) c = false
  mentions (At d) c = is_within (record { first = d; last = d }) c
  mentions (Area r) c = is_within r c
  mentions (Signed s f) c = mentions f c
  mentions (Joined o f g) c = mentions f c || mentions g c
  mentions (Called f fs) c = some_mentions fs c

  -- whether the cell is written in one of the arguments
  pub some_mentions : Formulas → Cell → Bool
  some_mentions Nothing c = false
  some_mentions (Then f fs) c = mentions f c || some_mentions fs c

-- the cells that have a mark, of those below the place
unfoldable pub marked_below : List Bool → ℕ → List Cell
marked_below marks zero = []
marked_below marks (suc n) = marked_below marks n ++ (if slice_index_or marks n false then cell_by n ∷ [] else [])

-- each row in which a cell has a mark is one of the rows
pub record AreRowsOf (marks : List Bool) (rows : Rows) : Type 0 where
  pub each : (k : ℕ) → k < PLACES → slice_index_or marks k false ≡ true → slice_index_or rows.has_mark (k / COLUMNS_MOST) false ≡ true
  pub behind : (k : ℕ) → k < PLACES → slice_index_or marks k false ≡ true → rows.first ≤ k / COLUMNS_MOST
  pub before : (k : ℕ) → k < PLACES → slice_index_or marks k false ≡ true → k / COLUMNS_MOST < rows.end
  pub within : rows.first ≤ ROWS_MOST

-- beside the marks that were there, the cells that pass the test have one now
pub record MarksBy (test : Cell → Bool) (old new : List Bool) : Type 0 where
  pub same_length : length new ≡ length old
  pub each : (k : ℕ) → k < PLACES → slice_index_or new k false ≡ (slice_index_or old k false || test (cell_by k))

-- beside the marks that were there, the cells of the range have one now
abbrev pub MarksArea : Rect → List Bool → List Bool → Type 0
MarksArea area = MarksBy (is_within area)

-- beside the marks that were there, the cells written in the expression have one now
abbrev pub Marks : Formula → List Bool → List Bool → Type 0
Marks f = MarksBy (mentions f)

-- the rows of the range are marked too now
pub record MarksRows (area : Rect) (old new : List Bool) : Type 0 where
  pub kept : (k : ℕ) → slice_index_or old k false ≡ true → slice_index_or new k false ≡ true
  pub marked : (k : ℕ) → area.first.row ≤ k → k ≤ area.last.row → k < ROWS_MOST → slice_index_or new k false ≡ true
