-- One look at a cell's neighbours: its value, and how far references lead from it.
use Rattle.std.specs.Prelude.{◌≡◌, ℕ, suc, min, max, ◌==◌, if◌then◌else◌, List, [], ◌∷◌, length, map}
use Rattle.ds_formula.specs.declared.cells.Shape.{Shape}
use Rattle.ds_formula.specs.declared.cells.Cell.{Cell}
use Rattle.ds_formula.specs.Cells.{IsInside, index_of, count_of}
use Rattle.ds_formula.specs.Plain.{Formula, Literal, At, Area, Signed, Joined, Called, Formulas, Nothing, Then, PlainContent, Empty, Constant, Computed}
use Rattle.ds_eval.specs.declared.value.Value.{Value}
use Rattle.ds_eval.specs.declared.value.Value.TheVariants.{Circular}
use Rattle.ds_eval.specs.declared.inputs.Entry.{Entry}
use Rattle.ds_eval.specs.Scratch.{at}
use Rattle.ds_eval.specs.Evaluation.{is_inside, cells_of, content_value}

-- ---- heights

-- one more than the greatest height, 0 where there is none
abbrev pub above : List ℕ → ℕ
above [] = 0
above (h ∷ hs) = max (suc h) (above hs)

-- one more than the height of a cell of the sheet, 0 of any other cell
abbrev pub reference_height : Shape → (Cell → ℕ) → Cell → ℕ
reference_height shape heights c = if is_inside shape c then suc (heights c) else 0

abbrev mutual
  -- one more than the greatest height of a cell that is written in the formula, 0 where there is none
  pub formula_height : Shape → (Cell → ℕ) → Formula → ℕ
  formula_height shape heights (Literal z) = 0
  formula_height shape heights (At c) = reference_height shape heights c
  formula_height shape heights (Area area) = above (map heights (cells_of shape area))
  formula_height shape heights (Signed s f) = formula_height shape heights f
  formula_height shape heights (Joined o f g) = max (formula_height shape heights f) (formula_height shape heights g)
  formula_height shape heights (Called function fs) = formulas_height shape heights fs

  -- one more than the greatest height of a cell that is written in the arguments, 0 where there is none
  pub formulas_height : Shape → (Cell → ℕ) → Formulas → ℕ
  formulas_height shape heights Nothing = 0
  formulas_height shape heights (Then f fs) = max (formula_height shape heights f) (formulas_height shape heights fs)

-- one more than the greatest height of a cell that is written in the content, 0 where there is none
abbrev pub content_height : Shape → (Cell → ℕ) → PlainContent → ℕ
content_height shape heights Empty = 0
content_height shape heights (Constant z) = 0
content_height shape heights (Computed f) = formula_height shape heights f

-- ---- entries

-- the values of the entries
abbrev pub value_of : (Cell → Entry) → Cell → Value
value_of entries c = (entries c).value

-- the heights of the entries
abbrev pub height_of : (Cell → Entry) → Cell → ℕ
height_of entries c = (entries c).height

-- the entry of this height: at the height of all cells references lead round and round
abbrev pub entry_at : Shape → PlainContent → (Cell → Entry) → ℕ → Entry
entry_at shape content entries height = record {
  value = if height == count_of shape then Circular else content_value shape (value_of entries) content;
  height = height;
}

-- the entry of a cell that holds the content, where the cells written in it have the entries
abbrev pub local : Shape → PlainContent → (Cell → Entry) → Entry
local shape content entries = entry_at shape content entries (min (count_of shape) (content_height shape (height_of entries) content))

-- the values shown are those of the entries
pub record IsShown (shape : Shape) (entries : Cell → Entry) (shown : List Value) : Type 0 where
  pub each : length shown ≡ count_of shape
  pub same : (c : Cell) → IsInside shape c → at shown (index_of shape c) ≡ value_of entries c

-- each cell's entry is what its neighbours' entries give
pub record IsLocal (shape : Shape) (sheet : Cell → PlainContent) (entries : Cell → Entry) : Type 0 where
  pub each : (c : Cell) → IsInside shape c → entries c ≡ local shape (sheet c) entries
