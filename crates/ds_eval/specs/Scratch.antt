-- The values of a sheet, from the contents of its cells alone.
use Rattle.std.specs.Prelude.{◌≡◌, ℕ, zero, suc, List, length, Option, Some, None, slice_get}
use Rattle.ds_formula.specs.declared.cells.Shape.{Shape}
use Rattle.ds_formula.specs.declared.cells.Cell.{Cell}
use Rattle.ds_formula.specs.Cells.{IsInside, index_of, count_of}
use Rattle.ds_formula.specs.Plain.{PlainContent, Empty, Constant, Computed}
use Rattle.ds_formula.specs.Refs.{Refers}
use Rattle.ds_eval.specs.declared.value.Value.{Value}
use Rattle.ds_eval.specs.declared.value.Value.TheVariants.{Blank, Number, Circular}
use Rattle.ds_eval.specs.Evaluation.{content_value}

-- ---- walks along references

-- a walk of n steps begins at the cell: each step goes from a cell to one of the sheet that is written in it
abbrev pub Walk : Shape → (Cell → PlainContent) → ℕ → Cell → Type 0
Walk shape sheet zero c = Unit {0}
Walk shape sheet (suc n) c = (d : Cell) × Refers (sheet c) d × IsInside shape d × Walk shape sheet n d

-- a walk of as many steps as there are cells: then references can be followed for ever
abbrev pub Runs : Shape → (Cell → PlainContent) → Cell → Type 0
Runs shape sheet c = Walk shape sheet (count_of shape) c

-- walks of every length begin where one of as many steps as there are cells does
pub record WalkLaw (shape : Shape) (sheet : Cell → PlainContent) (c : Cell) : Type 0 where
  pub runs_on : Runs shape sheet c → (k : ℕ) → Walk shape sheet k c
  pub runs : ((k : ℕ) → Walk shape sheet k c) → Runs shape sheet c

-- ---- values

-- a cell's value before any formula is evaluated
abbrev pub first_value : PlainContent → Value
first_value Empty = Blank
first_value (Constant z) = Number z
first_value (Computed f) = Blank

-- the value of a cell, where references are followed n times
abbrev pub value : Shape → (Cell → PlainContent) → ℕ → Cell → Value
value shape sheet zero c = first_value (sheet c)
value shape sheet (suc n) c = content_value shape (value shape sheet n) (sheet c)

-- the value, or a blank where there is none
abbrev pub or_blank : Option Value → Value
or_blank None = Blank
or_blank (Some v) = v

-- the value with this number
abbrev pub at : List Value → ℕ → Value
at shown k = or_blank (slice_get shown k)

-- the values from scratch: Err:522 where references can be followed for ever, else the value by recursion
pub record IsScratch (shape : Shape) (sheet : Cell → PlainContent) (shown : List Value) : Type 0 where
  pub each : length shown ≡ count_of shape
  pub circular : (c : Cell) → IsInside shape c → Runs shape sheet c → at shown (index_of shape c) ≡ Circular
  pub computed : (c : Cell) → IsInside shape c → (Runs shape sheet c → ⊥) → at shown (index_of shape c) ≡ value shape sheet (count_of shape) c
