-- What the definitions that follow the code's folds mean, in the subject's own words.
use Rattle.std.specs.Prelude.{◌≡◌, ℕ, suc, ◌<◌, ◌≤◌, ℤ, pos, ◌+ℤ◌, ◌*ℤ◌, ◌<ℤ◌, ◌≤ℤ◌, List}
use Rattle.std.specs.List.{Contains, AllPairs}
use Rattle.ds_formula.specs.declared.cells.Shape.{Shape}
use Rattle.ds_formula.specs.declared.cells.Cell.{Cell}
use Rattle.ds_formula.specs.declared.cells.Rect.{Rect}
use Rattle.ds_formula.specs.Cells.{IsInside, IsWithin}
use Rattle.ds_formula.specs.Plain.{PlainContent}
use Rattle.ds_formula.specs.Refs.{Refers, IsBefore}

-- one more than the greatest height of a cell of the sheet that is written in the content, 0 where there is none
pub record IsAbove (shape : Shape) (content : PlainContent) (heights : Cell → ℕ) (height : ℕ) : Type 0 where
  pub none : ((d : Cell) → Refers content d → IsInside shape d → ⊥) → height ≡ 0
  pub some : 0 < height → (d : Cell) × Refers content d × IsInside shape d × (height ≡ suc (heights d))
  pub each : (d : Cell) → Refers content d → IsInside shape d → suc (heights d) ≤ height

-- the cells of the sheet within the range, in reading order, none twice
pub record AreCellsOf (shape : Shape) (area : Rect) (cells : List Cell) : Type 0 where
  pub ascending : AllPairs IsBefore cells
  pub only : (c : Cell) → Contains cells c → IsWithin area c × IsInside shape c
  pub all : (c : Cell) → IsWithin area c → IsInside shape c → Contains cells c

-- the whole number below a / b, or at it
pub record IsFloor (a b quotient : ℤ) : Type 0 where
  pub of_positive : (pos 0 <ℤ b) → ((b *ℤ quotient) ≤ℤ a) × (a <ℤ (b *ℤ (quotient +ℤ pos 1)))
  pub of_negative : (b <ℤ pos 0) → (a ≤ℤ (b *ℤ quotient)) × ((b *ℤ (quotient +ℤ pos 1)) <ℤ a)
