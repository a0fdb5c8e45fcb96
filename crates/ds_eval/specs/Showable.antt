-- What a cell can show: numbers of 64 bits, and Err:522 just at the height of all cells.
use Rattle.std.specs.Prelude.{◌≡◌, ◌<◌, true}
use Rattle.ds_formula.specs.declared.cells.Shape.{Shape}
use Rattle.ds_formula.specs.Cells.{count_of}
use Rattle.ds_eval.specs.declared.value.Value.{Value}
use Rattle.ds_eval.specs.declared.value.Value.TheVariants.{Number, Circular}
use Rattle.ds_eval.specs.declared.inputs.Entry.{Entry}
use Rattle.ds_eval.specs.Numbers.{is_i64}

-- the value is not Err:522, and if it is a number, 64 bits have it
abbrev pub IsOrdinary : Value → Type 0
IsOrdinary (Number z) = is_i64 z ≡ true
IsOrdinary Circular = ⊥
IsOrdinary other = Unit {0}

-- a cell can show this entry
pub data CanShow (shape : Shape) (e : Entry) : Type 0 where
  ordinary : e.height < count_of shape → IsOrdinary e.value → CanShow shape e
  round : e.height ≡ count_of shape → e.value ≡ Circular → CanShow shape e
