-- Where ranges stand in an expression: a range may only be a whole argument of a function that takes ranges.
use Rattle.std.specs.Prelude.{ℕ, Option, Some, None, if◌then◌else◌}
use Rattle.ds_formula.specs.declared.content.Function.{Function}
use Rattle.ds_formula.specs.declared.ranges.Ranges.{Ranges}
use Rattle.ds_formula.specs.declared.ranges.Ranges.TheVariants.{Placed, Bare, Misplaced}
use Rattle.ds_formula.specs.Functions.{takes_ranges}

-- the ranges of an expression that is used in a place that takes none
abbrev pub used : Ranges → Ranges
used Placed = Placed
used (Bare left) = Misplaced left
used (Misplaced left) = Misplaced left

-- the ranges of one expression and of another one after it
abbrev pub first_of : Ranges → Ranges → Ranges
first_of Placed other = other
first_of (Bare left) other = Bare left
first_of (Misplaced left) other = Misplaced left

-- the ranges of an expression that is a whole argument of the function
abbrev pub as_argument : Function → Ranges → Ranges
as_argument function Placed = Placed
as_argument function (Bare left) = if takes_ranges function then Placed else Misplaced left
as_argument function (Misplaced left) = Misplaced left

-- the place of the leftmost range that stands where none may, by the bytes left
abbrev pub misplaced : Ranges → Option ℕ
misplaced Placed = None
misplaced (Bare left) = Some left
misplaced (Misplaced left) = Some left
