-- The functions, in one table; and the scope of a text: what it may name.
use Rattle.std.specs.Prelude.{ℕ, Bool, true, false, ◌==◌, ◌&&◌, nat_le, Option, Some, None, List, [], ◌∷◌, ◌++◌, map, codes, if◌then◌else◌}
use Rattle.std.specs.Char.{to_ascii_lowercase}
use Rattle.std.specs.Cmp.Lexicographic.{pointwise}
use Rattle.std.specs.Option.{is_some}
use Rattle.ds_formula.specs.declared.cells.Shape.{Shape}
use Rattle.ds_formula.specs.declared.content.Function.{Function}
use Rattle.ds_formula.specs.declared.content.Function.TheVariants.{Sum, Min, Max, Abs, Mod, Quotient, If, Count, And, Or, Not}

-- a function as texts call it: its name in capital letters, how many arguments it takes at least and at most (None: as
-- many as one likes), and whether a range, or a plain reference, stands for its cells as a whole argument
pub record Signature : Type 0 where
  pub name : List ℕ
  pub least : ℕ
  pub most : Option ℕ
  pub ranges : Bool

-- the table of the functions (OpenFormula 6.16.61, 6.18.48, 6.18.45, 6.16.2, 6.16.42, 6.16.48, 6.15.4, 6.13.6, 6.15.2,
-- 6.15.8 and 6.15.7)
abbrev pub signature_of : Function → Signature
signature_of Sum = record { name = codes "SUM"; least = 1; most = None; ranges = true }
signature_of Min = record { name = codes "MIN"; least = 1; most = None; ranges = true }
signature_of Max = record { name = codes "MAX"; least = 1; most = None; ranges = true }
signature_of Abs = record { name = codes "ABS"; least = 1; most = Some 1; ranges = false }
signature_of Mod = record { name = codes "MOD"; least = 2; most = Some 2; ranges = false }
signature_of Quotient = record { name = codes "QUOTIENT"; least = 2; most = Some 2; ranges = false }
signature_of If = record { name = codes "IF"; least = 2; most = Some 3; ranges = false }
signature_of Count = record { name = codes "COUNT"; least = 1; most = None; ranges = true }
signature_of And = record { name = codes "AND"; least = 1; most = None; ranges = true }
signature_of Or = record { name = codes "OR"; least = 1; most = None; ranges = true }
signature_of Not = record { name = codes "NOT"; least = 1; most = Some 1; ranges = false }

-- the first seven functions
abbrev pub first_functions : List Function
first_functions = Sum ∷ Min ∷ Max ∷ Abs ∷ Mod ∷ Quotient ∷ If ∷ []

-- the four that came later
abbrev pub later_functions : List Function
later_functions = Count ∷ And ∷ Or ∷ Not ∷ []

-- all functions
abbrev pub all_functions : List Function
all_functions = first_functions ++ later_functions

-- the function's name
abbrev pub name_of : Function → List ℕ
name_of f = (signature_of f).name

-- whether n is no more than the most, where there is a most
abbrev pub is_within_most : ℕ → Option ℕ → Bool
is_within_most n None = true
is_within_most n (Some most) = nat_le n most

-- whether the function takes that number of arguments
abbrev pub takes : Function → ℕ → Bool
takes f n = nat_le (signature_of f).least n && is_within_most n (signature_of f).most

-- whether a range may be an argument of the function
abbrev pub takes_ranges : Function → Bool
takes_ranges f = (signature_of f).ranges

-- the bytes are the function's name, in letters of either case
abbrev pub is_name_of : Function → List ℕ → Bool
is_name_of f name = pointwise ◌==◌ (map to_ascii_lowercase name) (map to_ascii_lowercase (name_of f))

-- the first function of the list that has the name
abbrev pub function_named : List Function → List ℕ → Option Function
function_named [] name = None
function_named (f ∷ fs) name = if is_name_of f name then Some f else function_named fs name

-- whether the list has a function of this one's name
unfoldable pub knows : List Function → Function → Bool
knows functions f = is_some (function_named functions (name_of f))

-- what a text may name: the cells of a sheet of this shape, and these functions
pub record Scope : Type 0 where
  pub shape : Shape
  pub functions : List Function

-- the cells of a sheet of this shape, and these functions
abbrev pub scope_with : List Function → Shape → Scope
scope_with functions shape = record { shape = shape; functions = functions }

-- what the texts of a sheet may name: its cells, and all functions
abbrev pub scope_of : Shape → Scope
scope_of = scope_with all_functions
