-- Numbers and flags of the command line.
use Rattle.std.specs.Prelude.{◌≡◌, ◌↔◌, ◌⊎◌, ℕ, Bool, IsTrue, List, None, Some, codes}
use Rattle.std.specs.Str.Parse.{IsNumeral, digits_value}
use Rattle.clap.specs.Words.{Row, Text, first_of, one_of}

-- the text is a decimal number, digits alone, and it is this one
pub record IsWritten (text : List ℕ) (number : ℕ) : Type 0 where
  pub numeral : IsNumeral 10 text
  pub value : number ≡ digits_value 10 text

-- the option of this name has a decimal number as its value, and it is this one
pub record IsNumberOf (rows : List Row) (name : Text) (number : ℕ) : Type 0 where
  pub text : Text
  pub has : first_of name rows ≡ Some text
  pub written : IsWritten text number

-- the option of this name has a value
abbrev pub HasValue : List Row → Text → Type 0
HasValue rows name = (text : Text) × (first_of name rows ≡ Some text)

-- the option of this name has this number as its value, or is not given, and the number is this default
abbrev pub IsNumberOr : List Row → Text → ℕ → ℕ → Type 0
IsNumberOr rows name default number = IsNumberOf rows name number ⊎ ((first_of name rows ≡ None) × (number ≡ default))

-- the flag of this name is set just where this holds
abbrev pub IsFlag : List Row → Text → Bool → Type 0
IsFlag rows name holds = IsTrue holds ↔ (one_of name rows ≡ Some (codes "true"))
