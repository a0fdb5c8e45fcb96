-- Texts of cells in A1 notation, as people write them in Calc and Excel, and what they are in OpenFormula.
use Rattle.std.specs.Prelude.{◌≡◌, ℕ, Bool, true, false, ◌||◌, ◌==◌, nat_le, Option, Some, None, List, [], ◌∷◌, ◌++◌, codes, length, position, Result, Ok, Err, if◌then◌else◌}
use Rattle.ds_formula.specs.declared.cells.Shape.{Shape}
use Rattle.ds_formula.specs.declared.fault.TextFault.{TextFault}
use Rattle.ds_formula.specs.declared.fault.FaultKind.TheVariants.{BadToken, TooLong}
use Rattle.ds_formula.specs.Limits.{TEXT_MOST}
use Rattle.ds_formula.specs.Bytes.{begins}
use Rattle.ds_formula.specs.Plain.{PlainContent}
use Rattle.ds_formula.specs.Grammar.{Reads}
use Rattle.ds_a1.specs.Tokens.{Token, Word, Mark, tokens, begins_reference, goes_on}

-- ---- from A1

-- what a byte between words is in OpenFormula: a comma parts arguments as a semicolon does
abbrev pub opened_mark : ℕ → ℕ
opened_mark b = if b == 44 then 59 else b

-- what stands before a reference: the second one of a range has the bracket of the first
abbrev pub before : Bool → List ℕ
before second = if second then codes "." else codes "[."

-- what stands after a reference
abbrev pub after : Bool → List ℕ
after ranged = if ranged then [] else codes "]"

-- tokens in OpenFormula: a reference in its brackets, a range in one pair of them, and all else as it stands; where the
-- reference before them goes on as a range, they begin with its colon and its second reference
unfoldable pub opened : Bool → List Token → List ℕ
opened second [] = []
opened second (Mark b ∷ ts) = opened_mark b ∷ opened second ts
opened second (Word w ∷ ts) =
    if begins_reference (Word w ∷ ts) then before second ++ (w ++ (after (goes_on ts) ++ opened (goes_on ts) ts)) else w ++ opened false ts

-- whether a byte is `[` or `]`, which A1 notation has not
abbrev pub is_bracket : ℕ → Bool
is_bracket b = b == 91 || b == 93

-- a text within the limit of length
abbrev pub within_limit : List ℕ → Result (List ℕ) TextFault
within_limit text = if nat_le (length text) TEXT_MOST then Ok text else Err (record { kind = TooLong; offset = TEXT_MOST })

-- a formula, which begins with `=`: the first bracket is a fault, and so is a text over the limit
abbrev pub formula_opens : Option ℕ → List ℕ → Result (List ℕ) TextFault
formula_opens (Some at) text = Err (record { kind = BadToken; offset = at })
formula_opens None text = within_limit (opened false (tokens text))

-- what a cell's text in A1 notation is in OpenFormula; what is no formula stays as it is
unfoldable pub opens : List ℕ → Result (List ℕ) TextFault
opens text = if begins 61 text then formula_opens (position is_bracket text) text else Ok text

-- ---- to A1

-- whether a byte of OpenFormula's text stays in A1 notation: all but brackets and dots
abbrev pub stays : ℕ → Bool
stays b = if is_bracket b then false else (if b == 46 then false else true)

-- the bytes of a formula in A1 notation
abbrev pub bare : List ℕ → List ℕ
bare [] = []
bare (b ∷ bs) = if stays b then (if b == 59 then 44 else b) ∷ bare bs else bare bs

-- the text in A1 notation of a cell's text in OpenFormula
unfoldable pub closed : List ℕ → List ℕ
closed text = if begins 61 text then bare text else text

-- ---- what a text holds

-- the text in A1 notation has this content in a sheet of the shape: its text in OpenFormula has it
pub record ReadsA1 (shape : Shape) (text : List ℕ) (content : PlainContent) : Type 0 where
  pub open_text : List ℕ
  pub opens_as : opens text ≡ Ok open_text
  pub reads : Reads shape open_text content
