-- What is answered to texts in A1 notation and in OpenFormula.
use Rattle.std.specs.Prelude.{◌≡◌, ◌≢◌, ◌⊎◌, ℕ, List, Option, Some, None, Result, Ok, Err, position}
use Rattle.std.specs.Global.{Vec}
use Rattle.ds_formula.specs.declared.cells.Shape.{Shape}
use Rattle.ds_formula.specs.declared.content.Content.{Content}
use Rattle.ds_formula.specs.declared.fault.TextFault.{TextFault}
use Rattle.ds_formula.specs.Plain.{PlainContent, plain}
use Rattle.ds_formula.specs.Grammar.{Reads, Faults, no_memory}
use Rattle.ds_a1.specs.Notation.{opens, formula_opens, is_bracket, closed, ReadsA1}
use Rattle.ds_a1.specs.declared.notation.Notation.{Notation}
use Rattle.ds_a1.specs.declared.notation.Notation.TheVariants.{OpenFormula, A1}

-- the answer is this one
abbrev pub Gives : Result (List ℕ) TextFault → Result (Vec ℕ) TextFault → Type 0
Gives wanted (Ok text) = wanted ≡ Ok text.items
Gives wanted (Err fault) = wanted ≡ Err fault

-- what may be answered to a formula in A1 notation: what it is in OpenFormula, its fault, or that memory ran out
abbrev pub FormulaOpensAs : List ℕ → Result (Vec ℕ) TextFault → Type 0
FormulaOpensAs text (Ok open_text) = formula_opens (position is_bracket text) text ≡ Ok open_text.items
FormulaOpensAs text (Err fault) = (fault ≡ no_memory) ⊎ (formula_opens (position is_bracket text) text ≡ Err fault)

-- what may be answered to a text in A1 notation: what it is in OpenFormula, its fault, or that memory ran out
abbrev pub OpensAs : List ℕ → Result (Vec ℕ) TextFault → Type 0
OpensAs text (Ok open_text) = opens text ≡ Ok open_text.items
OpensAs text (Err fault) = (fault ≡ no_memory) ⊎ (opens text ≡ Err fault)

-- what may be shown of a text of OpenFormula: its text in A1 notation, which opens as the text; none where that opens as
-- another one, or not at all
abbrev pub ShownAs : List ℕ → Option (Vec ℕ) → Type 0
ShownAs text (Some shown) = (shown.items ≡ closed text) × (opens shown.items ≡ Ok text)
ShownAs text None = opens (closed text) ≢ Ok text

-- the text in A1 notation has this fault in a sheet of the shape: its own, or that of its text in OpenFormula
pub data FaultsA1 (shape : Shape) (text : List ℕ) (fault : TextFault) : Type 0 where
  not_opened : opens text ≡ Err fault → FaultsA1 shape text fault
  opened_faults : (open_text : List ℕ) → opens text ≡ Ok open_text → Faults shape open_text fault → FaultsA1 shape text fault

-- the text in this notation has this content in a sheet of the shape
abbrev pub ReadsBy : Notation → Shape → List ℕ → PlainContent → Type 0
ReadsBy OpenFormula = Reads
ReadsBy A1 = ReadsA1

-- the text in this notation has this fault in a sheet of the shape
abbrev pub FaultsBy : Notation → Shape → List ℕ → TextFault → Type 0
FaultsBy OpenFormula = Faults
FaultsBy A1 = FaultsA1

-- what may be answered to a text in this notation: its content, its fault, or that memory ran out
abbrev pub AnswersBy : Notation → Shape → List ℕ → Result Content TextFault → Type 0
AnswersBy notation shape text (Ok c) = ReadsBy notation shape text (plain c)
AnswersBy notation shape text (Err e) = (e ≡ no_memory) ⊎ FaultsBy notation shape text e
