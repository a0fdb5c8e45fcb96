-- Lines in a notation, and what they are in OpenFormula.
use Rattle.std.specs.Prelude.{ℕ, ◌≡◌, List, ◌∷◌, ◌++◌, Ok, map, IsUtf8}
use Rattle.ds_a1.specs.declared.notation.Notation.{Notation}
use Rattle.ds_a1.specs.declared.notation.Notation.TheVariants.{A1, OpenFormula}
use Rattle.ds_a1_script.specs.EditLines.{line_opens}
use Rattle.ds_a1_script.specs.declared.lines.Commands.{Commands}
use Rattle.ds_a1_script.specs.declared.lines.Commands.TheVariants.{OfScript}

-- a line of these commands, whose text is in this notation, is this one in OpenFormula
abbrev pub LineOpens : Notation → Commands → List ℕ → List ℕ → Type 0
LineOpens OpenFormula commands line opened = opened ≡ line
LineOpens A1 commands line opened = line_opens commands line ≡ Ok opened

-- each of these lines of a script, whose texts are in this notation, is the one at its place in OpenFormula
abbrev pub LinesOpen : Notation → List (List ℕ) → List (List ℕ) → Type 0
LinesOpen OpenFormula lines opened = opened ≡ lines
LinesOpen A1 lines opened = map (line_opens OfScript) lines ≡ map Ok opened

-- no text is the line with its text, which is in A1 notation, in OpenFormula
abbrev pub HasNoText : Commands → List ℕ → Type 0
HasNoText commands line = (opened : List ℕ) → line_opens commands line ≡ Ok opened → IsUtf8 opened → ⊥

-- the line is refused, as none whose text is in this notation
abbrev pub IsRefused : Notation → Commands → List ℕ → Type 0
IsRefused OpenFormula commands line = ⊥
IsRefused A1 commands line = HasNoText commands line

-- one of these lines of a script is refused, as none whose text is in this notation
pub record HaveRefused (notation : Notation) (lines : List (List ℕ)) : Type 0 where
  pub before : List (List ℕ)
  pub line : List ℕ
  pub after : List (List ℕ)
  pub are : lines ≡ before ++ line ∷ after
  pub refused : IsRefused notation OfScript line
