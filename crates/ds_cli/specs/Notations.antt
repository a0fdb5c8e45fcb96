-- In which notation a command reads formulas.
use Rattle.std.specs.Prelude.{◌≡◌, List, Some, codes}
use Rattle.clap.specs.Words.{Row, one_of}
use Rattle.ds_a1.specs.declared.notation.Notation.{Notation}
use Rattle.ds_a1.specs.declared.notation.Notation.TheVariants.{OpenFormula, A1}

-- the matches ask for this notation, by the flag `--a1`
abbrev pub IsNotation : List Row → Notation → Type 0
IsNotation rows A1 = one_of (codes "a1") rows ≡ Some (codes "true")
IsNotation rows OpenFormula = one_of (codes "a1") rows ≡ Some (codes "true") → ⊥
