-- Scripts in A1 notation, and what they are in OpenFormula.
use Rattle.std.specs.Prelude.{◌≡◌, ◌⊎◌, ℕ, ◌+◌, true, List, [], ◌∷◌, ◌++◌, Option, Some, None, Result, Ok, Err}
use Rattle.std.specs.Global.{Vec}
use Rattle.std.specs.declared.alloc.AllocError.{AllocError}
use Rattle.ds_formula.specs.declared.fault.TextFault.{TextFault}
use Rattle.ds_formula.specs.Grammar.{no_memory}
use Rattle.ds_script_io.specs.ScriptLines.{NoLine, ALine, LongLine, next_of}
use Rattle.ds_a1_script.specs.declared.lines.Commands.{Commands}
use Rattle.ds_a1_script.specs.declared.lines.Commands.TheVariants.{OfScript}
use Rattle.ds_a1_script.specs.declared.script.RefusedLine.{RefusedLine}
use Rattle.ds_a1_script.specs.EditLines.{line_opens}

-- what may be answered to a line: what it is in OpenFormula, the fault of its text, or that memory ran out
abbrev pub LineOpensAs : Commands → List ℕ → Result (Vec ℕ) TextFault → Type 0
LineOpensAs commands line (Ok open_line) = line_opens commands line ≡ Ok open_line.items
LineOpensAs commands line (Err fault) = (fault ≡ no_memory) ⊎ (line_opens commands line ≡ Err fault)

-- the answer is the line that was made, or that memory ran out
abbrev pub IsOrNoMemory : Result (Vec ℕ) AllocError → Result (Vec ℕ) TextFault → Type 0
IsOrNoMemory made (Ok line) = made ≡ Ok line
IsOrNoMemory made (Err fault) = fault ≡ no_memory

-- no line is at the front of a script: it has ended, or its first line is too long
abbrev pub HasNoLine : List ℕ → Type 0
HasNoLine script = (next_of true script ≡ NoLine) ⊎ (next_of true script ≡ LongLine)

-- after this many lines a script goes on so in OpenFormula: line by line, up to the first whose text is refused; a line
-- that is too long ends what is read of a script, so it and what is after it stay as they stand
pub data OpensScript : ℕ → List ℕ → List ℕ → Option RefusedLine → Type 0 where
  ends : (n : ℕ) (script : List ℕ) → HasNoLine script → OpensScript n script script None
  refused : (n : ℕ) (script line rest : List ℕ) (fault : TextFault)
      → next_of true script ≡ ALine line rest → line_opens OfScript line ≡ Err fault → OpensScript n script [] (Some (record { line = n + 1; fault = fault }))
  goes_on : (n : ℕ) (script line rest open_line text : List ℕ) (end : Option RefusedLine)
      → next_of true script ≡ ALine line rest → line_opens OfScript line ≡ Ok open_line → OpensScript (n + 1) rest text end → OpensScript n script ((open_line ++ (10 ∷ [])) ++ text) end
