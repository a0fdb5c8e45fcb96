-- Scripts that are read, what is run of them, and what that comes to.
use Rattle.std.specs.Prelude.{ℕ, ◌≡◌, ◌⊎◌, ◌+◌, ◌-◌, Bool, List, Option, Some, None, length}
use Rattle.std.specs.Io.KnownBytes.{Consumes, IsAtEnd}
use Rattle.ds_formula.specs.Limits.{INPUT_MOST}
use Rattle.ds_a1.specs.declared.notation.Notation.{Notation}
use Rattle.ds_a1.specs.declared.notation.Notation.TheVariants.{A1, OpenFormula}
use Rattle.ds_a1_script.specs.OpenScripts.{OpensScript}
use Rattle.ds_a1_script.specs.declared.script.OpenScript.{OpenScript}
use Rattle.ds_a1_script.specs.declared.script.RefusedLine.{RefusedLine}
use Rattle.ds_script_io.specs.declared.ending.ScriptEnd.{ScriptEnd}
use Rattle.ds_script_io.specs.declared.ending.ScriptEnd.TheVariants.{Ended, Fault, TooLong, ReadFailed}
use Rattle.ds_script_io.specs.declared.input.InputEnd.{InputEnd}
use Rattle.ds_script_io.specs.declared.input.InputEnd.TheVariants as inputs
use Rattle.ds_batch.specs.declared.run.ReadScript.{ReadScript}
use Rattle.ds_batch.specs.Statuses.{run_status_of}

-- ---- reading

-- why an input that has ended so is no script in this notation; one in OpenFormula that is too long is run up to its limit
abbrev pub unread_of : InputEnd → Notation → Option ScriptEnd
unread_of inputs.Failed notation = Some ReadFailed
unread_of inputs.TooLong A1 = Some TooLong
unread_of end notation = None

-- these bytes were read as a script in this notation: all that the reader had; or, in OpenFormula, one more than a script has
pub record WereRead (notation : Notation) (remaining : Option (List ℕ)) (bytes : List ℕ) : Type 0 where
  pub left : Option (List ℕ)
  pub consumes : Consumes remaining left bytes
  pub end : IsAtEnd left ⊎ ((notation ≡ OpenFormula) × (length bytes ≡ INPUT_MOST + 1))

-- what a script in this notation is in OpenFormula, where it is in another one
abbrev pub IsOpened : Notation → List ℕ → Option OpenScript → Type 0
IsOpened OpenFormula script opened = opened ≡ None
IsOpened A1 script opened = (it : OpenScript) × (opened ≡ Some it) × OpensScript 0 script it.text.items it.refused

-- the script of these bytes, in this notation, was read and opened
pub record IsReadOf (notation : Notation) (bytes : List ℕ) (read : ReadScript) : Type 0 where
  pub same : read.script.items ≡ bytes
  pub open_script : IsOpened notation bytes read.opened

-- ---- what is run

-- the script in OpenFormula, where it stands so or was opened
abbrev pub text_by : List ℕ → Option OpenScript → List ℕ
text_by script None = script
text_by script (Some opened) = opened.text.items

-- what is run of a script that was read
abbrev pub text_of : ReadScript → List ℕ
text_of read = text_by read.script.items read.opened

-- the notation that a script was in: it was opened if it was in A1 notation
abbrev pub notation_by : Option OpenScript → Notation
notation_by None = OpenFormula
notation_by (Some opened) = A1

-- ---- what it comes to

-- the line whose text was refused when a script was opened
abbrev pub refused_by : Option OpenScript → Option RefusedLine
refused_by None = None
refused_by (Some opened) = opened.refused

-- the line at which a script ends whose text is refused, where what is before it has ended well
abbrev pub refused_at : ScriptEnd → Option OpenScript → Option RefusedLine
refused_at Ended opened = refused_by opened
refused_at end opened = None

-- how many lines at most are before the line that is refused
abbrev pub lines_before : Option RefusedLine → ℕ
lines_before None = 18446744073709551615
lines_before (Some refused) = refused.line - 1

-- how many lines at most were carried out of a script that ended so
abbrev pub lines_done : ScriptEnd → Option OpenScript → ℕ
lines_done Ended opened = lines_before (refused_by opened)
lines_done (Fault line kind) opened = line - 1
lines_done end opened = 0

-- the exit status by the line that is refused, or else by how the script ended
abbrev pub status_by : Option RefusedLine → ScriptEnd → Bool → ℕ → ℕ
status_by None end strict refused = run_status_of end strict refused
status_by (Some line) end strict refused = 1
