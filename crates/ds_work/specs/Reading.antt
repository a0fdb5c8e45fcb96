-- What reading the content of a text makes of a work.
use Rattle.std.specs.Prelude.{◌≡◌, ◌⊎◌, List}
use Rattle.ds_formula.specs.declared.cells.Cell.{Cell}
use Rattle.ds_formula.specs.declared.cells.Shape.{Shape}
use Rattle.ds_formula.specs.Plain.{PlainContent}
use Rattle.ds_eval.specs.declared.inputs.Input.{Input}
use Rattle.ds_eval.specs.Inputs.{no_entry}
use Rattle.ds_state.specs.Works.{PlainWorkCall}
use Rattle.ds_work.specs.WorkSteps.{IsContent, read_from, lacks}

-- the input of a reference that work has not looked at yet
abbrev pub unseen : Cell → Input
unseen cell = record { cell = cell; entry = no_entry }

-- the work f is e with the content of its text, and with that content's references on the sheet, in reading order
pub record HasRead (shape : Shape) (e f : PlainWorkCall) : Type 0 where
  pub content : PlainContent
  pub inputs : List Input
  pub is : IsContent shape e.text content inputs
  pub after : f ≡ read_from e content inputs

-- after its reading the work has the content of its text, or memory was refused
abbrev pub IsReading : Shape → PlainWorkCall → PlainWorkCall → Type 0
IsReading shape e f = HasRead shape e f ⊎ (f ≡ lacks e)
