-- What a script is answered, in words or in JSON.
use Rattle.std.specs.Prelude.{ℕ, ◌≡◌, ◌++◌, Bool, List, Some, take}
use Rattle.ds_formula.specs.Limits.{INPUT_MOST}
use Rattle.ds_script.specs.Script.{Concludes}
use Rattle.ds_script_io.specs.declared.ending.ScriptEnd.{ScriptEnd}
use Rattle.ds_script_json.specs.JsonScripts.{SaysInJson}
use Rattle.ds_batch.specs.declared.refusals.AnswerForm.{AnswerForm}
use Rattle.ds_batch.specs.declared.refusals.AnswerForm.TheVariants.{Words, Json}

-- the text has the answers in this form that the script is answered in words
abbrev pub IsInForm : AnswerForm → List ℕ → List ℕ → List ℕ → Type 0
IsInForm Words script answers text = text ≡ answers
IsInForm Json script answers text = (whole : Bool) × SaysInJson whole (take INPUT_MOST script) answers text

-- the script is answered so, and its answers in this form are the text, by how it has ended
pub record IsAnswered (form : AnswerForm) (script answers text : List ℕ) (end : ScriptEnd) : Type 0 where
  pub read : List ℕ
  pub left : List ℕ
  pub are : script ≡ read ++ left
  pub ended : Bool
  pub failed : Bool
  pub concludes : Concludes INPUT_MOST (Some left) ended failed read answers end
  pub in_form : IsInForm form read answers text
