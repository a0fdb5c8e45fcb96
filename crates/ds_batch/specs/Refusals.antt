-- Which answers of a script are refusals.
use Rattle.std.specs.Prelude.{ℕ, Bool, false, ◌==◌, List, Some, None, Option, codes}
use Rattle.std.specs.List.{starts_with}
use Rattle.std.specs.Str.{bytes_eq}
use Rattle.ds_script_io.specs.ScriptLines.{word_of}
use Rattle.ds_batch.specs.declared.refusals.AnswerForm.{AnswerForm}
use Rattle.ds_batch.specs.declared.refusals.AnswerForm.TheVariants.{Words, Json}

-- the word that the rest of a line begins with is `refused`
abbrev pub says_refused : Option (List ℕ) → Bool
says_refused None = false
says_refused (Some rest) = bytes_eq (word_of rest).0 (codes "refused")

-- the line of answers is a refusal: `P refused CODE NAME`
abbrev pub is_refusal : List ℕ → Bool
is_refusal line = says_refused (word_of line).1

-- the line of answers in JSON is a refusal: it alone begins with its code
abbrev pub is_refusal_in_json : List ℕ → Bool
is_refusal_in_json line = starts_with (λ a b. a == b) line (codes "{\"code\":")

-- the line of answers in this form is a refusal
abbrev pub is_refusal_in : AnswerForm → List ℕ → Bool
is_refusal_in Words line = is_refusal line
is_refusal_in Json line = is_refusal_in_json line
