-- The lines that a script goes on with.
use Rattle.std.specs.Prelude.{◌≡◌, ◌⊎◌, ℕ, List, [], ◌∷◌, ◌++◌, codes}
use Rattle.std.specs.Fmt.{decimal}
use Rattle.ds_formula.specs.declared.cells.Shape.{Shape}
use Rattle.ds_formula.specs.Cells.{cell_at}
use Rattle.ds_formula.specs.Names.{cell_text}
use Rattle.ds_layout.specs.declared.place.Edition.{Edition}
use Rattle.ds_layout.specs.declared.place.Edition.TheVariants.{First, Second}
use Rattle.ds_layout.specs.declared.place.Place.{Place}
use Rattle.ds_layout.specs.declared.place.Place.TheVariants as place
use Rattle.ds_script.specs.Points.{name_of_point}
use Rattle.ds_explore.specs.declared.lines.FoundLine.{FoundLine}
use Rattle.ds_explore.specs.declared.lines.FoundLine.TheVariants as line

-- a word and a number: WORD N
abbrev pub numbered : List ℕ → ℕ → List ℕ
numbered word n = word ++ (codes " " ++ decimal n)

-- a word and a cell: WORD C
abbrev pub celled : List ℕ → Shape → ℕ → List ℕ
celled word shape cell = word ++ (codes " " ++ cell_text (cell_at shape cell))

-- the word for the texts of a layout
abbrev pub text_kind : Edition → List ℕ
text_kind First = codes "text"
text_kind Second = codes "newtext"

-- the place of a word, as scripts write it
abbrev pub place_text : Shape → Place → List ℕ
place_text shape place.Version = codes "version"
place_text shape (place.Head cell) = celled (codes "head") shape cell
place_text shape (place.Mark cell) = celled (codes "mark") shape cell
place_text shape (place.Value cell) = celled (codes "value") shape cell
place_text shape (place.Kind cell) = celled (codes "kind") shape cell
place_text shape (place.Index row part) = numbered (celled (codes "index") shape row) part
place_text shape (place.Announce process) = numbered (codes "announce") process
place_text shape (place.Header process number) = numbered (numbered (codes "header") process) number
place_text shape (place.Text edition process number part) = text_kind edition ++ (codes " " ++ (decimal process ++ (codes " " ++ (decimal number ++ (codes " " ++ decimal part)))))
place_text shape (place.Done process part) = numbered (numbered (codes "done") process) part

-- the words of a line, without its end
abbrev pub words_of : Shape → FoundLine → List ℕ
words_of shape (line.Step process) = numbered (codes "step") process
words_of shape (line.Run process) = numbered (codes "run") process
words_of shape (line.RunTo process name) = numbered (codes "run") process ++ (codes " to " ++ name_of_point name)
words_of shape (line.Stop process) = numbered (codes "stop") process
words_of shape (line.Evict place) = codes "evict " ++ place_text shape place
words_of shape line.Crash = codes "crash"
words_of shape (line.Recover process) = numbered (codes "recover") process
words_of shape line.Settle = codes "settle 0"
words_of shape line.Report = codes "report 0"

-- a line with its end
abbrev pub line_text : Shape → FoundLine → List ℕ
line_text shape line = words_of shape line ++ codes "\n"

-- the text is lines, one after another
pub data IsLines (shape : Shape) : List ℕ → Type 0 where
  no_line : IsLines shape []
  one_line_more : (text : List ℕ) (line : FoundLine) → IsLines shape text → IsLines shape (text ++ line_text shape line)

-- the end of a line, or nothing
abbrev pub IsGap : List ℕ → Type 0
IsGap gap = (gap ≡ []) ⊎ (gap ≡ 10 ∷ [])

-- the text is the script, and lines after it, with an end of the script's last line between them or not
pub record GoesOn (shape : Shape) (script text : List ℕ) : Type 0 where
  pub gap : List ℕ
  pub is_gap : IsGap gap
  pub more : List ℕ
  pub lines : IsLines shape more
  pub is : text ≡ script ++ gap ++ more
