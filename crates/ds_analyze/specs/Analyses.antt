-- Questions about a script, answered (our own formats).
use Rattle.std.specs.Prelude.{ℕ, ◌≡◌, ◌≢◌, ◌⊎◌, List, true, false, codes, IsUtf8}
use Rattle.ds_analyst.specs.declared.question.Question.{Question}
use Rattle.ds_analyst.specs.declared.question.Question.TheVariants as questions
use Rattle.ds_analyst.specs.declared.question.Analysis.{Analysis}
use Rattle.ds_analyst.specs.declared.question.Analysis.TheVariants as analyses
use Rattle.ds_explore.specs.Explored.{end_lacking}
use Rattle.ds_explore.specs.Explored as explored
use Rattle.ds_explore.specs.Whole.{IsExploration, LacksExploration}
use Rattle.ds_explore.specs.declared.exploration.Exploration.{Exploration}
use Rattle.ds_explore.specs.declared.exploration.Unexplored.{Unexplored}
use Rattle.ds_explore.specs.declared.exploration.Unexplored.TheVariants as unexplored
use Rattle.ds_explore.specs.declared.options.Options.{Options}
use Rattle.ds_explore_summary.specs.Lines.{lines_text}
use Rattle.ds_trace_picture.specs.Drawing.{Draws, PICTURE_MOST}
use Rattle.ds_trace_picture.specs.Drawing as drawing
use Rattle.ds_trace_picture.specs.declared.script.PictureEnd.{PictureEnd}
use Rattle.ds_trace_picture.specs.declared.script.PictureEnd.TheVariants as drawn

-- what may come between the steps: a crash; and how many states are gone through at most
abbrev pub with_crashes : ℕ → Options
with_crashes most = record { crashes = true; stops = false; evictions = false; most = most }

-- the bytes are the lines of an exploration of the script
pub record IsFound (most : ℕ) (script out : List ℕ) : Type 0 where
  pub exploration : Exploration
  pub explores : IsExploration script (with_crashes most) exploration
  pub is : out ≡ lines_text exploration

-- the bytes say why there is no exploration of the script; that memory lacks is no such cause
pub record IsUnexplored (script out : List ℕ) : Type 0 where
  pub lack : Unexplored
  pub lacks : LacksExploration script lack
  pub fits : lack ≢ unexplored.NoMemory
  pub is : out ≡ explored.end_text (end_lacking lack)

-- the bytes say that the script is no text, and JSON is
abbrev pub IsNoText : List ℕ → List ℕ → Type 0
IsNoText script out = (IsUtf8 script → ⊥) × (out ≡ codes "the script is not UTF-8, and JSON is")

-- what all orders of the script's calls may be answered to come to: of a script that is no text, just that
abbrev pub FindsOrders : ℕ → List ℕ → Analysis → Type 0
FindsOrders most script (analyses.Found text) = IsUtf8 script × IsFound most script text.items
FindsOrders most script (analyses.Unfit why) = IsNoText script why.items ⊎ (IsUtf8 script × IsUnexplored script why.items)

-- the bytes say why there is no picture of the script; that memory lacks is no such cause
pub record IsUndrawn (script out : List ℕ) : Type 0 where
  pub end : PictureEnd
  pub none : end ≢ drawn.Drawn
  pub written : end ≢ drawn.WriteFailed
  pub fits : end ≢ drawn.NoMemory
  pub draws : (picture : List ℕ) × Draws PICTURE_MOST script end picture
  pub is : out ≡ drawing.end_text end

-- what picture of the script's run may be answered
abbrev pub FindsRun : List ℕ → Analysis → Type 0
FindsRun script (analyses.Found text) = Draws PICTURE_MOST script drawn.Drawn text.items
FindsRun script (analyses.Unfit why) = IsUndrawn script why.items

-- what a question about the script may be answered, where this many states are gone through at most
abbrev pub Finds : ℕ → Question → List ℕ → Analysis → Type 0
Finds most questions.Orders script analysis = FindsOrders most script analysis
Finds most questions.Run script analysis = FindsRun script analysis
