-- What a script does: its lines in order, what happens to its world, and the answers.
use Rattle.std.specs.Prelude.{◌≡◌, ◌⊎◌, ℕ, suc, ◌+◌, Bool, true, false, List, [], ◌∷◌, ◌++◌, take, Option, Some, None, Ok, Err}
use Rattle.ds_formula.specs.Cells.{count_of}
use Rattle.ds_layout.specs.declared.place.Edition.{Edition}
use Rattle.ds_layout.specs.declared.place.Edition.TheVariants.{Second}
use Rattle.ds_state.specs.Value.{WorldValue, world_of, IsGood}
use Rattle.ds_state.specs.Editions.{Agrees}
use Rattle.ds_state.specs.Fresh.{IsNew}
use Rattle.ds_state.specs.Reports.{no_reports}
use Rattle.ds_core.specs.declared.event.Event.{Event}
use Rattle.ds_core.specs.declared.event.Event.TheVariants.{Step}
use Rattle.ds_core.specs.declared.reply.Reply.{Reply}
use Rattle.ds_core.specs.declared.reply.Reply.TheVariants.{Stepped, Answered}
use Rattle.ds_script_io.specs.declared.ending.ScriptFault.{ScriptFault}
use Rattle.ds_script_io.specs.declared.ending.ScriptFault.TheVariants.{LineTooLong}
use Rattle.ds_script_io.specs.declared.ending.ScriptEnd.{ScriptEnd}
use Rattle.ds_script_io.specs.declared.ending.ScriptEnd.TheVariants as ends
use Rattle.ds_script_io.specs.declared.input.InputEnd.{InputEnd}
use Rattle.ds_script_io.specs.declared.input.InputEnd.TheVariants as inputs
use Rattle.ds_script_io.specs.Input.{EndsWith}
use Rattle.ds_script_io.specs.ScriptLines.{AtFront, NoLine, ALine, LongLine, next_of}
use Rattle.ds_script.specs.declared.order.Begun.{Begun}
use Rattle.ds_script.specs.declared.order.Begun.TheVariants as begun
use Rattle.ds_script.specs.Orders.{Order, Make, Does, Deed, order_of}
use Rattle.ds_script.specs.Doing.{Doing, Says, IsOrderOf, plan}
use Rattle.ds_script.specs.Plays.{Plays}

-- ---- at a point of a script

-- a point of a script: how it has begun, the fresh world that its events began in, those events with their replies,
-- and the world that they led to
pub record Progress : Type 0 where
  pub begun : Begun
  pub start : WorldValue
  pub events : List Event
  pub replies : List Reply
  pub world : WorldValue

-- a new sheet of that number of columns, rows and processes, in this layout
pub record IsMade (columns rows processes : ℕ) (edition : Edition) (w : WorldValue) : Type 0 where
  pub new : IsNew (world_of w)
  pub good : IsGood w
  pub says : Agrees (world_of w).memory edition
  pub columns_are : w.sheet.layout.shape.columns ≡ columns
  pub rows_are : w.sheet.layout.shape.rows ≡ rows
  pub processes_are : w.sheet.layout.processes ≡ processes
  pub done : w.done ≡ 0
  pub settled : w.settled ≡ 0
  pub reports : w.reports ≡ no_reports processes (count_of w.sheet.layout.shape)

-- the point of a script in a fresh world, before its first event
abbrev pub begins_at : Begun → WorldValue → Progress
begins_at first w = record { begun = first; start = w; events = []; replies = []; world = w }

-- the point of a script after these further events and replies, which led to this world
abbrev pub goes_on : Progress → List Event → List Reply → WorldValue → Progress
goes_on p events replies w = record { begun = begun.Command; start = p.start; events = p.events ++ events; replies = p.replies ++ replies; world = w }

-- what the line asks for at this point of a script
abbrev pub Asks : Progress → List ℕ → Option Order → Type 0
Asks p line order = order_of p.begun p.world line ≡ Ok order

-- the first lines of a script, this many, are carried out; they led to this point, were answered with this text, and
-- left this rest of the script
pub data Carried (whole : Bool) (script : List ℕ) : ℕ → Progress → List ℕ → List ℕ → Type 0 where
  -- before the first command there are two columns, two rows and two processes, in the second layout
  begins : (w : WorldValue) → IsMade 2 2 2 Second w → Carried whole script 0 (begins_at begun.Nothing w) [] script
  skips : (lines : ℕ) (p : Progress) (out rest line behind : List ℕ)
      → Carried whole script lines p out rest → next_of whole rest ≡ ALine line behind → Asks p line None
      → Carried whole script (suc lines) p out behind
  makes : (lines : ℕ) (p : Progress) (out rest line behind : List ℕ) (first : Begun) (columns rows processes : ℕ) (edition : Edition) (w : WorldValue)
      → Carried whole script lines p out rest → next_of whole rest ≡ ALine line behind → Asks p line (Some (Make first columns rows processes edition)) → IsMade columns rows processes edition w
      → Carried whole script (suc lines) (begins_at first w) out behind
  obeys : (lines : ℕ) (p : Progress) (out rest line behind : List ℕ) (deed : Deed) (order : List ℕ) (events : List Event) (replies : List Reply) (answer : List ℕ) (new : WorldValue)
      → Carried whole script lines p out rest → next_of whole rest ≡ ALine line behind → Asks p line (Some (Does deed))
      → IsOrderOf p.world deed order → Plays (plan p.world order deed) p.world events replies (Says answer) new
      → Carried whole script (suc lines) (goes_on p events replies new) (out ++ answer) behind

-- ---- how it ends

-- the script is carried out to its end: no line is left
pub record Finishes (whole : Bool) (script out : List ℕ) : Type 0 where
  pub lines : ℕ
  pub progress : Progress
  pub rest : List ℕ
  pub carried : Carried whole script lines progress out rest
  pub none : next_of whole rest ≡ NoLine

-- the line at the front of what is left has this fault at this point
abbrev pub FaultAt : Progress → AtFront → ScriptFault → Type 0
FaultAt p NoLine fault = ⊥
FaultAt p LongLine fault = fault ≡ LineTooLong
FaultAt p (ALine line behind) fault = order_of p.begun p.world line ≡ Err fault

-- every line of the script before this one is carried out, and this one has the fault
pub record Breaks (whole : Bool) (script out : List ℕ) (line : ℕ) (kind : ScriptFault) : Type 0 where
  pub lines : ℕ
  pub progress : Progress
  pub rest : List ℕ
  pub carried : Carried whole script lines progress out rest
  pub number : line ≡ lines + 1
  pub fault : FaultAt progress (next_of whole rest) kind

-- some of the first lines of a script are carried out, with these answers
pub record Partly (whole : Bool) (script out : List ℕ) : Type 0 where
  pub lines : ℕ
  pub progress : Progress
  pub rest : List ℕ
  pub carried : Carried whole script lines progress out rest

-- out of memory: some of the first lines are carried out, or there is no room for the first sheet
abbrev pub Lacks : Bool → List ℕ → List ℕ → Type 0
Lacks whole script out = Partly whole script out ⊎ (out ≡ [])

-- where reading ended at the reader's end, the last line may lack its line feed
abbrev pub is_whole : InputEnd → Bool
is_whole inputs.Ended = true
is_whole inputs.TooLong = false
is_whole inputs.Failed = false

-- what was written, by how reading ended and how the script did
abbrev pub Writes : InputEnd → List ℕ → List ℕ → ScriptEnd → Type 0
Writes end script out ends.Ended = (end ≡ inputs.Ended) × Finishes true script out
Writes end script out ends.TooLong = (end ≡ inputs.TooLong) × Finishes false script out
Writes end script out ends.ReadFailed = (end ≡ inputs.Failed) × Finishes false script out
Writes end script out (ends.Fault line kind) = Breaks (is_whole end) script out line kind
Writes end script out ends.NoMemory = Lacks (is_whole end) script out
Writes end script out ends.WriteFailed = Unit {0}

-- a script that was read: how the reading of its bytes ended, and what was written for them
pub record Ran (limit : ℕ) (remaining : Option (List ℕ)) (ended failed : Bool) (bytes out : List ℕ) (result : ScriptEnd) : Type 0 where
  pub end : InputEnd
  pub ends_with : EndsWith limit remaining ended failed bytes end
  pub writes : Writes end (take limit bytes) out result

-- there was no room for an input: no byte was read, and none was written
pub record Unread (bytes out : List ℕ) (result : ScriptEnd) : Type 0 where
  pub none_read : bytes ≡ []
  pub none_written : out ≡ []
  pub is : result ≡ ends.NoMemory

-- what became of an input: it was read and run as a script, or there was no room for it
abbrev pub Concludes : ℕ → Option (List ℕ) → Bool → Bool → List ℕ → List ℕ → ScriptEnd → Type 0
Concludes limit remaining ended failed bytes out result = Ran limit remaining ended failed bytes out result ⊎ Unread bytes out result

-- ---- stops between two steps

-- how many steps an event with its reply is: 1 for a step that happens, else 0
abbrev pub step_taken : Event → Reply → ℕ
step_taken (Step p) Stepped = 1
step_taken (Step p) (Answered answer) = 1
step_taken event reply = 0

-- how many steps happen in a list of events with their replies
abbrev pub steps_taken : List Event → List Reply → ℕ
steps_taken (event ∷ events) (reply ∷ replies) = step_taken event reply + steps_taken events replies
steps_taken events replies = 0

-- the script stands in the middle of a command, where n steps were taken, and the last event was one of them
pub record StandsAt (whole : Bool) (script : List ℕ) (steps : ℕ) (w : WorldValue) : Type 0 where
  pub lines : ℕ
  pub progress : Progress
  pub out : List ℕ
  pub rest : List ℕ
  pub line : List ℕ
  pub behind : List ℕ
  pub carried : Carried whole script lines progress out rest
  pub next : next_of whole rest ≡ ALine line behind
  pub deed : Deed
  pub asks : Asks progress line (Some (Does deed))
  pub order : List ℕ
  pub order_is : IsOrderOf progress.world deed order
  pub events : List Event
  pub replies : List Reply
  pub p : ℕ
  pub reply : Reply
  pub doing : Doing
  pub plays : Plays (plan progress.world order deed) progress.world (events ++ Step p ∷ []) (replies ++ reply ∷ []) doing w
  pub taken : step_taken (Step p) reply ≡ 1
  pub so_many : steps_taken (progress.events ++ (events ++ Step p ∷ [])) (progress.replies ++ (replies ++ reply ∷ [])) ≡ steps
