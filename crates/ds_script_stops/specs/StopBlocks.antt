-- A crash after each step of a script, and what is reported after the crash.
use Rattle.std.specs.Prelude.{ℕ, zero, suc, ◌≡◌, ◌≤◌, ◌<◌, ◌⊎◌, Bool, true, false, List, [], ◌∷◌, ◌++◌, length, take, codes, Option, Some, None}
use Rattle.std.specs.Fmt.{decimal}
use Rattle.ds_state.specs.Value.{WorldValue}
use Rattle.ds_core.specs.Takes.{Fits}
use Rattle.ds_core.specs.declared.event.Event.{Event}
use Rattle.ds_core.specs.declared.event.Event.TheVariants as events
use Rattle.ds_core.specs.declared.reply.Reply.{Reply}
use Rattle.ds_core.specs.declared.reply.Reply.TheVariants.{Crashed}
use Rattle.ds_script_io.specs.declared.ending.ScriptFault.{ScriptFault}
use Rattle.ds_script_io.specs.declared.ending.ScriptEnd.{ScriptEnd}
use Rattle.ds_script_io.specs.declared.ending.ScriptEnd.TheVariants as ends
use Rattle.ds_script.specs.Orders.{Deed, Whole, Settle}
use Rattle.ds_script.specs.Doing.{Says, plan}
use Rattle.ds_script.specs.Plays.{Plays}
use Rattle.ds_script_stops.specs.declared.range.StopRange.{StopRange}
use Rattle.ds_script.specs.Script.{Finishes, Breaks, StandsAt, steps_taken}

-- ---- deeds, one after another

-- from this world on the deeds, none a recalculation, are carried out in their order, each to its end; their events, the
-- replies, the texts of their answers, and the world that they lead to
pub data InTurn (start : WorldValue) : List Deed → List Event → List Reply → List ℕ → WorldValue → Type 0 where
  no_deed : InTurn start [] [] [] [] start
  one_deed_more : (deeds : List Deed) (events : List Event) (replies : List Reply) (answers : List ℕ) (w : WorldValue)
      (deed : Deed) (own : List Event) (told : List Reply) (answer : List ℕ) (new : WorldValue)
      → InTurn start deeds events replies answers w → Plays (plan w [] deed) w own told (Says answer) new
      → InTurn start (deeds ++ deed ∷ []) (events ++ own) (replies ++ told) (answers ++ answer) new

-- ---- a block

-- each of the first processes, this many, recovers, in their order
abbrev pub recoveries : ℕ → List Deed
recoveries zero = []
recoveries (suc p) = recoveries p ++ Whole p (events.BeginRecover p) ∷ []

-- what is done after the crash of a sheet with that number of processes: each recovers; then process 0 settles, and
-- reports
abbrev pub deeds_behind : ℕ → List Deed
deeds_behind processes = recoveries processes ++ (Settle 0 ∷ Whole 0 (events.BeginShow 0) ∷ [])

-- the line of a stop: stop K
abbrev pub stop_text : ℕ → List ℕ
stop_text k = codes "stop " ++ (decimal k ++ codes "\n")

-- the block of a stop: where a run of the script has taken its k-th step there is a crash, and then the deeds after it
-- are carried out; its text is the line of the stop, and their answers
pub record IsBlock (whole : Bool) (script : List ℕ) (k : ℕ) (text : List ℕ) : Type 0 where
  pub world : WorldValue
  pub stands : StandsAt whole script k world
  pub crashed : WorldValue
  pub crash : Fits world events.Crash Crashed crashed
  pub events : List Event
  pub replies : List Reply
  pub answers : List ℕ
  pub new : WorldValue
  pub behind : InTurn crashed (deeds_behind crashed.sheet.layout.processes) events replies answers new
  pub is : text ≡ stop_text k ++ answers

-- the events of a block: those of the script up to its step, the crash, and those after it
abbrev pub block_events : {whole : Bool} {script : List ℕ} {k : ℕ} {text : List ℕ} → IsBlock whole script k text → List Event
block_events b = (b.stands.progress.events ++ (b.stands.events ++ events.Step b.stands.p ∷ [])) ++ events.Crash ∷ b.events

-- the replies to the events of a block
abbrev pub block_replies : {whole : Bool} {script : List ℕ} {k : ℕ} {text : List ℕ} → IsBlock whole script k text → List Reply
block_replies b = (b.stands.progress.replies ++ (b.stands.replies ++ b.stands.reply ∷ [])) ++ Crashed ∷ b.replies

-- ---- which stops are reported

-- the stop is no later than the last one, if there is a last one
abbrev pub IsNoLater : Option ℕ → ℕ → Type 0
IsNoLater None k = Unit {0}
IsNoLater (Some last) k = k ≤ last

-- the stop is one of the range
abbrev pub IsIn : StopRange → ℕ → Type 0
IsIn range k = (range.first ≤ k) × IsNoLater range.last k

-- every stop
abbrev pub all_stops : StopRange
all_stops = record { first = 1; last = None }

-- the blocks of those of the first stops, this many, that are in the range, in their order
pub data Blocks (range : StopRange) (whole : Bool) (script : List ℕ) : ℕ → List ℕ → Type 0 where
  no_block : Blocks range whole script 0 []
  one_block_more : (k : ℕ) (out text : List ℕ) → Blocks range whole script k out → IsIn range (suc k) → IsBlock whole script (suc k) text → Blocks range whole script (suc k) (out ++ text)
  one_left_out : (k : ℕ) (out : List ℕ) → Blocks range whole script k out → (IsIn range (suc k) → ⊥) → Blocks range whole script (suc k) out

-- ---- how it ends

-- a run of the script comes to its end with fewer steps
pub record EndsBefore (whole : Bool) (script : List ℕ) (k : ℕ) : Type 0 where
  pub out : List ℕ
  pub finishes : Finishes whole script out
  pub fewer : steps_taken finishes.progress.events finishes.progress.replies < k

-- a run of the script meets this fault in this line with fewer steps
pub record BreaksBefore (whole : Bool) (script : List ℕ) (k line : ℕ) (kind : ScriptFault) : Type 0 where
  pub out : List ℕ
  pub breaks : Breaks whole script out line kind
  pub fewer : steps_taken breaks.progress.events breaks.progress.replies < k

-- the blocks of some stops are written, from the first one on; a run of the script ends before the next one
pub record WritesAll (range : StopRange) (whole : Bool) (script out : List ℕ) : Type 0 where
  pub stops : ℕ
  pub blocks : Blocks range whole script stops out
  pub ends : EndsBefore whole script (suc stops)

-- the blocks of some stops are written, from the first one on; a run of the script meets this fault before the next one
pub record WritesUpTo (range : StopRange) (whole : Bool) (script out : List ℕ) (line : ℕ) (kind : ScriptFault) : Type 0 where
  pub stops : ℕ
  pub blocks : Blocks range whole script stops out
  pub breaks : BreaksBefore whole script (suc stops) line kind

-- what is written for a script, by how it ends; where it is not whole, what there is of it ends as one that is too long
abbrev pub StopsWith : StopRange → Bool → List ℕ → List ℕ → ScriptEnd → Type 0
StopsWith range whole script out ends.Ended = (whole ≡ true) × WritesAll range whole script out
StopsWith range whole script out ends.TooLong = (whole ≡ false) × WritesAll range whole script out
StopsWith range whole script out (ends.Fault line kind) = WritesUpTo range whole script out line kind
StopsWith range whole script out ends.NoMemory = (stops : ℕ) × Blocks range whole script stops out
StopsWith range whole script out ends.ReadFailed = ⊥
StopsWith range whole script out ends.WriteFailed = Unit {0}

-- the script is within the limit, and whole
pub record StopsWhole (range : StopRange) (limit : ℕ) (script out : List ℕ) (end : ScriptEnd) : Type 0 where
  pub within : length script ≤ limit
  pub stops : StopsWith range true script out end

-- the script is longer than the limit: no more of it than that is there
pub record StopsCut (range : StopRange) (limit : ℕ) (script out : List ℕ) (end : ScriptEnd) : Type 0 where
  pub longer : limit < length script
  pub stops : StopsWith range false (take limit script) out end

-- what is written for the stops of a range, of a script under a limit of its bytes
abbrev pub StopsInRange : StopRange → ℕ → List ℕ → List ℕ → ScriptEnd → Type 0
StopsInRange range limit script out end = StopsWhole range limit script out end ⊎ StopsCut range limit script out end

-- what is written for a script under a limit of its bytes
abbrev pub StopsWithin : ℕ → List ℕ → List ℕ → ScriptEnd → Type 0
StopsWithin limit script out end = StopsInRange all_stops limit script out end
