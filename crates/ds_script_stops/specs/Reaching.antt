-- How far a run of a script comes that goes up to a step.
use Rattle.std.specs.Prelude.{ℕ, ◌+◌, ◌≡◌, ◌<◌, ◌⊎◌, Bool, true, false, List, [], ◌∷◌, ◌++◌, Option, Some, None, IfSome, Result, Ok, Err}
use Rattle.ds_state.specs.Value.{WorldValue}
use Rattle.ds_core.specs.Takes.{Fits}
use Rattle.ds_core.specs.declared.event.Event.{Event}
use Rattle.ds_core.specs.declared.event.Event.TheVariants.{Step, Crash}
use Rattle.ds_core.specs.declared.reply.Reply.{Reply}
use Rattle.ds_core.specs.declared.reply.Reply.TheVariants.{Crashed}
use Rattle.ds_script_io.specs.ScriptLines.{ALine, next_of}
use Rattle.ds_script_io.specs.declared.ending.ScriptEnd.{ScriptEnd}
use Rattle.ds_script_io.specs.declared.ending.ScriptEnd.TheVariants as ends
use Rattle.ds_script.specs.Orders.{Deed, Order, Make, Does, order_of}
use Rattle.ds_script.specs.Doing.{Doing, Says, IsOrderOf, plan}
use Rattle.ds_script.specs.Plays.{Plays}
use Rattle.ds_script.specs.Running.{after}
use Rattle.ds_script.specs.declared.order.Begun.{Begun}
use Rattle.ds_script.specs.Script.{Progress, IsMade, Carried, StandsAt, step_taken, steps_taken}
use Rattle.ds_script_stops.specs.StopBlocks.{InTurn, deeds_behind, stop_text, IsIn, EndsBefore, BreaksBefore}
use Rattle.ds_script_stops.specs.declared.range.StopRange.{StopRange}
use Rattle.ds_script.specs.ScriptTurns.{Remains, IsWithin, doing_of}
use Rattle.ds_script_stops.specs.declared.play.Played.{Played}
use Rattle.ds_script_stops.specs.declared.play.Played.TheVariants as played
use Rattle.ds_script_stops.specs.declared.reach.Advance.{Advance}
use Rattle.ds_script_stops.specs.declared.reach.Advance.TheVariants as advance
use Rattle.ds_script_stops.specs.declared.reach.ScriptPosition.{ScriptPosition}
use Rattle.ds_script_stops.specs.declared.reach.StepPoint.{StepPoint}
use Rattle.ds_script_stops.specs.declared.reach.Hindrance.{Hindrance}
use Rattle.ds_script_stops.specs.declared.reach.Hindrance.TheVariants as hindrances
use Rattle.ds_script_stops.specs.declared.reach.Short.{Short}
use Rattle.ds_script_stops.specs.declared.reach.Short.TheVariants as shorts
use Rattle.ds_script.specs.declared.turn.Left.{Left}

-- ---- a command

-- the command is played up to its first step, without it, and this is left of it there
pub record Opens (doing : Doing) (old : WorldValue) (left : Option Left) (new : WorldValue) : Type 0 where
  pub events : List Event
  pub replies : List Reply
  pub last : Doing
  pub plays : Plays doing old events replies last new
  pub none : steps_taken events replies ≡ 0
  pub remains : Remains left last

-- the command is played to its end, in a run that had taken m steps before it and has taken n then
pub record Ends (doing : Doing) (old : WorldValue) (before now : ℕ) (new : WorldValue) : Type 0 where
  pub events : List Event
  pub replies : List Reply
  pub text : List ℕ
  pub plays : Plays doing old events replies (Says text) new
  pub count : before + steps_taken events replies ≡ now

-- the command is on its way, in a run that had taken m steps before it and has taken n: it has been played
-- up to here, and this is left of it
pub record OnTheWay (doing : Doing) (old : WorldValue) (before now : ℕ) (l : Left) (new : WorldValue) : Type 0 where
  pub events : List Event
  pub replies : List Reply
  pub last : Doing
  pub plays : Plays doing old events replies last new
  pub is : last ≡ doing_of l
  pub count : before + steps_taken events replies ≡ now

-- the command is played up to a step, with which a run that had taken m steps before has taken n, and this
-- is left of it there
pub record Halts (doing : Doing) (old : WorldValue) (before now : ℕ) (left : Option Left) (new : WorldValue) : Type 0 where
  pub events : List Event
  pub replies : List Reply
  pub p : ℕ
  pub reply : Reply
  pub last : Doing
  pub plays : Plays doing old (events ++ Step p ∷ []) (replies ++ reply ∷ []) last new
  pub taken : step_taken (Step p) reply ≡ 1
  pub count : before + steps_taken (events ++ Step p ∷ []) (replies ++ reply ∷ []) ≡ now
  pub remains : Remains left last
  pub within : IfSome left (IsWithin new)

-- how far the command is played, in a run that had taken n steps before it and goes up to the last one
abbrev pub IsPlayed : Doing → WorldValue → ℕ → ℕ → Played → WorldValue → Type 0
IsPlayed doing old before last (played.Ended now) new = Ends doing old before now new × (now < last)
IsPlayed doing old before last (played.Halted left) new = Halts doing old before last left new

-- ---- an order: a new sheet begins a new run

-- how many steps were taken on the sheet that the order finds, of n before it: a new sheet begins with none
abbrev pub taken_before : Order → ℕ → ℕ
taken_before (Make first columns rows processes edition) taken = 0
taken_before (Does deed) taken = taken

-- the order is carried out up to its first step, without it, and this is left of it there
abbrev pub OpensOrder : WorldValue → Order → Option Left → WorldValue → Type 0
OpensOrder old (Make first columns rows processes edition) left new = (left ≡ None) × IsMade columns rows processes edition new
OpensOrder old (Does deed) left new = (order : List ℕ) × IsOrderOf old deed order × Opens (plan old order deed) old left new

-- the order is carried out, in a run that had taken m steps before it and has taken n then
abbrev pub EndsOrder : WorldValue → Order → ℕ → ℕ → WorldValue → Type 0
EndsOrder old (Make first columns rows processes edition) before now new = (now ≡ 0) × IsMade columns rows processes edition new
EndsOrder old (Does deed) before now new = (order : List ℕ) × IsOrderOf old deed order × Ends (plan old order deed) old before now new

-- the order is carried out up to a step, with which a run that had taken m steps before has taken n, and
-- this is left of it there
abbrev pub HaltsOrder : WorldValue → Order → ℕ → ℕ → Option Left → WorldValue → Type 0
HaltsOrder old (Make first columns rows processes edition) before now left new = ⊥
HaltsOrder old (Does deed) before now left new = (order : List ℕ) × IsOrderOf old deed order × Halts (plan old order deed) old before now left new

-- how far the order is carried out, in a run that had taken n steps before it and goes up to the last one
abbrev pub IsCarried : WorldValue → Order → ℕ → ℕ → Played → WorldValue → Type 0
IsCarried old order before last (played.Ended now) new = EndsOrder old order before now new × (now < last)
IsCarried old order before last (played.Halted left) new = HaltsOrder old order before last left new

-- ---- a line

-- the line is skipped: the world stays, and so does what came before
pub record SkipsLine (old : WorldValue) (point : StepPoint) (line : List ℕ) (now : StepPoint) (new : WorldValue) : Type 0 where
  pub asks : order_of point.begun old line ≡ Ok None
  pub still : now ≡ point
  pub same : new ≡ old

-- the line is carried out
pub record EndsLine (old : WorldValue) (point : StepPoint) (line : List ℕ) (now : StepPoint) (new : WorldValue) : Type 0 where
  pub order : Order
  pub asks : order_of point.begun old line ≡ Ok (Some order)
  pub begun_is : now.begun ≡ after order
  pub ends : EndsOrder old order point.taken now.taken new

-- the line is skipped or carried out
abbrev pub PassesLine : WorldValue → StepPoint → List ℕ → StepPoint → WorldValue → Type 0
PassesLine old point line now new = SkipsLine old point line now new ⊎ EndsLine old point line now new

-- the line is carried out up to a step, with which the run has taken n; what has begun then, and what is left of
-- the line's command
pub record HaltsLine (old : WorldValue) (point : StepPoint) (line : List ℕ) (last : ℕ) (now : Begun) (left : Option Left) (new : WorldValue) : Type 0 where
  pub order : Order
  pub asks : order_of point.begun old line ≡ Ok (Some order)
  pub begun_is : now ≡ after order
  pub halts : HaltsOrder old order point.taken last left new

-- how far the line is carried out, in a run that goes up to the last step
abbrev pub Advances : WorldValue → StepPoint → List ℕ → ℕ → Advance → WorldValue → Type 0
Advances old point line last (advance.Passed now) new = PassesLine old point line now new × (now.taken < last)
Advances old point line last (advance.Halted now left) new = HaltsLine old point line last now left new

-- why the line is not carried out: it has a fault, or an allocation failed
abbrev pub StopsLine : WorldValue → StepPoint → List ℕ → Hindrance → Type 0
StopsLine old point line (hindrances.Fault kind) = order_of point.begun old line ≡ Err kind
StopsLine old point line hindrances.NoMemory = Unit {0}

-- ---- a script

-- n lines led here, in a run that has taken n steps
pub record Led (whole : Bool) (script : List ℕ) (lines : ℕ) (point : StepPoint) (w : WorldValue) (rest : List ℕ) : Type 0 where
  pub progress : Progress
  pub begun_is : progress.begun ≡ point.begun
  pub world_is : progress.world ≡ w
  pub count : steps_taken progress.events progress.replies ≡ point.taken
  pub out : List ℕ
  pub carried : Carried whole script lines progress out rest

-- the last of these lines has a command that is on its way, with this left of it
pub record IsInside (whole : Bool) (script : List ℕ) (lines : ℕ) (point : StepPoint) (rest : List ℕ) (l : Left) (w : WorldValue) : Type 0 where
  pub before : ℕ
  pub from : StepPoint
  pub world : WorldValue
  pub all : List ℕ
  pub led : Led whole script before from world all
  pub line : List ℕ
  pub next : next_of whole all ≡ ALine line rest
  pub lines_are : lines ≡ before + 1
  pub deed : Deed
  pub asks : order_of from.begun world line ≡ Ok (Some (Does deed))
  pub begun_is : point.begun ≡ after (Does deed)
  pub order : List ℕ
  pub order_is : IsOrderOf world deed order
  pub way : OnTheWay (plan world order deed) world from.taken point.taken l w

-- a run of the script stands here: between two lines, or in a command
abbrev pub IsAtLeft : Bool → List ℕ → ℕ → StepPoint → List ℕ → Option Left → WorldValue → Type 0
IsAtLeft whole script lines point rest None w = Led whole script lines point w rest
IsAtLeft whole script lines point rest (Some l) w = IsInside whole script lines point rest l w

-- a run of the script stands at this place
abbrev pub IsAt : Bool → List ℕ → ScriptPosition → WorldValue → Type 0
IsAt whole script place w = IsAtLeft whole script place.lines place.point place.rest.now place.left w

-- a run of the script comes to its end with fewer steps, in this world
pub record EndsHere (whole : Bool) (script : List ℕ) (last : ℕ) (w : WorldValue) : Type 0 where
  pub ends : EndsBefore whole script last
  pub world_is : ends.finishes.progress.world ≡ w

-- why a run of the script does not come to a step, and the world where it ends before: it ends, it meets a fault, or an
-- allocation fails
abbrev pub FallsShort : Bool → List ℕ → ℕ → WorldValue → Short → Type 0
FallsShort whole script last w shorts.Ended = EndsHere whole script last w
FallsShort whole script last w (shorts.Fault line kind) = BreaksBefore whole script last line kind
FallsShort whole script last w shorts.NoMemory = Unit {0}

-- where a run of the script does not come to a step by a fault, it meets that before
abbrev pub MeetsFault : Bool → List ℕ → ℕ → Short → Type 0
MeetsFault whole script last (shorts.Fault line kind) = BreaksBefore whole script last line kind
MeetsFault whole script last short = Unit {0}

-- how far a run of the script has come that goes up to a step: it stands there; or why it does not come so far
abbrev pub Reaches : Bool → List ℕ → ℕ → WorldValue → Result (Unit {0}) Short → Type 0
Reaches whole script last w (Ok reached) = StandsAt whole script last w
Reaches whole script last w (Err short) = FallsShort whole script last w short

-- why a run does not come to its step that is stopped at a line
abbrev pub short_at : ℕ → Hindrance → Short
short_at line (hindrances.Fault kind) = shorts.Fault line kind
short_at line hindrances.NoMemory = shorts.NoMemory

-- how a script ends that does not come to the next step
abbrev pub end_of : Bool → Short → ScriptEnd
end_of true shorts.Ended = ends.Ended
end_of false shorts.Ended = ends.TooLong
end_of whole (shorts.Fault line kind) = ends.Fault line kind
end_of whole shorts.NoMemory = ends.NoMemory

-- ---- a block

-- the crash in this world and the deeds after it have this text, after the line of the stop
pub record TellsBlock (k : ℕ) (old : WorldValue) (text : List ℕ) (new : WorldValue) : Type 0 where
  pub crashed : WorldValue
  pub crash : Fits old Crash Crashed crashed
  pub events : List Event
  pub replies : List Reply
  pub answers : List ℕ
  pub behind : InTurn crashed (deeds_behind crashed.sheet.layout.processes) events replies answers new
  pub is : text ≡ stop_text k ++ answers

-- what is reported in this world of the stop after n steps: its block, or nothing where it is not in the range
abbrev pub IsTold : StopRange → ℕ → WorldValue → List ℕ → Type 0
IsTold range k w text = (IsIn range k × (new : WorldValue) × TellsBlock k w text new) ⊎ ((IsIn range k → ⊥) × (text ≡ []))

-- the deeds were carried out from the start on, and their texts stand after the text that was there
pub record Tells (start : WorldValue) (deeds : List Deed) (before text : List ℕ) (new : WorldValue) : Type 0 where
  pub events : List Event
  pub replies : List Reply
  pub answers : List ℕ
  pub behind : InTurn start deeds events replies answers new
  pub is : text ≡ before ++ answers
