-- A command, event by event, as the code plays it: to its end, up to a step, or with a row for each.
use Rattle.std.specs.Prelude.{ℕ, ◌≡◌, ◌<◌, All, Bool, true, false, List, Option, Some, None, IfSome}
use Rattle.ds_eval.specs.Tasks.{PlainEvaluated}
use Rattle.ds_layout.specs.Places.{cells_of}
use Rattle.ds_state.specs.Value.{WorldValue}
use Rattle.ds_core.specs.Takes.{Fits}
use Rattle.ds_core.specs.declared.event.Event.{Event}
use Rattle.ds_core.specs.declared.event.Event.TheVariants.{Step, Offer}
use Rattle.ds_core.specs.Own.{steps_left}
use Rattle.ds_core.specs.declared.reply.Reply.{Reply}
use Rattle.ds_core.specs.declared.reply.Reply.TheVariants.{Stepped}
use Rattle.ds_script.specs.declared.drive.Until.TheVariants.{InRound}
use Rattle.ds_script.specs.Doing.{Doing, Says, Drives, Works, WorksInOrder, DrivesInOrder, asks, told}
use Rattle.ds_script.specs.Script.{step_taken}
use Rattle.ds_script.specs.declared.turn.Left.{Left}
use Rattle.ds_script.specs.declared.turn.Left.TheVariants as left
use Rattle.ds_script.specs.declared.turn.CommandTurn.{CommandTurn}

-- where a command stands of which this is left
abbrev pub doing_of : Left → Doing
doing_of (left.Drives p until) = Drives p until
doing_of (left.Works p rounds cell) = Works p rounds cell
doing_of (left.WorksInOrder p cell rest) = WorksInOrder p cell rest.items
doing_of (left.DrivesInOrder p rest) = DrivesInOrder p rest.items

-- what is left of a command whose machine stands here: nothing where it has ended with a text
abbrev pub Remains : Option Left → Doing → Type 0
Remains None doing = (text : List ℕ) × (doing ≡ Says text)
Remains (Some l) doing = doing ≡ doing_of l

-- the cells that a settle or a recalculation works on are some of the sheet
abbrev pub IsWithin : WorldValue → Left → Type 0
IsWithin w (left.Drives p (InRound rounds cell)) = cell < cells_of w.sheet.layout
IsWithin w (left.Drives p until) = Unit {0}
IsWithin w (left.Works p rounds cell) = cell < cells_of w.sheet.layout
IsWithin w (left.WorksInOrder p cell rest) = (cell < cells_of w.sheet.layout) × All (λ c. c < cells_of w.sheet.layout) rest.items
IsWithin w (left.DrivesInOrder p rest) = All (λ c. c < cells_of w.sheet.layout) rest.items

-- the event with its reply is a step that was taken, or it is none
abbrev pub IsStep : Bool → Event → Reply → Type 0
IsStep true event reply = (p : ℕ) × (event ≡ Step p) × (step_taken (Step p) reply ≡ 1)
IsStep false event reply = step_taken event reply ≡ 0

-- how many steps an event is that is one, or is none
abbrev pub steps_of : Bool → ℕ
steps_of true = 1
steps_of false = 0

-- how many events a command has at most up to its next step, by the one that it wants: a beginning, an offer and the
-- step; an offer and the step; the step
abbrev pub events_from : Option Event → ℕ
events_from None = 0
events_from (Some (Step p)) = 1
events_from (Some (Offer value)) = 2
events_from (Some event) = 3

-- how many events a command has at most up to its next step, where this is left of it
abbrev pub events_to_step : WorldValue → Left → ℕ
events_to_step w l = events_from (asks (doing_of l) w)

-- an event that is no step brings the next one nearer
abbrev pub IsNearer : Left → WorldValue → CommandTurn → WorldValue → Type 0
IsNearer l old turn new = turn.stepped ≡ false → IfSome turn.left (λ next. events_to_step new next < events_to_step old l)

-- the process of the command
abbrev pub process_of : Left → ℕ
process_of (left.Drives p until) = p
process_of (left.Works p rounds cell) = p
process_of (left.WorksInOrder p cell rest) = p
process_of (left.DrivesInOrder p rest) = p

-- a process that is driven, and neither answered nor refused, has fewer steps left
abbrev pub IsFewer : Left → WorldValue → CommandTurn → WorldValue → Type 0
IsFewer (left.Drives p until) old turn new = turn.reply ≡ Stepped → steps_left p new < steps_left p old
IsFewer l old turn new = Unit {0}

-- the command takes the event that it wants, and this is left of it after that; an offer is one to its process, and is taken
pub record TakesTurn (l : Left) (old : WorldValue) (turn : CommandTurn) (new : WorldValue) : Type 0 where
  pub event : Event
  pub asked : asks (doing_of l) old ≡ Some event
  pub fits : Fits old event turn.reply new
  pub is : IsStep turn.stepped event turn.reply
  pub offers : (value : PlainEvaluated) → event ≡ Offer value → (value.task.process ≡ process_of l) × (turn.reply ≡ Stepped)
  pub remains : Remains turn.left (told (doing_of l) event turn.reply new)
  pub within : IfSome turn.left (IsWithin new)
  pub nearer : IsNearer l old turn new
  pub fewer : IsFewer l old turn new
