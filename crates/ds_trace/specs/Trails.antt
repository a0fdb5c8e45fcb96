-- The rows of a run, and of a command.
use Rattle.std.specs.Prelude.{ℕ, Bool, false, ◌+◌, ◌≡◌, ◌⊎◌, ◌≤◌, List, [], ◌∷◌, ◌++◌, length, Option, Some, IfSome}
use Rattle.ds_formula.specs.Cells.{cell_at}
use Rattle.ds_layout.specs.declared.place.Place.{Place}
use Rattle.ds_state.specs.Value.{WorldValue}
use Rattle.ds_core.specs.Takes.{Fits}
use Rattle.ds_core.specs.declared.event.Event.{Event}
use Rattle.ds_core.specs.declared.reply.Reply.{Reply}
use Rattle.ds_core.specs.declared.reply.Reply.TheVariants.{Stepped}
use Rattle.ds_script.specs.Orders.{Order, Make, Does}
use Rattle.ds_script.specs.Doing.{Doing, Says, IsOrderOf, asks, told, plan}
use Rattle.ds_script.specs.Plays.{Plays}
use Rattle.ds_script.specs.Script.{IsMade}
use Rattle.ds_script.specs.declared.turn.Left.{Left}
use Rattle.ds_script.specs.declared.turn.Left.TheVariants as left
use Rattle.ds_script.specs.ScriptTurns.{Remains, IsWithin, doing_of}
use Rattle.ds_trace.specs.declared.row.Begin.TheVariants as begins
use Rattle.ds_trace.specs.declared.row.Happening.{Happening}
use Rattle.ds_trace.specs.declared.row.Happening.TheVariants.{Begins, Steps, TakesEntry}
use Rattle.ds_trace.specs.declared.row.TraceRow.{TraceRow}
use Rattle.ds_trace.specs.declared.turn.NoTrace.{NoTrace}
use Rattle.ds_trace.specs.declared.turn.NoTrace.TheVariants.{TooManyEvents, NoMemory}
use Rattle.ds_trace.specs.declared.turn.TheConstants.{EVENT_LIMIT}
use Rattle.ds_trace.specs.Rows.{IsRowOf, Happens, access_of}

-- these are the rows of a run, with the words at these places: one for each event, in their order, from world to world
abbrev pub AreRows : List Place → WorldValue → List Event → List Reply → List TraceRow → WorldValue → Type 0
AreRows places old [] [] [] new = new ≡ old
AreRows places old (event ∷ events) (reply ∷ replies) (row ∷ rows) new =
    (mid : WorldValue) × Fits old event reply mid × IsRowOf places old event reply mid row × AreRows places mid events replies rows new
AreRows places old _ _ _ new = ⊥

-- some events lead a command from where it stands to its end, from the one world to the other, and their rows stand
-- after the others
pub record Trail (places : List Place) (doing : Doing) (old new : WorldValue) (before after : List TraceRow) : Type 0 where
  pub events : List Event
  pub replies : List Reply
  pub text : List ℕ
  pub rows : List TraceRow
  pub plays : Plays doing old events replies (Says text) new
  pub are : AreRows places old events replies rows new
  pub behind : after ≡ before ++ rows

-- what the next event of a command is, where its process makes a step if it is driven
abbrev pub next_of : WorldValue → Left → Happening
next_of old (left.Drives p until) = Steps p (access_of old p)
next_of old (left.Works p rounds cell) = Begins p (begins.Work (cell_at old.sheet.layout.shape cell))
next_of old (left.WorksInOrder p cell rest) = Begins p (begins.Work (cell_at old.sheet.layout.shape cell))
next_of old (left.DrivesInOrder p rest) = Steps p (access_of old p)

-- what it was: a process that goes on without a step has taken an entry
abbrev pub happened : Happening → Bool → Reply → Happening
happened (Steps p access) false Stepped = TakesEntry p
happened next stepped reply = next

-- the command takes the event that it wants, whose row stands after the others, and this is left of it after that
pub record TakesTurn (places : List Place) (l : Left) (old : WorldValue) (next : Option Left) (new : WorldValue) (before after : List TraceRow) : Type 0 where
  pub event : Event
  pub reply : Reply
  pub asked : asks (doing_of l) old ≡ Some event
  pub happens : Happens places old event reply new before after
  pub remains : Remains next (told (doing_of l) event reply new)
  pub within : IfSome next (IsWithin new)

-- the command, played from this world on after n events, wants an event for which a recording has no room
pub record Overflows (doing : Doing) (old : WorldValue) (n : ℕ) : Type 0 where
  pub events : List Event
  pub replies : List Reply
  pub last : Doing
  pub world : WorldValue
  pub event : Event
  pub plays : Plays doing old events replies last world
  pub wants : asks last world ≡ Some event
  pub full : EVENT_LIMIT ≤ n + length events

-- why a command is not played to its end after these rows: for want of room, or of memory
abbrev pub BreaksOff : Doing → WorldValue → List TraceRow → NoTrace → Type 0
BreaksOff doing old before TooManyEvents = Overflows doing old (length before)
BreaksOff doing old before NoMemory = Unit {0}

-- why an order is not carried out after these rows
abbrev pub Hinders : WorldValue → Order → List TraceRow → NoTrace → Type 0
Hinders old (Make first columns rows processes edition) before why = why ≡ NoMemory
Hinders old (Does deed) before why = (why ≡ NoMemory) ⊎ ((order : List ℕ) × IsOrderOf old deed order × BreaksOff (plan old order deed) old before why)

-- an order is carried out: a new sheet is made, without rows; or the deed is played to its end, and the rows of its
-- events stand after the others
abbrev pub ObeysBy : List Place → WorldValue → Order → WorldValue → List TraceRow → List TraceRow → Type 0
ObeysBy places old (Make first columns rows processes edition) new before after = IsMade columns rows processes edition new × (after ≡ [])
ObeysBy places old (Does deed) new before after = (order : List ℕ) × IsOrderOf old deed order × Trail places (plan old order deed) old new before after
