-- What an event did, in one type: nothing, or one of ten things. A law over events is a case for each of them.
use Rattle.std.proofs.Common.{ℕ, ◌≡◌}
use Rattle.ds_formula.specs.declared.cells.Cell.{Cell}
use Rattle.ds_eval.specs.Tasks.{PlainEvaluated}
use Rattle.ds_layout.specs.declared.place.Place.{Place}
use Rattle.ds_state.specs.Value.{WorldValue}
use Rattle.ds_core.specs.Requests.{PlainRequest}
use Rattle.ds_core.specs.ShowEvents.{ShowBegins}
use Rattle.ds_core.specs.WorkEvents.{WorkBegins, TakesEntry}
use Rattle.ds_core.specs.RecoveryEvents.{RecoveryBegins}
use Rattle.ds_core.specs.MigrationEvents.{MigrationBegins}
use Rattle.ds_core.specs.StepEvents.{StepsBy, EvictsWord}
use Rattle.ds_core.specs.StopEvents.{StopsProcess, CrashesWorld}
use Rattle.ds_core.specs.Takes.{EditBegins, Takes}
use Rattle.ds_core.specs.Counts.{IsReplyTo}
use Rattle.ds_core.specs.declared.event.Event.{Event}
use Rattle.ds_core.specs.declared.event.Event.TheVariants.{BeginEdit, BeginWork, BeginShow, BeginRecover, BeginMigrate, Step, Offer, Evict, Stop, Crash}
use Rattle.ds_core.specs.declared.reply.Reply.{Reply}
use Rattle.ds_core.specs.declared.reply.Reply.TheVariants.{Begun, Entered, Refused, Stepped, Answered, WrongTask, Evicted, Stopped, Crashed, NotEnabled}

-- the reply says that the event did nothing
abbrev pub IsNothing : Reply → Type 0
IsNothing (Begun number) = ⊥
IsNothing Entered = ⊥
IsNothing (Refused why) = Unit {0}
IsNothing Stepped = ⊥
IsNothing (Answered answer) = ⊥
IsNothing WrongTask = Unit {0}
IsNothing Evicted = ⊥
IsNothing Stopped = ⊥
IsNothing Crashed = ⊥
IsNothing NotEnabled = Unit {0}

-- the reply is that of a step of a call
abbrev pub IsOfStep : Reply → Type 0
IsOfStep (Begun number) = ⊥
IsOfStep Entered = ⊥
IsOfStep (Refused why) = ⊥
IsOfStep Stepped = Unit {0}
IsOfStep (Answered answer) = Unit {0}
IsOfStep WrongTask = ⊥
IsOfStep Evicted = ⊥
IsOfStep Stopped = ⊥
IsOfStep Crashed = ⊥
IsOfStep NotEnabled = ⊥

-- what an event with this reply did
pub data Did (old new : WorldValue) : Event → Reply → Type 0 where
  nothing : (event : Event) (reply : Reply) → IsNothing reply → IsReplyTo event reply → new ≡ old → Did old new event reply
  edit_begins : (r : PlainRequest) (number : ℕ) → EditBegins old r number new → Did old new (BeginEdit r) (Begun number)
  work_begins : (p : ℕ) (cell : Cell) → WorkBegins old p cell new → Did old new (BeginWork p cell) Entered
  show_begins : (p : ℕ) → ShowBegins old p new → Did old new (BeginShow p) Entered
  recovery_begins : (p : ℕ) → RecoveryBegins old p new → Did old new (BeginRecover p) Entered
  migration_begins : (p : ℕ) → MigrationBegins old p new → Did old new (BeginMigrate p) Entered
  steps : (p : ℕ) (reply : Reply) → IsOfStep reply → StepsBy old p reply new → Did old new (Step p) reply
  offers : (value : PlainEvaluated) → TakesEntry old value new → Did old new (Offer value) Stepped
  evicts : (word : Place) → EvictsWord old word new → Did old new (Evict word) Evicted
  stops : (p : ℕ) → StopsProcess old p new → Did old new (Stop p) Stopped
  crashes : CrashesWorld old new → Did old new Crash Crashed

-- what an event did with its reply: nothing, or one of ten things
pub did : (old new : WorldValue) (event : Event) (reply : Reply) → Takes old event reply new → Did old new event reply
did old new (BeginEdit r) (Begun number) h = edit_begins r number h
did old new (BeginEdit r) (Refused why) h = nothing (BeginEdit r) (Refused why) tt tt h.same
did old new (BeginEdit r) NotEnabled h = nothing (BeginEdit r) NotEnabled tt tt h.same
did old new (BeginEdit r) _ h = absurd h
did old new (BeginWork p cell) Entered h = work_begins p cell h
did old new (BeginWork p cell) (Refused why) h = nothing (BeginWork p cell) (Refused why) tt tt h.same
did old new (BeginWork p cell) NotEnabled h = nothing (BeginWork p cell) NotEnabled tt tt h.same
did old new (BeginWork p cell) _ h = absurd h
did old new (BeginShow p) Entered h = show_begins p h
did old new (BeginShow p) (Refused why) h = nothing (BeginShow p) (Refused why) tt tt h.same
did old new (BeginShow p) NotEnabled h = nothing (BeginShow p) NotEnabled tt tt h.same
did old new (BeginShow p) _ h = absurd h
did old new (BeginRecover p) Entered h = recovery_begins p h
did old new (BeginRecover p) (Refused why) h = nothing (BeginRecover p) (Refused why) tt tt h.same
did old new (BeginRecover p) NotEnabled h = nothing (BeginRecover p) NotEnabled tt tt h.same
did old new (BeginRecover p) _ h = absurd h
did old new (BeginMigrate p) Entered h = migration_begins p h
did old new (BeginMigrate p) (Refused why) h = nothing (BeginMigrate p) (Refused why) tt tt h.same
did old new (BeginMigrate p) NotEnabled h = nothing (BeginMigrate p) NotEnabled tt tt h.same
did old new (BeginMigrate p) _ h = absurd h
did old new (Step p) Stepped h = steps p Stepped tt h
did old new (Step p) (Answered answer) h = steps p (Answered answer) tt h
did old new (Step p) NotEnabled h = nothing (Step p) NotEnabled tt tt h.same
did old new (Step p) _ h = absurd h
did old new (Offer value) Stepped h = offers value h
did old new (Offer value) WrongTask h = nothing (Offer value) WrongTask tt tt h.same
did old new (Offer value) _ h = absurd h
did old new (Evict word) Evicted h = evicts word h
did old new (Evict word) NotEnabled h = nothing (Evict word) NotEnabled tt tt h.same
did old new (Evict word) _ h = absurd h
did old new (Stop p) Stopped h = stops p h
did old new (Stop p) NotEnabled h = nothing (Stop p) NotEnabled tt tt h.same
did old new (Stop p) _ h = absurd h
did old new Crash Crashed h = crashes h
did old new Crash _ h = absurd h
