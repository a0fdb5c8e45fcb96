-- Whole calls, event by event.
use Rattle.std.specs.Prelude.{ℕ, ◌≡◌, ◌<◌, List, [], ◌∷◌, ◌++◌, Result, Ok, Err, OnOk, OnErr}
use Rattle.ds_formula.specs.declared.cells.Cell.{Cell}
use Rattle.ds_state.specs.Value.{WorldValue, world_of}
use Rattle.ds_state.specs.declared.refusal.Refusal.{Refusal}
use Rattle.ds_state.specs.declared.situation.Rest.{Rest}
use Rattle.ds_state.specs.declared.situation.Situation.TheVariants.{Idle, Stopped}
use Rattle.ds_state.specs.declared.answer.Answer.{Answer}
use Rattle.ds_state.specs.declared.answer.Answer.TheVariants.{Migration}
use Rattle.ds_state.specs.declared.migration.MigrateEnd.{MigrateEnd}
use Rattle.ds_recover.specs.RecoverBegun.{MayRecover}
use Rattle.ds_core.specs.Requests.{PlainRequest}
use Rattle.ds_core.specs.Takes.{Fits, WorldRun}
use Rattle.ds_core.specs.Own.{IsInCall}
use Rattle.ds_core.specs.Ends.{IsCallOf}
use Rattle.ds_core.specs.declared.event.Event.{Event}
use Rattle.ds_core.specs.declared.event.Event.TheVariants.{Step}
use Rattle.ds_core.specs.declared.reply.Reply.{Reply}
use Rattle.ds_core.specs.declared.reply.Reply.TheVariants.{Begun, Entered, Refused, Stepped, Answered}
use Rattle.ds_calls.specs.Wanted.{wants}

-- the process is one of the sheet
abbrev pub HasProcess : WorldValue → ℕ → Type 0
HasProcess v p = p < v.sheet.layout.processes

-- the process is in a call
pub record IsCalling (v : WorldValue) (p : ℕ) : Type 0 where
  pub there : HasProcess v p
  pub calls : IsInCall ((world_of v).situation p)

-- the process is in a call whose answers are of this kind
pub record IsCallingAs (kind : Answer → Type 0) (v : WorldValue) (p : ℕ) : Type 0 where
  pub there : HasProcess v p
  pub calls : IsCallOf kind ((world_of v).situation p)

-- the process is idle
pub record IsIdle (v : WorldValue) (p : ℕ) : Type 0 where
  pub next : Rest
  pub is : (world_of v).situation p ≡ Idle next

-- a process that is in no call, idle or stopped, is in none afterwards
abbrev pub KeepsFree : ℕ → WorldValue → WorldValue → Type 0
KeepsFree p old new = MayRecover ((world_of old).situation p) → MayRecover ((world_of new).situation p)

-- an edit that is asked for
abbrev pub request : ℕ → Cell → List ℕ → PlainRequest
request process cell text = record { process = process; cell = cell; text = text }

-- the process goes on with its call: each event is the one that it wants next, and is answered Stepped
pub data Goes (p : ℕ) (first : WorldValue) : List Event → List Reply → WorldValue → Type 0 where
  stays : Goes p first [] [] first
  goes : (events : List Event) (replies : List Reply) (old new : WorldValue) → Goes p first events replies old → Fits old (wants old p) Stepped new
      → Goes p first (events ++ wants old p ∷ []) (replies ++ Stepped ∷ []) new

-- the process goes on with its call up to its last step, which is answered so
pub record Finishes (p : ℕ) (old : WorldValue) (answer : Answer) (new : WorldValue) : Type 0 where
  pub events : List Event
  pub replies : List Reply
  pub last : WorldValue
  pub goes : Goes p old events replies last
  pub answers : Fits last (Step p) (Answered answer) new

-- the reply is that a call has begun
abbrev pub HasBegun : Reply → Type 0
HasBegun (Begun number) = Unit {0}
HasBegun Entered = Unit {0}
HasBegun reply = ⊥

-- a whole call of the process, whose ends are answered so: it begins by this event and goes on to its end, and no other
-- event comes between; or the begin is refused
pub data Whole {E : Type 0} (answer : E → Answer) (p : ℕ) (event : Event) (old : WorldValue) : Result E Refusal → WorldValue → Type 0 where
  finishes : (reply : Reply) (mid new : WorldValue) (end : E) → HasBegun reply → Fits old event reply mid → Finishes p mid (answer end) new → Whole answer p event old (Ok end) new
  refused : (why : Refusal) (new : WorldValue) → Fits old event (Refused why) new → Whole answer p event old (Err why) new

-- a whole call of the process, whose ends are answered so, which leaves the process idle; where the begin is refused, the
-- world stays
pub record IsWhole {E : Type 0} (answer : E → Answer) (p : ℕ) (event : Event) (old : WorldValue) (result : Result E Refusal) (new : WorldValue) : Type 0 where
  pub whole : Whole answer p event old result new
  pub idle : OnOk result (IsIdle new p)
  pub unchanged : OnErr result (new ≡ old)

-- a whole migration by the process, which leaves it stopped; where the begin is refused, the world stays
pub record IsWholeMigration (p : ℕ) (event : Event) (old : WorldValue) (result : Result MigrateEnd Refusal) (new : WorldValue) : Type 0 where
  pub whole : Whole Migration p event old result new
  pub stopped : OnOk result ((world_of new).situation p ≡ Stopped)
  pub unchanged : OnErr result (new ≡ old)

-- some events, with their replies, lead from the one world to the other
pub record IsRun (old new : WorldValue) : Type 0 where
  pub events : List Event
  pub replies : List Reply
  pub run : WorldRun old events replies new
