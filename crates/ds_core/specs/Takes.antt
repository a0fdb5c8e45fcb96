-- What each event does to a world, and what is answered.
use Rattle.std.specs.Prelude.{ℕ, ◌≡◌, ◌<◌, List, [], ◌∷◌, suc}
use Rattle.ds_formula.specs.Cells.{IsInside, index_of}
use Rattle.ds_state.specs.Value.{WorldValue, world_of, IsGood, SameReports}
use Rattle.ds_edit.specs.Begun.{IsBegun, Refuses}
use Rattle.ds_state.specs.declared.refusal.Refusal.{Refusal}
use Rattle.ds_core.specs.Requests.{PlainRequest}
use Rattle.ds_core.specs.ShowEvents.{BeginShowTakes}
use Rattle.ds_core.specs.WorkEvents.{BeginWorkTakes, OfferTakes}
use Rattle.ds_core.specs.RecoveryEvents.{BeginRecoverTakes}
use Rattle.ds_core.specs.MigrationEvents.{BeginMigrateTakes}
use Rattle.ds_core.specs.StepEvents.{StepTakes, EvictTakes}
use Rattle.ds_core.specs.StopEvents.{StopTakes, CrashTakes}
use Rattle.ds_core.specs.declared.event.Event.{Event}
use Rattle.ds_core.specs.declared.event.Event.TheVariants.{BeginEdit, BeginWork, BeginShow, BeginRecover, BeginMigrate, Step, Offer, Evict, Stop, Crash}
use Rattle.ds_core.specs.declared.reply.Reply.{Reply}
use Rattle.ds_core.specs.declared.reply.Reply.TheVariants.{Begun, Refused, NotEnabled}

-- the sheet has the process and the cell of the request
pub record IsOfWorld (v : WorldValue) (r : PlainRequest) : Type 0 where
  pub process : r.process < v.sheet.layout.processes
  pub cell : IsInside v.sheet.layout.shape r.cell

-- the edit that is asked for begins with this number; counts and kept snapshots stay
pub record EditBegins (old : WorldValue) (r : PlainRequest) (number : ℕ) (new : WorldValue) : Type 0 where
  pub named : IsOfWorld old r
  pub begun : IsBegun (world_of old) r.process (index_of old.sheet.layout.shape r.cell) r.text number (world_of new)
  pub done : new.done ≡ old.done
  pub reports : SameReports old new

-- the begin of an edit is refused for a cause that holds; the world stays
pub record EditRefused (old : WorldValue) (r : PlainRequest) (why : Refusal) (new : WorldValue) : Type 0 where
  pub named : IsOfWorld old r
  pub holds : Refuses (world_of old) r.process r.text why
  pub same : new ≡ old

-- the sheet has no such process, or no such cell, as the request names; the world stays
pub record CanNotBegin (old : WorldValue) (r : PlainRequest) (new : WorldValue) : Type 0 where
  pub unnamed : IsOfWorld old r → ⊥
  pub same : new ≡ old

-- what the begin of an edit does, by its reply
abbrev pub BeginTakes : WorldValue → PlainRequest → Reply → WorldValue → Type 0
BeginTakes old r (Begun number) new = EditBegins old r number new
BeginTakes old r (Refused why) new = EditRefused old r why new
BeginTakes old r NotEnabled new = CanNotBegin old r new
BeginTakes old r _ new = ⊥

-- what an event does, by its reply, from world to world
abbrev pub Takes : WorldValue → Event → Reply → WorldValue → Type 0
Takes old (BeginEdit r) reply new = BeginTakes old r reply new
Takes old (BeginWork p cell) reply new = BeginWorkTakes old p cell reply new
Takes old (BeginShow p) reply new = BeginShowTakes old p reply new
Takes old (BeginRecover p) reply new = BeginRecoverTakes old p reply new
Takes old (BeginMigrate p) reply new = BeginMigrateTakes old p reply new
Takes old (Step p) reply new = StepTakes old p reply new
Takes old (Offer value) reply new = OfferTakes old value reply new
Takes old (Evict place) reply new = EvictTakes old place reply new
Takes old (Stop p) reply new = StopTakes old p reply new
Takes old Crash reply new = CrashTakes old reply new

-- the event leads, with its reply, from the one world to the other, which is good
pub record Fits (old : WorldValue) (event : Event) (reply : Reply) (new : WorldValue) : Type 0 where
  pub takes : Takes old event reply new
  pub good : IsGood new

-- a run: each event with its reply, from world to world
abbrev pub WorldRun : WorldValue → List Event → List Reply → WorldValue → Type 0
WorldRun old [] [] new = new ≡ old
WorldRun old (event ∷ events) (reply ∷ replies) new = (mid : WorldValue) × Fits old event reply mid × WorldRun mid events replies new
WorldRun old [] (reply ∷ replies) new = ⊥
WorldRun old (event ∷ events) [] new = ⊥

-- the world of a run before the event at this place, and after its last event
abbrev pub world_at : (old : WorldValue) (events : List Event) (replies : List Reply) (new : WorldValue) → WorldRun old events replies new → ℕ → WorldValue
world_at old (event ∷ events) (reply ∷ replies) new run (suc k) = world_at run.0 events replies new run.2 k
world_at old events replies new run k = old
