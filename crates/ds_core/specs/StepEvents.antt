-- A step of a process, and an eviction, from world to world.
use Rattle.std.specs.Prelude.{ℕ, ◌≡◌, ◌<◌}
use Rattle.ds_layout.specs.declared.place.Place.{Place}
use Rattle.ds_layout.specs.Places.{IsPlace}
use Rattle.ds_state.specs.Works.{PlainWorkCall}
use Rattle.ds_state.specs.Value.{WorldValue, world_of, SameReports}
use Rattle.ds_state.specs.Events.{Evicts}
use Rattle.ds_state.specs.declared.situation.Situation.{Situation}
use Rattle.ds_state.specs.declared.situation.Situation.TheVariants.{Working}
use Rattle.ds_state.specs.declared.work.WorkStage.TheVariants.{Wait}
use Rattle.ds_core.specs.EditEvents.{EditStepsBy}
use Rattle.ds_core.specs.ShowEvents.{ShowStepsBy}
use Rattle.ds_core.specs.WorkEvents.{WorkStepsBy}
use Rattle.ds_core.specs.RecoveryEvents.{RecoveryStepsBy}
use Rattle.ds_core.specs.MigrationEvents.{MigrationStepsBy}
use Rattle.ds_core.specs.Own.{IsInCall}
use Rattle.ds_core.specs.declared.reply.Reply.{Reply}
use Rattle.ds_core.specs.declared.reply.Reply.TheVariants.{Stepped, Answered, Evicted, NotEnabled}

-- the process makes one step of the call that it is in: an edit, a work, a show, a recovery or a migration
pub data StepsBy (old : WorldValue) (p : ℕ) (reply : Reply) (new : WorldValue) : Type 0 where
  edits : EditStepsBy old p reply new → StepsBy old p reply new
  works : WorkStepsBy old p reply new → StepsBy old p reply new
  reports : ShowStepsBy old p reply new → StepsBy old p reply new
  recoveries : RecoveryStepsBy old p reply new → StepsBy old p reply new
  migrations : MigrationStepsBy old p reply new → StepsBy old p reply new

-- the process is in no call of these that can make a step: in none of them, or in work that waits for an entry; or the
-- sheet has no such process; the world stays
pub record Rests (calls : Situation → Type 0) (old : WorldValue) (p : ℕ) (new : WorldValue) : Type 0 where
  pub same : new ≡ old
  pub waits : p < old.sheet.layout.processes → calls ((world_of old).situation p) → (e : PlainWorkCall) × ((world_of old).situation p ≡ Working e) × (e.stage ≡ Wait)

-- what a step of a process does, by its reply
abbrev pub StepTakes : WorldValue → ℕ → Reply → WorldValue → Type 0
StepTakes old p Stepped new = StepsBy old p Stepped new
StepTakes old p (Answered answer) new = StepsBy old p (Answered answer) new
StepTakes old p NotEnabled new = Rests IsInCall old p new
StepTakes old p _ new = ⊥

-- the word of this place is evicted; counts and kept snapshots stay
pub record EvictsWord (old : WorldValue) (place : Place) (new : WorldValue) : Type 0 where
  pub evicts : Evicts place (world_of old) (world_of new)
  pub done : new.done ≡ old.done
  pub reports : SameReports old new

-- the sheet has no word of this place; the world stays
pub record CanNotEvict (old : WorldValue) (place : Place) (new : WorldValue) : Type 0 where
  pub same : new ≡ old
  pub none : IsPlace old.sheet.layout place → ⊥

-- what an eviction does, by its reply
abbrev pub EvictTakes : WorldValue → Place → Reply → WorldValue → Type 0
EvictTakes old place Evicted new = EvictsWord old place new
EvictTakes old place NotEnabled new = CanNotEvict old place new
EvictTakes old place _ new = ⊥
