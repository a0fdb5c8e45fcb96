-- How a recovery begins, or is refused.
use Rattle.std.specs.Prelude.{ℕ}
use Rattle.ds_layout.specs.Places.{cells_of}
use Rattle.ds_state.specs.World.{PlainWorld}
use Rattle.ds_state.specs.LayoutsFit.{IsMigrating, NoneMoves}
use Rattle.ds_state.specs.declared.refusal.Refusal.{Refusal}
use Rattle.ds_state.specs.declared.refusal.Refusal.TheVariants as refusal
use Rattle.ds_state.specs.declared.situation.Situation.{Situation}
use Rattle.ds_state.specs.declared.situation.Situation.TheVariants.{Idle, Stopped, Editing, Working, Recovering, Showing, Migrating}
use Rattle.ds_recover.specs.RecoverySteps.{BeginsRecovery, fresh}

-- a process in no call may recover, stopped or idle
abbrev pub MayRecover : Situation → Type 0
MayRecover (Idle next) = Unit {0}
MayRecover Stopped = Unit {0}
MayRecover (Editing e) = ⊥
MayRecover (Working e) = ⊥
MayRecover (Recovering e) = ⊥
MayRecover (Showing e) = ⊥
MayRecover (Migrating e) = ⊥

-- the recovery of a process in no call begins, while no other process migrates
pub record IsBegun (old : PlainWorld) (p : ℕ) (new : PlainWorld) : Type 0 where
  pub free : MayRecover (old.situation p)
  pub alone : NoneMoves old p
  pub begins : BeginsRecovery (fresh p (cells_of old.layout) old.layout.processes) old new

-- why a process may not recover: it is in a call; or it is in none, and another one migrates
abbrev pub Refuses : PlainWorld → ℕ → Refusal → Type 0
Refuses old p refusal.Busy = MayRecover (old.situation p) → ⊥
Refuses old p (refusal.Migrating q) = MayRecover (old.situation p) × IsMigrating old q
Refuses old p why = ⊥
