-- Which layout each process relies on, and how far a migration has come.
use Rattle.std.specs.Prelude.{ℕ, ◌≡◌, ◌≢◌, ◌<◌, [], ◌∷◌}
use Rattle.ds_words.specs.Memory.{Memory}
use Rattle.ds_layout.specs.declared.place.Edition.TheVariants.{First, Second}
use Rattle.ds_layout.specs.Places.{first_text}
use Rattle.ds_layout.specs.declared.place.Place.{Place}
use Rattle.ds_layout.specs.declared.place.Place.TheVariants as place
use Rattle.ds_state.specs.Editions.{seen_edition, Agrees}
use Rattle.ds_state.specs.Owing.{entry}
use Rattle.ds_state.specs.World.{PlainWorld}
use Rattle.ds_state.specs.Works.{PlainRecoverCall, PlainMigrateCall, old_words, new_text}
use Rattle.ds_state.specs.declared.recovery.RecoverStage.{RecoverStage}
use Rattle.ds_state.specs.declared.recovery.RecoverStage.TheVariants.{LoadVersion, FlushVersion, BackVersion}
use Rattle.ds_state.specs.declared.migration.MigrateStage.{MigrateStage}
use Rattle.ds_state.specs.declared.migration.MigrateStage.TheVariants as stages
use Rattle.ds_state.specs.declared.situation.Situation.{Situation}
use Rattle.ds_state.specs.declared.situation.Situation.TheVariants.{Idle, Stopped, Editing, Working, Recovering, Showing, Migrating}

-- a recovery has noted the layout that processes see; after its write-back of the version's word both sides say it
abbrev pub WakesAt : PlainWorld → ℕ → PlainRecoverCall → RecoverStage → Type 0
WakesAt w p e LoadVersion = Unit {0}
WakesAt w p e FlushVersion = seen_edition w.memory ≡ e.edition
WakesAt w p e BackVersion = (seen_edition w.memory ≡ e.edition) × (w.memory.buffer p ≡ entry place.Version (w.memory.cached place.Version) ∷ [])
WakesAt w p e _ = Agrees w.memory e.edition

-- the new word holds on both sides what the old one holds on the cached side
pub record Copies (m : Memory Place) (at : ℕ) : Type 0 where
  pub cached : m.cached (new_text at) ≡ m.cached (first_text at)
  pub persisted : m.persisted (new_text at) ≡ m.cached (first_text at)

-- the first n words are copied
abbrev pub AreCopied : Memory Place → ℕ → Type 0
AreCopied m count = (at : ℕ) → at < count → Copies m at

-- while it copies: both sides say the first layout, and n words are copied
pub record Copying (m : Memory Place) (count : ℕ) : Type 0 where
  pub agrees : Agrees m First
  pub copied : AreCopied m count

-- how far a migration at a stage has come
abbrev pub MovesAt : PlainWorld → PlainMigrateCall → MigrateStage → Type 0
MovesAt w e stages.LoadVersion = Unit {0}
MovesAt w e (stages.LoadOld at) = Copying w.memory at
MovesAt w e (stages.StoreNew at) = Copying w.memory at × (e.word ≡ w.memory.cached (first_text at))
MovesAt w e (stages.FlushNew at) = Copying w.memory at × (e.word ≡ w.memory.cached (first_text at)) × (w.memory.cached (new_text at) ≡ e.word)
MovesAt w e (stages.BackNew at) = Copying w.memory at × (e.word ≡ w.memory.cached (first_text at)) × (w.memory.cached (new_text at) ≡ e.word)
MovesAt w e stages.Swap = Copying w.memory (old_words e.processes)
MovesAt w e (stages.FlushVersion how) = w.memory.cached place.Version ≡ 1
MovesAt w e (stages.BackVersion how) = w.memory.cached place.Version ≡ 1
MovesAt w e (stages.Answer how) = Agrees w.memory Second

-- all processes but one are stopped
abbrev pub OthersStopped : PlainWorld → ℕ → Type 0
OthersStopped w p = (q : ℕ) → q < w.layout.processes → q ≢ p → w.situation q ≡ Stopped

-- a migration has come as far as its stage says, and all other processes are stopped
pub record MovesFit (w : PlainWorld) (p : ℕ) (e : PlainMigrateCall) : Type 0 where
  pub alone : OthersStopped w p
  pub at : MovesAt w e e.stage

-- the layout that the process noted is that of both sides: where they may differ, it is stopped, migrates, or recovers
-- and has not yet written the version's word back
abbrev pub LayoutFits : PlainWorld → ℕ → Situation → Type 0
LayoutFits w p (Idle next) = Agrees w.memory next.edition
LayoutFits w p Stopped = Unit {0}
LayoutFits w p (Editing e) = Agrees w.memory e.edition
LayoutFits w p (Working e) = Agrees w.memory e.edition
LayoutFits w p (Recovering e) = WakesAt w p e e.stage
LayoutFits w p (Showing e) = Agrees w.memory e.edition
LayoutFits w p (Migrating e) = MovesFit w p e

-- a process that migrates the sheet
abbrev pub IsMoving : Situation → Type 0
IsMoving (Idle next) = ⊥
IsMoving Stopped = ⊥
IsMoving (Editing e) = ⊥
IsMoving (Working e) = ⊥
IsMoving (Recovering e) = ⊥
IsMoving (Showing e) = ⊥
IsMoving (Migrating e) = Unit {0}

-- no other process migrates
abbrev pub NoneMoves : PlainWorld → ℕ → Type 0
NoneMoves w p = (q : ℕ) → q < w.layout.processes → q ≢ p → IsMoving (w.situation q) → ⊥

-- this process of the sheet migrates
pub record IsMigrating (w : PlainWorld) (q : ℕ) : Type 0 where
  pub there : q < w.layout.processes
  pub is : IsMoving (w.situation q)
