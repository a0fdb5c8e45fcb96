-- The steps of a migration: what each stage does to the memory, and what comes then.
use Rattle.std.specs.Prelude.{ℕ, ◌≡◌, ◌≢◌, ◌+◌, ◌-◌, ◌*◌, ◌==◌, nat_lt, if◌then◌else◌}
use Rattle.ds_words.specs.Memory.{SameMemory}
use Rattle.ds_words.specs.declared.access.Access.{Access}
use Rattle.ds_words.specs.declared.access.Access.TheVariants as acts
use Rattle.ds_layout.specs.declared.place.Place.{Place}
use Rattle.ds_layout.specs.Places.{first_text}
use Rattle.ds_layout.specs.declared.place.Place.TheVariants as place
use Rattle.ds_layout.specs.SheetMemory.{PerformsAt}
use Rattle.ds_state.specs.World.{PlainWorld}
use Rattle.ds_state.specs.Works.{PlainMigrateCall, old_words, new_text}
use Rattle.ds_state.specs.LayoutsFit.{OthersStopped}
use Rattle.ds_state.specs.declared.migration.MigrateEnd.TheVariants.{Migrated, Already}
use Rattle.ds_state.specs.declared.migration.MigrateStage.{MigrateStage}
use Rattle.ds_state.specs.declared.migration.MigrateStage.TheVariants.{LoadVersion, LoadOld, StoreNew, FlushNew, BackNew, Swap, FlushVersion, BackVersion, Answer}
use Rattle.ds_state.specs.declared.situation.Situation.{Situation}
use Rattle.ds_state.specs.declared.situation.Situation.TheVariants.{Stopped, Migrating}

-- the access of a stage of a migration
abbrev pub access_at : PlainMigrateCall → MigrateStage → Access Place
access_at e LoadVersion = acts.Load place.Version
access_at e (LoadOld at) = acts.Load (first_text at)
access_at e (StoreNew at) = acts.Store (new_text at) e.word
access_at e (FlushNew at) = acts.Flush (new_text at)
access_at e (BackNew at) = acts.Back
access_at e Swap = acts.SwapIf place.Version 0 1
access_at e (FlushVersion how) = acts.Flush place.Version
access_at e (BackVersion how) = acts.Back
access_at e (Answer how) = acts.Nothing

-- the migration at another stage
abbrev pub at : PlainMigrateCall → MigrateStage → PlainMigrateCall
at e stage = record e { stage = stage }

-- the stage that copies this word; after the last, the one that makes the second layout the sheet's
abbrev pub copy_from : ℕ → ℕ → MigrateStage
copy_from words n = if nat_lt n words then LoadOld n else Swap

-- the migration after a stage whose access answered the word
abbrev pub next_at : PlainMigrateCall → MigrateStage → ℕ → PlainMigrateCall
next_at e LoadVersion word = at e (if word == 0 then copy_from (old_words e.processes) 0 else FlushVersion Already)
next_at e (LoadOld n) word = record e { word = word; stage = StoreNew n }
next_at e (StoreNew n) word = at e (FlushNew n)
next_at e (FlushNew n) word = at e (BackNew n)
next_at e (BackNew n) word = at e (copy_from (old_words e.processes) (n + 1))
next_at e Swap word = at e (FlushVersion Migrated)
next_at e (FlushVersion how) word = at e (BackVersion how)
next_at e (BackVersion how) word = at e (Answer how)
next_at e (Answer how) word = e

-- the situation of the process after a stage: after the answer it is stopped, and recovers next
abbrev pub after : PlainMigrateCall → MigrateStage → ℕ → Situation
after e (Answer how) word = Stopped
after e stage word = Migrating (next_at e stage word)

-- one step of the migration at a stage, whose access answered the word
pub record StepsAt (e : PlainMigrateCall) (stage : MigrateStage) (word : ℕ) (old new : PlainWorld) : Type 0 where
  pub layout : new.layout ≡ old.layout
  pub memory : PerformsAt (access_at e stage) e.process old.memory new.memory word
  pub situation : new.situation e.process ≡ after e stage word
  pub others : (q : ℕ) → q ≢ e.process → new.situation q ≡ old.situation q
  pub counted : new.counted ≡ old.counted
  pub open_edits : (q : ℕ) → new.open_edits q ≡ old.open_edits q

-- a migration of the sheet, before its first step
abbrev pub fresh : ℕ → ℕ → PlainMigrateCall
fresh process processes = record { process = process; processes = processes; word = 0; stage = LoadVersion }

-- a migration begins, of a process that is stopped, as all others are
pub record BeginsMigration (p : ℕ) (old new : PlainWorld) : Type 0 where
  pub stopped : old.situation p ≡ Stopped
  pub alone : OthersStopped old p
  pub layout : new.layout ≡ old.layout
  pub memory : SameMemory old.memory new.memory
  pub situation : new.situation p ≡ Migrating (fresh p old.layout.processes)
  pub others : (q : ℕ) → q ≢ p → new.situation q ≡ old.situation q
  pub counted : new.counted ≡ old.counted
  pub open_edits : (q : ℕ) → new.open_edits q ≡ old.open_edits q

-- how many steps are left at most from a stage on, the answer's among them, of that number of words to copy
abbrev pub rank : ℕ → MigrateStage → ℕ
rank words LoadVersion = 5 + 4 * words
rank words (LoadOld n) = 4 + 4 * (words - n)
rank words (StoreNew n) = 3 + 4 * (words - n)
rank words (FlushNew n) = 2 + 4 * (words - n)
rank words (BackNew n) = 1 + 4 * (words - n)
rank words Swap = 4
rank words (FlushVersion how) = 3
rank words (BackVersion how) = 2
rank words (Answer how) = 1
