-- Each access of a migration can be performed.
use Rattle.std.proofs.Common.{ℕ, ◌≡◌, ◌<◌, ◌/◌, [], ◌∷◌, length, ap, arith}
use Rattle.ds_words.specs.declared.words.TheConstants.{BUFFER_ENTRIES}
use Rattle.ds_layout.specs.declared.layout.Layout.{Layout}
use Rattle.ds_layout.specs.declared.place.Place.{Place}
use Rattle.ds_layout.specs.declared.place.Place.TheVariants as place
use Rattle.ds_layout.specs.declared.place.TheConstants.{RECORDS, FIRST_PARTS}
use Rattle.ds_layout.specs.Places.{IsPlace, first_text}
use Rattle.ds_layout.specs.SheetMemory.{NamesPlace, HasEntry, HasBuffer, CanPerform}
use Rattle.ds_state.specs.Works.{PlainMigrateCall, IsCopied, old_words, new_text}
use Rattle.ds_state.specs.World.{PlainWorld}
use Rattle.ds_state.specs.Owing.{entry}
use Rattle.ds_state.specs.CallsFit.{MigrationHolds, MigrationFits}
use Rattle.ds_state.specs.declared.migration.MigrateStage.{MigrateStage}
use Rattle.ds_state.specs.declared.migration.MigrateStage.TheVariants.{LoadVersion, LoadOld, StoreNew, FlushNew, BackNew, Swap, FlushVersion, BackVersion, Answer}
use Rattle.ds_recover.specs.MigrationSteps.{access_at}

-- a word that is copied is a text's of a process of the sheet
process_below : (n processes : ℕ) → n < old_words processes → n / FIRST_PARTS / RECORDS < processes
process_below n processes l = omega arith

old_there : (layout : Layout) (e : PlainMigrateCall) (n : ℕ) → layout.processes ≡ e.processes → n < old_words e.processes → IsPlace layout (first_text n)
old_there layout e n processes l = (rw processes (process_below n e.processes l), omega arith, omega arith)

new_there : (layout : Layout) (e : PlainMigrateCall) (n : ℕ) → layout.processes ≡ e.processes → n < old_words e.processes → IsPlace layout (new_text n)
new_there layout e n processes l = (rw processes (process_below n e.processes l), omega arith, omega arith)

-- each access names a place of the sheet
named : (layout : Layout) (e : PlainMigrateCall) → layout.processes ≡ e.processes → (s : MigrateStage) → IsCopied (old_words e.processes) s → NamesPlace layout (access_at e s)
named layout e processes LoadVersion h = tt
named layout e processes (LoadOld n) h = old_there layout e n processes h
named layout e processes (StoreNew n) h = new_there layout e n processes h
named layout e processes (FlushNew n) h = new_there layout e n processes h
named layout e processes (BackNew n) h = tt
named layout e processes Swap h = tt
named layout e processes (FlushVersion how) h = tt
named layout e processes (BackVersion how) h = tt
named layout e processes (Answer how) h = tt

module _ (e : PlainMigrateCall) (w : PlainWorld) (low : e.process < w.layout.processes) (processes : w.layout.processes ≡ e.processes) where
  none : w.memory.buffer e.process ≡ [] → (e.process < w.layout.processes) × (length (w.memory.buffer e.process) < BUFFER_ENTRIES)
  none is = (low, let l = ap length is in omega arith)

  first : (r : Place) (value : ℕ) → w.memory.buffer e.process ≡ entry r value ∷ [] → IsPlace w.layout r → (e.process < w.layout.processes) × HasEntry w.layout w.memory e.process
  first r value alone there = (low, record { entry = entry r value; rest = []; oldest = alone; there = there })

  buffered : (s : MigrateStage) → IsCopied (old_words e.processes) s → MigrationHolds w e.process e s → HasBuffer w.layout w.memory e.process (access_at e s)
  buffered LoadVersion h b = tt
  buffered (LoadOld n) h b = tt
  buffered (StoreNew n) h b = tt
  buffered (FlushNew n) h b = none b
  buffered (BackNew n) h b = first (new_text n) e.word b (new_there w.layout e n processes h)
  buffered Swap h b = tt
  buffered (FlushVersion how) h b = none b
  buffered (BackVersion how) h b = first place.Version 1 b tt
  buffered (Answer how) h b = tt

-- a migration that fits can perform the access of its stage
pub possible : (e : PlainMigrateCall) (w : PlainWorld) → e.process < w.layout.processes → MigrationFits w e.process e → CanPerform w.layout w.memory e.process (access_at e e.stage)
possible e w low fits = (named w.layout e fits.processes e.stage fits.is.stage, buffered e w low fits.processes e.stage fits.is.stage fits.buffer)
