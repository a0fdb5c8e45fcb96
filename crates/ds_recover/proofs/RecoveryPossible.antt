-- Each access of a recovery can be performed.
use Rattle.std.proofs.Common.{ℕ, ◌≡◌, ◌<◌, ◌≤◌, List, [], ◌∷◌, length, ap, arith}
use Rattle.ds_words.specs.declared.access.BufferEntry.{BufferEntry}
use Rattle.ds_words.specs.declared.words.TheConstants.{BUFFER_ENTRIES}
use Rattle.ds_layout.specs.declared.layout.Layout.{Layout}
use Rattle.ds_layout.specs.declared.place.Place.{Place}
use Rattle.ds_layout.specs.declared.place.Place.TheVariants as place
use Rattle.ds_layout.specs.Places.{cells_of, IsPlace}
use Rattle.ds_layout.specs.SheetMemory.{NamesPlace, HasEntry, HasBuffer, CanPerform}
use Rattle.ds_state.specs.Works.{PlainRecoverCall}
use Rattle.ds_state.specs.RecoverStages.{IsStage, IsRecovery}
use Rattle.ds_state.specs.World.{PlainWorld}
use Rattle.ds_state.specs.Owing.{entry}
use Rattle.ds_state.specs.KnownRecovery.{RecoveryHolds, recovery_held, value_now, kind_now}
use Rattle.ds_state.specs.CallsFit.{RecoveryFits}
use Rattle.ds_state.specs.declared.spread.Spread.TheVariants.{LoadRow, OrTold, FlushTold, BackTold}
use Rattle.ds_state.specs.declared.recovery.RecoverStage.{RecoverStage}
use Rattle.ds_state.specs.declared.recovery.RecoverStage.TheVariants.{LoadVersion, FlushVersion, BackVersion, LoadMark, FlushValue, FlushKind, BackValue, BackKind, Telling, Give, GiveDirty, FlushGiven, BackGiven, LoadAnnounce, LoadHeader, LoadHead, FlushHead, BackHead, LoadDone, OrMark, FlushMark, BackMark, StoreOutcome, FlushOutcome, BackOutcome, Answer}
use Rattle.ds_recover.specs.RecoverySteps.{access_at}

-- each access names a place of the sheet
named : (layout : Layout) (e : PlainRecoverCall) → cells_of layout ≡ e.cells → layout.processes ≡ e.processes → e.process < e.processes → (s : RecoverStage) → IsStage e s → NamesPlace layout (access_at e s)
named layout e cells processes low LoadVersion h = tt
named layout e cells processes low FlushVersion h = tt
named layout e cells processes low BackVersion h = tt
named layout e cells processes low (LoadMark c) h = rw cells h
named layout e cells processes low (FlushValue c) h = rw cells h.0.0
named layout e cells processes low (FlushKind c) h = rw cells h.0.0
named layout e cells processes low (BackValue c) h = tt
named layout e cells processes low (BackKind c) h = tt
named layout e cells processes low (Telling c (LoadRow part)) h = let l = h.0.0 in let k = h.1.0 in (omega arith, omega arith)
named layout e cells processes low (Telling c (OrTold d)) h = rw cells h.1.0
named layout e cells processes low (Telling c (FlushTold d)) h = rw cells h.1.0
named layout e cells processes low (Telling c (BackTold d)) h = tt
named layout e cells processes low (Give c) h = rw cells h.0
named layout e cells processes low (GiveDirty c) h = rw cells h.0
named layout e cells processes low (FlushGiven c) h = rw cells h.0
named layout e cells processes low (BackGiven c) h = tt
named layout e cells processes low LoadAnnounce h = rw processes low
named layout e cells processes low LoadHeader h = (rw processes low, let l = h.few in let k = h.some in omega arith)
named layout e cells processes low LoadHead h = rw cells h.1
named layout e cells processes low FlushHead h = rw cells h.1
named layout e cells processes low BackHead h = tt
named layout e cells processes low LoadDone h = (rw processes low, let l = h.0.few in let k = h.0.some in omega arith)
named layout e cells processes low (OrMark how) h = rw cells h.1
named layout e cells processes low (FlushMark how) h = rw cells h.1
named layout e cells processes low (BackMark how) h = tt
named layout e cells processes low (StoreOutcome how) h = rw processes low
named layout e cells processes low (FlushOutcome how) h = rw processes low
named layout e cells processes low (BackOutcome how) h = tt
named layout e cells processes low (Answer how) h = tt

-- each access of a recovery names a place of its sheet
pub each_named : (layout : Layout) (e : PlainRecoverCall) → cells_of layout ≡ e.cells → layout.processes ≡ e.processes → IsRecovery e → NamesPlace layout (access_at e e.stage)
each_named layout e cells processes is = named layout e cells processes is.process e.stage is.stage

module _ (e : PlainRecoverCall) (w : PlainWorld) (low : e.process < w.layout.processes) (cells : cells_of w.layout ≡ e.cells) where
  room : (es : List (BufferEntry Place)) → w.memory.buffer e.process ≡ es → length es ≤ 1 → (e.process < w.layout.processes) × (length (w.memory.buffer e.process) < BUFFER_ENTRIES)
  room es is few = (low, let l = ap length is in omega arith)

  first : (r : Place) (value : ℕ) (rest : List (BufferEntry Place)) → w.memory.buffer e.process ≡ entry r value ∷ rest → IsPlace w.layout r → (e.process < w.layout.processes) × HasEntry w.layout w.memory e.process
  first r value rest alone there = (low, record { entry = entry r value; rest = rest; oldest = alone; there = there })

  none : w.memory.buffer e.process ≡ [] → (e.process < w.layout.processes) × (length (w.memory.buffer e.process) < BUFFER_ENTRIES)
  none is = room [] is (omega arith)

  buffered : (s : RecoverStage) → IsStage e s → RecoveryHolds w e.process e.announcement e.cell (recovery_held e.cell s) → HasBuffer w.layout w.memory e.process (access_at e s)
  buffered LoadVersion h b = tt
  buffered FlushVersion h b = none b
  buffered BackVersion h b = first place.Version b.value [] b.alone tt
  buffered (LoadMark c) h b = tt
  buffered (FlushValue c) h b = none b
  buffered (FlushKind c) h b = room (value_now w c ∷ []) b (omega arith)
  buffered (BackValue c) h b = first (place.Value c) _ (kind_now w c ∷ []) b (rw cells h.0.0)
  buffered (BackKind c) h b = first (place.Kind c) _ [] b (rw cells h.0.0)
  buffered (Telling c (LoadRow part)) h b = tt
  buffered (Telling c (OrTold d)) h b = tt
  buffered (Telling c (FlushTold d)) h b = none b
  buffered (Telling c (BackTold d)) h b = first (place.Mark d) b.value [] b.alone (rw cells h.1.0)
  buffered (Give c) h b = tt
  buffered (GiveDirty c) h b = tt
  buffered (FlushGiven c) h b = none b
  buffered (BackGiven c) h b = first (place.Mark c) b.value [] b.alone (rw cells h.0)
  buffered LoadAnnounce h b = tt
  buffered LoadHeader h b = tt
  buffered LoadHead h b = tt
  buffered FlushHead h b = none b
  buffered BackHead h b = first (place.Head e.cell) b.value [] b.alone (rw cells h.1)
  buffered LoadDone h b = tt
  buffered (OrMark how) h b = tt
  buffered (FlushMark how) h b = none b
  buffered (BackMark how) h b = first (place.Mark e.cell) b.value [] b.alone (rw cells h.1)
  buffered (StoreOutcome how) h b = tt
  buffered (FlushOutcome how) h b = none b
  buffered (BackOutcome how) h b = first (place.Announce e.process) e.announcement [] b low
  buffered (Answer how) h b = tt

-- a recovery that fits can perform the access of its stage
pub possible : (e : PlainRecoverCall) (w : PlainWorld) → e.process < w.layout.processes → RecoveryFits w e.process e → CanPerform w.layout w.memory e.process (access_at e e.stage)
possible e w low fits = (each_named w.layout e fits.cells fits.processes fits.is, buffered e w low fits.cells e.stage fits.is.stage fits.buffer)
