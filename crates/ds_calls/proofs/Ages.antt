-- Each event leaves each mark at most one generation older.
use Rattle.std.proofs.Common.{ℕ, ◌≡◌, ◌<◌, ◌≤◌, ◌+◌, ◌*◌, ◌/◌, ◌⊎◌, refl, ap, sym, ◌∙◌, arith, inl, inr, List, [], ◌∷◌, length}
use Rattle.std.specs.Prelude.{bit_or}
use Rattle.ds_state.specs.declared.migration.MigrateStage.TheVariants as migrate_stages
use Rattle.ds_state.specs.declared.migration.MigrateStage.{MigrateStage}
use Rattle.ds_recover.specs.MigrationSteps as migration_steps
use Rattle.ds_words.specs.declared.access.Access.{Access}
use Rattle.ds_words.specs.declared.access.Access.TheVariants.{Nothing, Load, Store, Or, SwapIf, Flush, Back}
use Rattle.ds_words.specs.Memory.{Memory, SameMemory, StoresAt}
use Rattle.ds_formula.specs.declared.cells.Shape.{Shape}
use Rattle.ds_layout.specs.declared.place.Place.{Place}
use Rattle.ds_layout.specs.declared.place.Place.TheVariants.{Mark}
use Rattle.ds_layout.specs.declared.mark.TheConstants.{DIRTY}
use Rattle.ds_layout.specs.Mark.{generation_of}
use Rattle.ds_layout.specs.SheetMemory.{PerformsAt}
use Rattle.ds_layout.proofs.PlaceCases.{place_cases}
use Rattle.ds_state.specs.Edits.{PlainEditCall}
use Rattle.ds_state.specs.Works.{PlainWorkCall, PlainRecoverCall, PlainMigrateCall}
use Rattle.ds_state.specs.Fresh.{IsNew}
use Rattle.ds_state.specs.Value.{WorldValue, world_of, IsGood}
use Rattle.ds_state.specs.Sound.{IsSound}
use Rattle.ds_state.specs.declared.stage.Stage.{Stage}
use Rattle.ds_state.specs.declared.stage.Stage.TheVariants as edit_stages
use Rattle.ds_state.specs.declared.spread.Spread.{Spread}
use Rattle.ds_state.specs.declared.spread.Spread.TheVariants.{OrTold}
use Rattle.ds_state.specs.declared.work.WorkStage.{WorkStage}
use Rattle.ds_state.specs.declared.work.WorkStage.TheVariants as work_stages
use Rattle.ds_state.specs.declared.recovery.RecoverStage.{RecoverStage}
use Rattle.ds_state.specs.declared.recovery.RecoverStage.TheVariants as recover_stages
use Rattle.ds_state.specs.declared.show.ShowStage.{ShowStage}
use Rattle.ds_state.specs.declared.show.ShowStage.TheVariants as show_stages
use Rattle.ds_state.proofs.Dirty.{or_dirty}
use Rattle.ds_edit.specs.EditSteps as edit_steps
use Rattle.ds_work.specs.WorkSteps as work_steps
use Rattle.ds_work.specs.WorkTakes as work_events
use Rattle.ds_state.specs.declared.turn.Turn.{Turn}
use Rattle.ds_state.specs.declared.work.WorkEnd.{WorkEnd}
use Rattle.ds_recover.specs.RecoverySteps as recovery_steps
use Rattle.ds_show.specs.ShowSteps as show_steps
use Rattle.ds_core.specs.StepEvents.{StepsBy, edits, works, reports, recoveries, migrations}
use Rattle.ds_core.specs.Takes.{Takes, WorldRun}
use Rattle.ds_core.proofs.Did as did_so
use Rattle.ds_core.proofs.Did.{Did, did, edit_begins, work_begins, show_begins, recovery_begins, steps, offers, evicts, stops, crashes}
use Rattle.ds_core.specs.declared.event.Event.{Event}
use Rattle.ds_core.specs.declared.reply.Reply.{Reply}
use Rattle.ds_state.specs.Works.{SEEN_MOST}
use Rattle.ds_calls.specs.Lone.{AreYoung}
use Rattle.ds_calls.proofs.Leaving.{age}

-- ---- an access

-- the access makes no mark more than one generation older
abbrev IsGentle : Access Place → Type 0
IsGentle Nothing = Unit {0}
IsGentle (Load r) = Unit {0}
IsGentle (Store r value) = (c : ℕ) → r ≡ Mark c → ⊥
IsGentle (Or r bits) = ((c : ℕ) → r ≡ Mark c → ⊥) ⊎ (bits ≡ DIRTY)
IsGentle (SwapIf r expected value) = ((c : ℕ) → r ≡ Mark c → ⊥) ⊎ (generation_of value ≤ generation_of expected + 1)
IsGentle (Flush r) = Unit {0}
IsGentle Back = Unit {0}

module _ (old new : Memory Place) where
  abbrev Grows : ℕ → Type 0
  Grows c = generation_of (new.cached (Mark c)) ≤ generation_of (old.cached (Mark c)) + 1

  same_grows : (c : ℕ) → new.cached (Mark c) ≡ old.cached (Mark c) → Grows c
  same_grows c is = let e : generation_of (new.cached (Mark c)) ≡ generation_of (old.cached (Mark c)) = ap generation_of is in omega (arith, e)

  stored_grows : (c : ℕ) (r : Place) (value : ℕ) → StoresAt r value old new → (r ≡ Mark c → generation_of value ≤ generation_of (old.cached r) + 1) → Grows c
  stored_grows c r value s low = elim (place_cases r (Mark c)) [
    | inl here ↦ (
        let now : generation_of (new.cached (Mark c)) ≡ generation_of value = ap generation_of (ap new.cached (sym here) ∙ s.there) in
        let was : generation_of (old.cached r) ≡ generation_of (old.cached (Mark c)) = ap (λ x. generation_of (old.cached x)) here in
        let l = low here in
        omega (arith, now, was, l))
    | inr other ↦ same_grows c (s.elsewhere (Mark c) (λ is. other (sym is)))
  ]

  gentle : (access : Access Place) (p word : ℕ) → IsGentle access → PerformsAt access p old new word → (c : ℕ) → Grows c
  gentle Nothing p word g h c = same_grows c (h.1.cached (Mark c))
  gentle (Load r) p word g h c = same_grows c (h.1.cached (Mark c))
  gentle (Store r value) p word g h c = stored_grows c r value h.1 (λ is. absurd (g c is))
  gentle (Or r bits) p word (inl none) h c = same_grows c (h.1.elsewhere (Mark c) (λ is. none c (sym is)))
  gentle (Or r bits) p word (inr dirty) h c =
      stored_grows c r _ h.1 (λ is. let e : bit_or (old.cached r) bits ≡ old.cached r / 2 * 2 + 1 = ap (λ x. bit_or (old.cached r) x) dirty ∙ or_dirty (old.cached r) in omega (arith, e))
  gentle (SwapIf r expected value) p word (inl none) h c = elim h.1 [ inl won ↦ same_grows c (won.1.elsewhere (Mark c) (λ is. none c (sym is))) | inr lost ↦ same_grows c (lost.1.cached (Mark c)) ]
  gentle (SwapIf r expected value) p word (inr low) h c = elim h.1 [
    | inl won ↦ stored_grows c r value won.1 (λ is. let e : generation_of expected ≡ generation_of (old.cached r) = ap generation_of (sym won.0 ∙ h.0) in omega (arith, e, low))
    | inr lost ↦ same_grows c (lost.1.cached (Mark c))
  ]
  gentle (Flush r) p word g h c = same_grows c (h.1.cached (Mark c))
  gentle Back p word g h c = same_grows c (h.1.2.cached (Mark c))

-- ---- the accesses of each call

edit_gentle : (e : PlainEditCall) (s : Stage) → IsGentle (edit_steps.access_at e s)
edit_gentle e edit_stages.StoreHeader = λ c is. cc
edit_gentle e (edit_stages.StoreText part) = λ c is. cc
edit_gentle e edit_stages.StorePending = λ c is. cc
edit_gentle e (edit_stages.OrIndex i) = inl (λ c is. cc)
edit_gentle e (edit_stages.OrDone head) = inl (λ c is. cc)
edit_gentle e (edit_stages.Swap noted) = inl (λ c is. cc)
edit_gentle e (edit_stages.OrMark own) = inr refl
edit_gentle e (edit_stages.StoreOutcome how) = λ c is. cc
edit_gentle e _ = tt

tells_gentle : (shape : Shape) (e : PlainWorkCall) (x : Spread) → IsGentle (work_steps.access_at shape e (work_stages.Telling x))
tells_gentle shape e (OrTold d) = inr refl
tells_gentle shape e _ = tt

work_gentle : (shape : Shape) (e : PlainWorkCall) → e.process < 8 → (s : WorkStage) → IsGentle (work_steps.access_at shape e s)
work_gentle shape e low work_stages.Claim = inr (omega (arith, low))
work_gentle shape e low work_stages.StoreValue = λ c is. cc
work_gentle shape e low work_stages.StoreKind = λ c is. cc
work_gentle shape e low (work_stages.Telling x) = tells_gentle shape e x
work_gentle shape e low (work_stages.Clear changed) = inr (omega arith)
work_gentle shape e low work_stages.ClearDirty = inr (omega arith)
work_gentle shape e low work_stages.Give = inr (omega arith)
work_gentle shape e low work_stages.GiveDirty = inr (omega arith)
work_gentle shape e low _ = tt

returns_gentle : (e : PlainRecoverCall) (cell : ℕ) (x : Spread) → IsGentle (recovery_steps.access_at e (recover_stages.Telling cell x))
returns_gentle e cell (OrTold d) = inr refl
returns_gentle e cell _ = tt

recovery_gentle : (e : PlainRecoverCall) (s : RecoverStage) → IsGentle (recovery_steps.access_at e s)
recovery_gentle e (recover_stages.Telling cell x) = returns_gentle e cell x
recovery_gentle e (recover_stages.Give cell) = inr (omega arith)
recovery_gentle e (recover_stages.GiveDirty cell) = inr (omega arith)
recovery_gentle e (recover_stages.OrMark how) = inr refl
recovery_gentle e (recover_stages.StoreOutcome how) = λ c is. cc
recovery_gentle e _ = tt

migration_gentle : (e : PlainMigrateCall) (s : MigrateStage) → IsGentle (migration_steps.access_at e s)
migration_gentle e (migrate_stages.StoreNew n) = λ c is. cc
migration_gentle e migrate_stages.Swap = inl (λ c is. cc)
migration_gentle e _ = tt

show_gentle : (s : ShowStage) → IsGentle (show_steps.access_at s)
show_gentle (show_stages.LoadAnnounce i) = tt
show_gentle (show_stages.LoadMark i) = tt
show_gentle (show_stages.LoadValue i) = tt
show_gentle (show_stages.LoadKind i) = tt
show_gentle (show_stages.AgainMark i) = tt
show_gentle (show_stages.AgainAnnounce i) = tt
show_gentle (show_stages.Answer end) = tt

-- ---- an event

module _ (old new : WorldValue) (sound : IsSound (world_of old)) (c : ℕ) where
  abbrev Older : Type 0
  Older = age (world_of new) c ≤ age (world_of old) c + 1

  still : SameMemory (world_of old).memory (world_of new).memory → Older
  still m = same_grows (world_of old).memory (world_of new).memory c (m.cached (Mark c))

  turn_older : (e : PlainWorkCall) → e.process < 8 → (what : Turn WorkEnd) → work_events.TakesTurn e (world_of old) (world_of new) what → Older
  turn_older e low what (work_events.steps word t on) = gentle (world_of old).memory (world_of new).memory (work_steps.access_at old.sheet.layout.shape e e.stage) e.process word (work_gentle old.sheet.layout.shape e low e.stage) t.memory c
  turn_older e low what (work_events.reads content inputs at t) = still t.turn.memory
  turn_older e low what (work_events.lacked at t) = still t.memory
  turn_older e low what (work_events.answers end at t) = still t.memory.1

  step_older : (p : ℕ) (reply : Reply) → StepsBy old p reply new → Older
  step_older p reply (edits h) = gentle (world_of old).memory (world_of new).memory (edit_steps.access_at h.steps.edit h.steps.edit.stage) h.steps.edit.process h.steps.word (edit_gentle h.steps.edit h.steps.edit.stage) h.steps.steps.memory c
  step_older p reply (works h) = turn_older h.steps.work (let a = h.steps.is.process in let b = h.steps.is.processes in omega arith) h.what h.steps.turn
  step_older p reply (reports h) = gentle (world_of old).memory (world_of new).memory (show_steps.access_at h.steps.show.stage) h.steps.show.process h.steps.word (show_gentle h.steps.show.stage) h.steps.steps.memory c
  step_older p reply (recoveries h) = gentle (world_of old).memory (world_of new).memory (recovery_steps.access_at h.steps.recovery h.steps.recovery.stage) h.steps.recovery.process h.steps.word (recovery_gentle h.steps.recovery h.steps.recovery.stage) h.steps.steps.memory c
  step_older p reply (migrations h) = gentle (world_of old).memory (world_of new).memory (migration_steps.access_at h.steps.migration h.steps.migration.stage) h.steps.migration.process h.steps.word (migration_gentle h.steps.migration h.steps.migration.stage) h.steps.steps.memory c

  by : (event : Event) (reply : Reply) → Did old new event reply → Older
  by _ _ (did_so.nothing event reply none is all) = let e : age (world_of new) c ≡ age (world_of old) c = ap (λ (v : WorldValue). age (world_of v) c) all in omega (arith, e)
  by _ _ (edit_begins r number h) = still h.begun.begins.memory
  by _ _ (work_begins p cell h) = still h.begun.begins.turn.memory
  by _ _ (show_begins p h) = still h.begun.begins.memory
  by _ _ (recovery_begins p h) = still h.begun.begins.memory
  by _ _ (did_so.migration_begins p h) = still h.begun.memory
  by _ _ (steps p reply is h) = step_older p reply h
  by _ _ (offers value h) = still h.offered.offers.turn.memory
  by _ _ (evicts word h) = same_grows (world_of old).memory (world_of new).memory c (h.evicts.memory.cached (Mark c))
  by _ _ (stops p h) = same_grows (world_of old).memory (world_of new).memory c (h.stops.memory.cached (Mark c))
  by _ _ (crashes h) =
      let behind = (sound.words (Mark c)).behind in
      let now : (world_of new).memory.cached (Mark c) ≡ (world_of old).memory.persisted (Mark c) = h.crashes.memory.cached (Mark c) in
      omega (arith, behind, now)

  pub event_older : (event : Event) (reply : Reply) → Takes old event reply new → age (world_of new) c ≤ age (world_of old) c + 1
  event_older event reply h = by event reply (did old new event reply h)

-- ---- a run

run_older : (c : ℕ) (events : List Event) (replies : List Reply) (old new : WorldValue) → IsSound (world_of old) → WorldRun old events replies new → age (world_of new) c ≤ age (world_of old) c + length events
run_older c [] [] old new sound run = let e : age (world_of new) c ≡ age (world_of old) c = ap (λ (v : WorldValue). age (world_of v) c) run in omega (arith, e)
run_older c (event ∷ events) (reply ∷ replies) old new sound run =
    let one = event_older old run.0 sound c event reply run.1.takes in
    let more = run_older c events replies run.0 new run.1.good.sound run.2 in
    omega (arith, one, more)
run_older c [] (reply ∷ replies) old new sound run = absurd run
run_older c (event ∷ events) [] old new sound run = absurd run

-- no mark of a run from a new world is older than the run is long
pub run_young : (old : WorldValue) (events : List Event) (replies : List Reply) (new : WorldValue) → IsNew (world_of old) → IsGood old → WorldRun old events replies new → (c : ℕ) → age (world_of new) c ≤ length events
run_young old events replies new fresh good run c =
    let more = run_older c events replies old new good.sound run in
    let none : (world_of old).memory.cached (Mark c) ≡ 0 = fresh.memory.cached (Mark c) (λ x. cc) in
    omega (arith, more, none)

-- after a run of few enough events from a new world each mark has generations left for that number of rounds
pub young_marks : (old : WorldValue) (events : List Event) (replies : List Reply) (new : WorldValue) (rounds : ℕ) → IsNew (world_of old) → IsGood old → WorldRun old events replies new → length events + 2 * rounds ≤ SEEN_MOST → AreYoung (world_of new) rounds
young_marks old events replies new rounds fresh good run few = record { each = λ c l. (let y = run_young old events replies new fresh good run c in omega (arith, y, few)) }
