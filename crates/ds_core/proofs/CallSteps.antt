-- A call that nothing stops is answered within the steps that it has left.
use Rattle.std.proofs.Common.{ℕ, ◌≡◌, ◌≢◌, ◌<◌, ◌≤◌, ◌+◌, ◌*◌, ◌/◌, ◌==◌, ◌⊎◌, List, [], ◌∷◌, refl, ap, sym, ◌∙◌, subst, arith, inl, inr, suc, length, Some, false}
use Rattle.std.specs.Prelude.{if◌then◌else◌}
use Rattle.std.proofs.lemmas.Bool.Decides.{eqb_tells}
use Rattle.ds_state.specs.Edits.{PlainEditCall}
use Rattle.ds_state.specs.Works.{PlainWorkCall, PlainShowCall, PlainRecoverCall, PlainMigrateCall, IsCopied, old_words}
use Rattle.ds_state.specs.declared.migration.MigrateStage.{MigrateStage}
use Rattle.ds_state.specs.declared.migration.MigrateStage.TheVariants as migrating
use Rattle.ds_recover.specs.MigrationSteps as migrations
use Rattle.ds_state.specs.Value.{WorldValue, world_of}
use Rattle.ds_state.specs.World.{PlainWorld}
use Rattle.ds_state.specs.CallsFit.{CallFits}
use Rattle.ds_state.specs.ShowStages.{IsStage}
use Rattle.ds_state.specs.Sound.{IsSound}
use Rattle.ds_state.specs.declared.situation.Rest.{Rest}
use Rattle.ds_state.specs.declared.situation.Situation.{Situation}
use Rattle.ds_state.specs.declared.situation.Situation.TheVariants.{Idle, Stopped, Editing, Working, Recovering, Showing, Migrating}
use Rattle.ds_state.specs.declared.work.WorkStage.{WorkStage}
use Rattle.ds_state.specs.declared.work.WorkStage.TheVariants as works
use Rattle.ds_state.specs.declared.spread.Spread.TheVariants as spreads
use Rattle.ds_state.specs.declared.show.ShowStage.{ShowStage}
use Rattle.ds_state.specs.declared.show.ShowStage.TheVariants as shows
use Rattle.ds_state.specs.declared.recovery.RecoverStage.{RecoverStage}
use Rattle.ds_state.specs.declared.recovery.RecoverStage.TheVariants as recoveries
use Rattle.ds_edit.proofs.Stays.{each_some, each_few}
use Rattle.ds_work.specs.WorkRank.{left}
use Rattle.ds_work.specs.WorkSteps.{offered}
use Rattle.ds_work.proofs.Ranks.{offer_falls}
use Rattle.ds_show.specs.ShowSteps.{rank_in}
use Rattle.ds_show.proofs.ShowLaws as show_laws
use Rattle.ds_recover.specs.RecoverBegun.{MayRecover}
use Rattle.ds_recover.specs.RecoverySteps.{rank}
use Rattle.ds_recover.proofs.RecoveryRank as recovery_ranks
use Rattle.ds_state.specs.declared.answer.Answer.{Answer}
use Rattle.ds_core.specs.StepEvents as steps
use Rattle.ds_core.specs.Takes.{Takes, WorldRun}
use Rattle.ds_core.specs.WorkEvents.{TakesEntry}
use Rattle.ds_core.proofs.Did as did_so
use Rattle.ds_core.proofs.Did.{Did, did, IsNothing, IsOfStep, nothing, edit_begins, work_begins, show_begins, recovery_begins, migration_begins, offers, evicts, stops, crashes}
use Rattle.ds_core.specs.Headline.{Happens}
use Rattle.ds_eval.specs.Tasks.{PlainEvaluated}
use Rattle.ds_core.specs.Own.{own_step, own_steps, IsUnanswered, AreUnanswered, IsUnhalted, AreUnhalted, IsInCall, left_in, steps_left}
use Rattle.ds_core.specs.declared.event.Event.{Event}
use Rattle.ds_core.specs.declared.event.Event.TheVariants.{BeginEdit, BeginWork, BeginShow, BeginRecover, BeginMigrate, Step, Offer, Evict, Stop, Crash}
use Rattle.ds_core.specs.declared.reply.Reply.{Reply}
use Rattle.ds_core.specs.declared.reply.Reply.TheVariants as reply
use Rattle.ds_core.proofs.Turns.{IsTurn, edit_turn, show_turn, recovery_turn, migration_turn, work_leaves, work_begins_leaves, offer_leaves}
use Rattle.ds_core.proofs.Bound.{same_layout, run_layout, run_sound}
use Rattle.ds_core.proofs.Counts.{steps_on}
use Rattle.ds_core.proofs.CallKinds.{step_stays, step_ends}
use Rattle.ds_core.specs.Kinds.{AnswersTo}

-- a step of a process, whatever call it is in, is a turn of it
pub step_turn : (old new : WorldValue) (q : ℕ) (r : Reply) → IsSound (world_of old) → steps.StepsBy old q r new → IsTurn q old new
step_turn old new q r sound (steps.edits h) = edit_turn old new q r sound h
step_turn old new q r sound (steps.works h) = (work_leaves old new q r sound h).turn
step_turn old new q r sound (steps.reports h) = show_turn old new q r sound h
step_turn old new q r sound (steps.recoveries h) = recovery_turn old new q r sound h
step_turn old new q r sound (steps.migrations h) = migration_turn old new q r sound h

not_free : (s : Situation) → IsInCall s → MayRecover s → ⊥
not_free (Idle n) calls free = calls
not_free Stopped calls free = calls
not_free (Editing e) calls free = free
not_free (Working e) calls free = free
not_free (Recovering e) calls free = free
not_free (Showing e) calls free = free
not_free (Migrating e) calls free = free

not_own : (p q : ℕ) → q ≢ p → (q == p) ≡ false
not_own p q ne = elim (eqb_tells q p) [ inl same ↦ absurd (ne same.1) | inr differs ↦ differs.0 ]

-- an event that did nothing was no step
no_step : (p : ℕ) (event : Event) (r : Reply) → IsNothing r → own_step p event r ≡ 0
no_step p (Step q) reply.Stepped none = absurd none
no_step p (Step q) (reply.Answered answer) none = absurd none
no_step p (Step q) _ none = refl
no_step p (BeginEdit request) r none = refl
no_step p (BeginWork q cell) r none = refl
no_step p (BeginShow q) r none = refl
no_step p (BeginRecover q) r none = refl
no_step p (BeginMigrate q) r none = refl
no_step p (Offer value) r none = refl
no_step p (Evict word) r none = refl
no_step p (Stop q) r none = refl
no_step p Crash r none = refl

-- what an event is to a process in a call, which it neither answers nor halts: nothing, a step of its own, or an offer
-- to its work
pub data OwnMove (p : ℕ) (old new : WorldValue) : ℕ → Type 0 where
  stays : (world_of new).situation p ≡ (world_of old).situation p → OwnMove p old new 0
  steps_once : steps.StepsBy old p reply.Stepped new → OwnMove p old new 1
  is_offered : (value : PlainEvaluated) → value.task.process ≡ p → TakesEntry old value new → OwnMove p old new 0

module _ (p : ℕ) (old new : WorldValue) (sound : IsSound (world_of old)) (calls : IsInCall ((world_of old).situation p)) where
  unchanged : new ≡ old → OwnMove p old new 0
  unchanged same = stays (ap (λ (v : WorldValue). (world_of v).situation p) same)

  busy : (n : Rest) → (world_of old).situation p ≡ Idle n → ⊥
  busy n is = subst IsInCall is calls

  others : (q : ℕ) → q ≢ p → ((r : ℕ) → r ≢ q → (world_of new).situation r ≡ (world_of old).situation r) → OwnMove p old new 0
  others q ne rest = stays (rest p (λ same. ne (sym same)))

  by_step : (q : ℕ) → steps.StepsBy old q reply.Stepped new → OwnMove p old new (own_step p (Step q) reply.Stepped)
  by_step q h = elim (eqb_tells q p) [
    | inl same ↦ rw same.0 (steps_once (subst (λ (x : ℕ). steps.StepsBy old x reply.Stepped new) same.1 h))
    | inr other ↦ rw other.0 (others q other.1 (step_turn old new q reply.Stepped sound h).others)
  ]

  by_answer : (q : ℕ) (answer : Answer) → q ≢ p → steps.StepsBy old q (reply.Answered answer) new → OwnMove p old new (own_step p (Step q) (reply.Answered answer))
  by_answer q answer ne h = subst (λ b. OwnMove p old new (if b then 1 else 0)) (sym (not_own p q ne)) (others q ne (step_turn old new q (reply.Answered answer) sound h).others)

  -- a beginning of another process
  begins : (q : ℕ) (n : Rest) → (world_of old).situation q ≡ Idle n → ((r : ℕ) → r ≢ q → (world_of new).situation r ≡ (world_of old).situation r) → OwnMove p old new 0
  begins q n idle rest = others q (λ same. busy n (ap (λ x. (world_of old).situation x) (sym same) ∙ idle)) rest

  by_offer : (value : PlainEvaluated) → TakesEntry old value new → OwnMove p old new 0
  by_offer value h = elim (eqb_tells value.task.process p) [
    | inl same ↦ is_offered value same.1 h
    | inr other ↦ others value.task.process other.1 (offer_leaves old new value sound h).turn.others
  ]

  by_turn : (q : ℕ) (r : Reply) → IsOfStep r → IsUnanswered p (Step q) r → steps.StepsBy old q r new → OwnMove p old new (own_step p (Step q) r)
  by_turn q reply.Stepped is u h = by_step q h
  by_turn q (reply.Answered answer) is u h = by_answer q answer u h
  by_turn q _ is u h = absurd is

  by : (event : Event) (r : Reply) → Did old new event r → IsUnanswered p event r → OwnMove p old new (own_step p event r)
  by _ _ (nothing event r none is same) u = subst (λ n. OwnMove p old new n) (sym (no_step p event r none)) (unchanged same)
  by _ _ (edit_begins q n h) u = begins h.begun.edit.process _ h.begun.begins.idle h.begun.begins.others
  by _ _ (work_begins q cell h) u = begins q h.begun.next (ap (λ x. (world_of old).situation x) (sym h.begun.process_is) ∙ h.begun.begins.was) (work_begins_leaves old new q cell sound h).turn.others
  by _ _ (show_begins q h) u = begins q h.begun.next h.begun.begins.idle h.begun.begins.others
  by _ _ (migration_begins q h) u = others q (λ same. not_free ((world_of old).situation p) calls (subst (λ x. MayRecover ((world_of old).situation x)) same (subst MayRecover (sym h.begun.stopped) tt))) h.begun.others
  by _ _ (recovery_begins q h) u = others q (λ same. not_free ((world_of old).situation p) calls (subst (λ x. MayRecover ((world_of old).situation x)) same h.begun.free)) h.begun.begins.others
  by _ _ (did_so.steps q r is h) u = by_turn q r is u h
  by _ _ (offers value h) u = by_offer value h
  by _ _ (evicts word h) u = stays (h.evicts.situation p)
  by _ _ (stops q h) u = others q u h.stops.others
  by _ _ (crashes h) u = absurd u

  pub own_move : (event : Event) (r : Reply) → Takes old event r new → IsUnanswered p event r → OwnMove p old new (own_step p event r)
  own_move event r h u = by event r (did old new event r h) u

-- ---- a step left, for each of them

-- the process is still in its call, n steps of its own later
record StaysIn (p steps : ℕ) (old new : WorldValue) : Type 0 where
  calls : IsInCall ((world_of new).situation p)
  fewer : steps + steps_left p new ≤ steps_left p old

stays_in : (p n : ℕ) (old new : WorldValue) → IsSound (world_of old) → IsInCall ((world_of old).situation p) → OwnMove p old new n → StaysIn p n old new
stays_in p n old new sound calls (stays same) = let l = ap left_in same in record { calls = subst IsInCall (sym same) calls; fewer = omega (arith, l) }
stays_in p n old new sound calls (steps_once h) = let s = steps_on old new p sound h in let f = s.fewer in record { calls = s.calls; fewer = omega (arith, f) }
stays_in p n old new sound calls (is_offered value mine h) =
    let o = h.offered in
    let was : (world_of old).situation p ≡ Working o.work = ap (λ x. (world_of old).situation x) (sym mine) ∙ o.waits.works in
    let now : (world_of new).situation p ≡ Working (offered o.work value.entry) = ap (λ x. (world_of new).situation x) (sym (o.mine ∙ mine)) ∙ o.offers.turn.situation in
    let a : steps_left p old ≡ left o.work.cells o.work works.Wait = ap left_in was ∙ ap (λ s. left o.work.cells o.work s) o.waits.waits in
    let b : steps_left p new ≡ left_in (Working (offered o.work value.entry)) = ap left_in now in
    let fall = offer_falls o.work.cells o.work value.entry in
    record { calls = subst IsInCall (sym now) tt; fewer = omega (arith, a, b, fall) }

-- a call that is not answered goes on through a run
goes_on : (events : List Event) (replies : List Reply) (old new : WorldValue) (p : ℕ) → IsSound (world_of old) → p < old.sheet.layout.processes → IsInCall ((world_of old).situation p)
    → WorldRun old events replies new → AreUnanswered p events replies → StaysIn p (own_steps p events replies) old new
goes_on [] [] old new p sound low calls run u = stays_in p 0 old new sound calls (unchanged p old new sound calls run)
goes_on (event ∷ events) (r ∷ replies) old new p sound low calls run u =
    let first = stays_in p (own_step p event r) old run.0 sound calls (own_move p old run.0 sound calls event r run.1.takes u.0) in
    let rest = goes_on events replies run.0 new p run.1.good.sound (rw (same_layout old run.0 event r run.1.takes) low) first.calls run.2 u.1 in
    let a = first.fewer in
    let b = rest.fewer in
    record { calls = rest.calls; fewer = omega (arith, a, b) }
goes_on [] (r ∷ replies) old new p sound low calls run u = absurd run
goes_on (event ∷ events) [] old new p sound low calls run u = absurd run

-- ---- a call has a step left, and few

-- work has a step left at each stage
pub work_some : (r : ℕ) (e : PlainWorkCall) (s : WorkStage) → 0 < left r e s
work_some r e works.LoadMark = omega arith
work_some r e works.Claim = omega arith
work_some r e works.FlushClaim = omega arith
work_some r e works.BackClaim = omega arith
work_some r e works.LoadHead = omega arith
work_some r e works.LoadHeader = omega arith
work_some r e (works.LoadText part) = omega arith
work_some r e works.Read = omega arith
work_some r e (works.LoadValue i) = omega arith
work_some r e (works.LoadKind i value) = omega arith
work_some r e works.LoadOwnValue = omega arith
work_some r e works.LoadOwnKind = omega arith
work_some r e works.Wait = omega arith
work_some r e works.StoreValue = omega arith
work_some r e works.StoreKind = omega arith
work_some r e works.FlushValue = omega arith
work_some r e works.FlushKind = omega arith
work_some r e works.BackValue = omega arith
work_some r e works.BackKind = omega arith
work_some r e (works.Telling (spreads.LoadRow part)) = omega arith
work_some r e (works.Telling (spreads.OrTold d)) = omega arith
work_some r e (works.Telling (spreads.FlushTold d)) = omega arith
work_some r e (works.Telling (spreads.BackTold d)) = omega arith
work_some r e (works.Clear changed) = omega arith
work_some r e works.ClearDirty = omega arith
work_some r e works.Give = omega arith
work_some r e works.GiveDirty = omega arith
work_some r e (works.FlushCleared end) = omega arith
work_some r e (works.BackCleared end) = omega arith
work_some r e (works.Answer end) = omega arith

show_some : (e : PlainShowCall) (s : ShowStage) → IsStage e s → 0 < rank_in e.processes e.cells s
show_some e (shows.LoadAnnounce i) h = let low = h.0 in omega (arith, low)
show_some e (shows.LoadMark i) h = let low = h.0 in omega (arith, low)
show_some e (shows.LoadValue i) h = let low = h.0 in omega (arith, low)
show_some e (shows.LoadKind i) h = let low = h.0 in omega (arith, low)
show_some e (shows.AgainMark i) h = let low = h.0 in omega (arith, low)
show_some e (shows.AgainAnnounce i) h = let low = h.0 in omega (arith, low)
show_some e (shows.Answer end) h = omega arith

recovery_some : (cells : ℕ) (s : RecoverStage) → 0 < rank cells s
recovery_some cells recoveries.LoadVersion = omega arith
recovery_some cells recoveries.FlushVersion = omega arith
recovery_some cells recoveries.BackVersion = omega arith
recovery_some cells (recoveries.LoadMark cell) = omega arith
recovery_some cells (recoveries.FlushValue cell) = omega arith
recovery_some cells (recoveries.FlushKind cell) = omega arith
recovery_some cells (recoveries.BackValue cell) = omega arith
recovery_some cells (recoveries.BackKind cell) = omega arith
recovery_some cells (recoveries.Telling cell (spreads.LoadRow part)) = omega arith
recovery_some cells (recoveries.Telling cell (spreads.OrTold d)) = omega arith
recovery_some cells (recoveries.Telling cell (spreads.FlushTold d)) = omega arith
recovery_some cells (recoveries.Telling cell (spreads.BackTold d)) = omega arith
recovery_some cells (recoveries.Give cell) = omega arith
recovery_some cells (recoveries.GiveDirty cell) = omega arith
recovery_some cells (recoveries.FlushGiven cell) = omega arith
recovery_some cells (recoveries.BackGiven cell) = omega arith
recovery_some cells recoveries.LoadAnnounce = omega arith
recovery_some cells recoveries.LoadHeader = omega arith
recovery_some cells recoveries.LoadHead = omega arith
recovery_some cells recoveries.FlushHead = omega arith
recovery_some cells recoveries.BackHead = omega arith
recovery_some cells recoveries.LoadDone = omega arith
recovery_some cells (recoveries.OrMark how) = omega arith
recovery_some cells (recoveries.FlushMark how) = omega arith
recovery_some cells (recoveries.BackMark how) = omega arith
recovery_some cells (recoveries.StoreOutcome how) = omega arith
recovery_some cells (recoveries.FlushOutcome how) = omega arith
recovery_some cells (recoveries.BackOutcome how) = omega arith
recovery_some cells (recoveries.Answer how) = omega arith

migration_some : (words : ℕ) (s : MigrateStage) → 0 < migrations.rank words s
migration_some words migrating.LoadVersion = omega arith
migration_some words (migrating.LoadOld n) = omega arith
migration_some words (migrating.StoreNew n) = omega arith
migration_some words (migrating.FlushNew n) = omega arith
migration_some words (migrating.BackNew n) = omega arith
migration_some words migrating.Swap = omega arith
migration_some words (migrating.FlushVersion how) = omega arith
migration_some words (migrating.BackVersion how) = omega arith
migration_some words (migrating.Answer how) = omega arith

-- a call that fits has a step left
pub some_left : (w : PlainWorld) (p : ℕ) (s : Situation) → CallFits w p s → IsInCall s → 0 < left_in s
some_left w p (Idle n) fits calls = absurd calls
some_left w p Stopped fits calls = absurd calls
some_left w p (Editing e) fits calls = each_some e fits.is
some_left w p (Working e) fits calls = work_some e.cells e e.stage
some_left w p (Recovering e) fits calls = recovery_some e.cells e.stage
some_left w p (Showing e) fits calls = show_some e e.stage fits.1.is.stage
some_left w p (Migrating e) fits calls = migration_some (old_words e.processes) e.stage

-- a call that is not answered has made fewer steps than it had left
pub short : (old : WorldValue) (events : List Event) (replies : List Reply) (new : WorldValue) (p : ℕ) → IsSound (world_of old) → p < old.sheet.layout.processes → IsInCall ((world_of old).situation p)
    → WorldRun old events replies new → AreUnanswered p events replies → own_steps p events replies < steps_left p old
short old events replies new p sound low calls run u =
    let on = goes_on events replies old new p sound low calls run u in
    let sound' = run_sound events replies old new sound run in
    let some = some_left (world_of new) p ((world_of new).situation p) (sound'.calls p (rw (run_layout events replies old new run) low)) on.calls in
    let few = on.fewer in
    omega (arith, some, few)

migration_few : (processes : ℕ) (s : MigrateStage) → IsCopied (old_words processes) s → migrations.rank (old_words processes) s ≤ 15360 * processes + 5
migration_few processes migrating.LoadVersion h = omega arith
migration_few processes (migrating.LoadOld n) h = omega arith
migration_few processes (migrating.StoreNew n) h = omega arith
migration_few processes (migrating.FlushNew n) h = omega arith
migration_few processes (migrating.BackNew n) h = omega arith
migration_few processes migrating.Swap h = omega arith
migration_few processes (migrating.FlushVersion how) h = omega arith
migration_few processes (migrating.BackVersion how) h = omega arith
migration_few processes (migrating.Answer how) h = omega arith

-- what is left of a call at most
pub edit_left : (v : WorldValue) (p : ℕ) (e : PlainEditCall) → IsSound (world_of v) → p < v.sheet.layout.processes → (world_of v).situation p ≡ Editing e → steps_left p v ≤ 112 + 3 * length e.refs
edit_left v p e sound low at =
    let fits = subst (λ (x : Situation). CallFits (world_of v) p x) at (sound.calls p low) in
    let few = each_few e fits.is in
    let is : steps_left p v ≡ left_in (Editing e) = ap left_in at in
    omega (arith, few, is)

-- work has, at its first step, at most 5 n + 51 steps left of n cells, and one for each part of an index row
pub work_left : (v : WorldValue) (p : ℕ) (e : PlainWorkCall) → (world_of v).situation p ≡ Working e → e.stage ≡ works.LoadMark → steps_left p v ≤ 5 * e.cells + (e.cells + 63) / 64 + 51
work_left v p e at first =
    let is : steps_left p v ≡ left e.cells e works.LoadMark = ap left_in at ∙ ap (λ s. left e.cells e s) first in
    omega (arith, is)

-- a show has at most two steps left for each process, four for each cell, and the answer's
pub show_left : (v : WorldValue) (p : ℕ) (e : PlainShowCall) → (world_of v).situation p ≡ Showing e → steps_left p v ≤ 2 * e.processes + 4 * e.cells + 1
show_left v p e at =
    let few = show_laws.each_few e in
    let is : steps_left p v ≡ left_in (Showing e) = ap left_in at in
    omega (arith, few, is)

-- a recovery has at most 3 n + 30 steps left for each of n cells, and 23 more
pub recovery_left : (v : WorldValue) (p : ℕ) (e : PlainRecoverCall) → IsSound (world_of v) → p < v.sheet.layout.processes → (world_of v).situation p ≡ Recovering e → steps_left p v ≤ e.cells * (3 * e.cells + 30) + 23
recovery_left v p e sound low at =
    let fits = subst (λ (x : Situation). CallFits (world_of v) p x) at (sound.calls p low) in
    let few = recovery_ranks.each_few e fits.is in
    let is : steps_left p v ≡ left_in (Recovering e) = ap left_in at in
    omega (arith, few, is)

-- a migration of P processes has at most 15,360 P + 5 steps left
pub migration_left : (v : WorldValue) (p : ℕ) (e : PlainMigrateCall) → IsSound (world_of v) → p < v.sheet.layout.processes → (world_of v).situation p ≡ Migrating e → steps_left p v ≤ 15360 * e.processes + 5
migration_left v p e sound low at =
    let fits = subst (λ (x : Situation). CallFits (world_of v) p x) at (sound.calls p low) in
    let few = migration_few e.processes e.stage fits.is.stage in
    let is : steps_left p v ≡ left_in (Migrating e) = ap left_in at in
    omega (arith, few, is)

-- ---- it is answered

pub record IsAnswered (p : ℕ) (event : Event) (r : Reply) : Type 0 where
  pub answer : Answer
  pub event_is : event ≡ Step p
  pub reply_is : r ≡ reply.Answered answer

one : (p : ℕ) (event : Event) (r : Reply) → IsUnhalted p event → IsUnanswered p event r ⊎ IsAnswered p event r
one p (Step q) (reply.Answered a) on = elim (eqb_tells q p) [
  | inl same ↦ inr (record { answer = a; event_is = ap (λ i. Step i) same.1; reply_is = refl })
  | inr other ↦ inl other.1
]
one p (Step q) _ on = inl tt
one p (BeginEdit q) r on = inl tt
one p (BeginWork q cell) r on = inl tt
one p (BeginShow q) r on = inl tt
one p (BeginRecover q) r on = inl tt
one p (BeginMigrate q) r on = inl tt
one p (Offer value) r on = inl tt
one p (Evict word) r on = inl tt
one p (Stop q) reply.Stopped on = inl on
one p (Stop q) _ on = inl tt
one p Crash r on = absurd on

-- the first answer to the process in a run, which is one of the call of this situation
pub record FindsAnswer (s : Situation) (p : ℕ) (events : List Event) (replies : List Reply) : Type 0 where
  pub k : ℕ
  pub answer : Answer
  pub happens : Happens events replies k (Step p) (reply.Answered answer)
  pub to : AnswersTo s answer

-- an event that neither answers nor halts the process leaves it in a call of the same kind
same_kind : (p n : ℕ) (old new : WorldValue) → IsSound (world_of old) → OwnMove p old new n → (answer : Answer) → AnswersTo ((world_of new).situation p) answer → AnswersTo ((world_of old).situation p) answer
same_kind p n old new sound (stays same) answer to = subst (λ (s : Situation). AnswersTo s answer) same to
same_kind p n old new sound (steps_once h) answer to = (step_stays old new p sound h).same answer to
same_kind p n old new sound (is_offered value mine h) answer to =
    let o = h.offered in
    let was : (world_of old).situation p ≡ Working o.work = ap (λ x. (world_of old).situation x) (sym mine) ∙ o.waits.works in
    let now : (world_of new).situation p ≡ Working (offered o.work value.entry) = ap (λ x. (world_of new).situation x) (sym (o.mine ∙ mine)) ∙ o.offers.turn.situation in
    subst (λ (s : Situation). AnswersTo s answer) (sym was) (subst (λ (s : Situation). AnswersTo s answer) now to)

-- an answer of the first event is one of the process's call
of_its_call : (old new : WorldValue) (p : ℕ) (event : Event) (r : Reply) → Takes old event r new → (a : IsAnswered p event r) → AnswersTo ((world_of old).situation p) a.answer
of_its_call old new p event r takes a = (step_ends old new p a.answer
    (subst (λ (x : Reply). Takes old (Step p) x new) a.reply_is (subst (λ (x : Event). Takes old x r new) a.event_is takes))).to

first_answer : (events : List Event) (replies : List Reply) (old new : WorldValue) (p : ℕ) → IsSound (world_of old) → p < old.sheet.layout.processes → IsInCall ((world_of old).situation p)
    → WorldRun old events replies new → AreUnhalted p events → AreUnanswered p events replies ⊎ FindsAnswer ((world_of old).situation p) p events replies
first_answer [] replies old new p sound low calls run on = inl tt
first_answer (event ∷ events) [] old new p sound low calls run on = inl tt
first_answer (event ∷ events) (r ∷ replies) old new p sound low calls run on = elim (one p event r on.0) [
  | inl no_answer ↦ (
      let move = own_move p old run.0 sound calls event r run.1.takes no_answer in
      let first = stays_in p (own_step p event r) old run.0 sound calls move in
      elim (first_answer events replies run.0 new p run.1.good.sound (rw (same_layout old run.0 event r run.1.takes) low) first.calls run.2 on.1) [
        | inl rest ↦ inl (no_answer, rest)
        | inr f ↦ inr (record {
          k = suc f.k;
          answer = f.answer;
          happens = record { event_is = f.happens.event_is; reply_is = f.happens.reply_is };
          to = same_kind p (own_step p event r) old run.0 sound move f.answer f.to;
        })
      ])
  | inr a ↦ inr (record {
    k = 0;
    answer = a.answer;
    happens = record { event_is = ap (λ e. Some e) a.event_is; reply_is = ap (λ x. Some x) a.reply_is };
    to = of_its_call old run.0 p event r run.1.takes a;
  })
]

-- a call that nothing stops, and that makes the steps that it has left, is answered as calls of its kind are
pub answered : (old : WorldValue) (events : List Event) (replies : List Reply) (new : WorldValue) (p : ℕ) → IsSound (world_of old) → p < old.sheet.layout.processes → IsInCall ((world_of old).situation p)
    → WorldRun old events replies new → AreUnhalted p events → steps_left p old ≤ own_steps p events replies → FindsAnswer ((world_of old).situation p) p events replies
answered old events replies new p sound low calls run on enough = elim (first_answer events replies old new p sound low calls run on) [
  | inl never ↦ absurd (let few = short old events replies new p sound low calls run never in omega arith)
  | inr f ↦ f
]

-- a call that nothing stops, and that makes the steps that it has left, has an answer of its kind in the run
pub wait_free : (old : WorldValue) (events : List Event) (replies : List Reply) (new : WorldValue) (p : ℕ) → IsSound (world_of old) → p < old.sheet.layout.processes → IsInCall ((world_of old).situation p)
    → WorldRun old events replies new → AreUnhalted p events → steps_left p old ≤ own_steps p events replies
    → (k : ℕ) × (answer : Answer) × Happens events replies k (Step p) (reply.Answered answer) × AnswersTo ((world_of old).situation p) answer
wait_free old events replies new p sound low calls run on enough =
    let f = answered old events replies new p sound low calls run on enough in
    (f.k, f.answer, f.happens, f.to)

-- an edit with r references that is not answered has made fewer than 3r + 112 steps
pub edit_few : (old : WorldValue) (events : List Event) (replies : List Reply) (new : WorldValue) (p : ℕ) (e : PlainEditCall) → IsSound (world_of old) → p < old.sheet.layout.processes → (world_of old).situation p ≡ Editing e
    → WorldRun old events replies new → AreUnanswered p events replies → own_steps p events replies < 112 + 3 * length e.refs
edit_few old events replies new p e sound low at run u =
    let few = edit_left old p e sound low at in
    let fewer = short old events replies new p sound low (subst IsInCall (sym at) tt) run u in
    omega (arith, few, fewer)
