-- An edit that a recovery's answer forgets was never announced on the persisted side, and its number is given out again.
use Rattle.std.proofs.Common.{ℕ, ◌≡◌, ◌<◌, ◌≤◌, ◌+◌, ◌-◌, ◌/◌, ◌⊎◌, List, refl, ap, sym, ◌∙◌, subst, arith, inl, inr, zero, suc, length, Bool, Some, None}
use Rattle.std.specs.Prelude.{Option}
use Rattle.ds_words.specs.Memory.{SameMemory}
use Rattle.ds_layout.specs.SheetMemory.{PerformsAt}
use Rattle.ds_layout.specs.declared.place.Place.{Place}
use Rattle.ds_layout.specs.declared.place.Place.TheVariants.{Version, Announce}
use Rattle.ds_layout.proofs.PlaceCases.{place_cases}
use Rattle.ds_state.specs.World.{PlainEdit, PlainWorld}
use Rattle.ds_state.specs.Events.{Evicts}
use Rattle.ds_state.specs.Sound.{IsSound}
use Rattle.ds_state.specs.Works.{PlainRecoverCall}
use Rattle.ds_state.specs.CallsFit.{CallFits, RecoveryFits}
use Rattle.ds_state.specs.KnownRecovery.{ResolvedFits, resolved_at, over}
use Rattle.ds_state.specs.Value.{WorldValue, world_of, IsGood}
use Rattle.ds_state.specs.EditEndings.{end_of as end_by, outcome_at}
use Rattle.ds_state.specs.declared.stage.Outcome.{Outcome}
use Rattle.ds_state.specs.declared.stage.Outcome.TheVariants as outcome
use Rattle.ds_state.specs.declared.situation.Situation.{Situation}
use Rattle.ds_state.specs.declared.turn.Turn.{Turn}
use Rattle.ds_state.specs.declared.turn.Turn.TheVariants as turns
use Rattle.ds_state.specs.declared.work.WorkEnd.{WorkEnd}
use Rattle.ds_state.specs.declared.show.ShowEnd.{ShowEnd}
use Rattle.ds_state.specs.declared.migration.MigrateEnd.{MigrateEnd}
use Rattle.ds_state.specs.declared.recovery.RecoveryEnd.{RecoveryEnd}
use Rattle.ds_state.specs.declared.recovery.RecoveryEnd.TheVariants.{Last}
use Rattle.ds_state.specs.declared.recovery.RecoverStage.{RecoverStage}
use Rattle.ds_state.specs.declared.recovery.LastEdit.{LastEdit}
use Rattle.ds_state.specs.declared.answer.Answer.TheVariants.{Edit, Recovery}
use Rattle.ds_recover.specs.RecoverySteps as steps
use Rattle.ds_recover.specs.RecoverySteps.{number_of, end_of}
use Rattle.ds_core.specs.Requests.{PlainRequest}
use Rattle.ds_core.specs.Moments.{Placed, Open, Closed, Ledger, Moment, empty_ledger}
use Rattle.ds_core.specs.LedgerSteps.{next_number, told_of, Issues, Forgets}
use Rattle.ds_core.specs.Headline.{Happens, Headline, SaysNone, ForgottenFit, IsGivenAgain, IsForgotten}
use Rattle.ds_core.specs.Takes.{Takes}
use Rattle.ds_core.specs.StepEvents.{StepsBy, edits, works, reports, recoveries, migrations}
use Rattle.ds_core.specs.WorkEvents.{work_reply}
use Rattle.ds_core.specs.ShowEvents.{show_reply}
use Rattle.ds_core.specs.MigrationEvents.{migration_reply}
use Rattle.ds_core.specs.RecoveryEvents.{recovery_reply, RecoveryStepsBy}
use Rattle.ds_core.specs.declared.event.Event.{Event}
use Rattle.ds_core.specs.declared.event.Event.TheVariants.{BeginEdit, Step}
use Rattle.ds_core.specs.declared.reply.Reply.{Reply}
use Rattle.ds_core.specs.declared.reply.Reply.TheVariants.{Begun, Answered}
use Rattle.ds_core.proofs.Replied.{replied}
use Rattle.ds_core.proofs.Did as did_so
use Rattle.ds_core.proofs.Did.{Did, did, nothing, edit_begins, work_begins, show_begins, recovery_begins, migration_begins, offers, evicts, stops, crashes}
use Rattle.ds_core.proofs.Moved.{Moved, WasOpen, TellsOn, moved, none_some, put_here}
use Rattle.ds_core.proofs.Carry.{RunOn, at_place}
use Rattle.ds_core.proofs.Closing.{found_at, up, orderly, asked, MoveAt, the_move}
use Rattle.ds_core.proofs.Acknowledged.{within, was_begun}
use Rattle.ds_core.proofs.Resolved.{IsAtAnswer, at_answer}
use Rattle.ds_core.proofs.Solo.{some_outcome}
use Rattle.ds_core.proofs.Turns.{IsTurn, edit_turn, show_turn, show_begins_turn, stop_turn, work_leaves, work_begins_leaves, offer_leaves, recovery_turn, recovery_begins_turn, migration_turn, migration_begins_turn}

-- ---- what processes announce on the persisted side only grows

module _ (old new : WorldValue) (sound : IsSound (world_of old)) (p : ℕ) where
  abbrev Grows : Type 0
  Grows = (world_of old).memory.persisted (Announce p) ≤ (world_of new).memory.persisted (Announce p)

  same_grows : (world_of new).memory.persisted (Announce p) ≡ (world_of old).memory.persisted (Announce p) → Grows
  same_grows same = omega (arith, same)

  by_turn : (q : ℕ) → IsTurn q old new → Grows
  by_turn q t = ((t.keeps.others (suc q) (λ same. omega arith)).grows Version).announces_persisted p

  by_eviction : (r : Place) → Evicts r (world_of old) (world_of new) → Grows
  by_eviction r v = elim (place_cases (Announce p) r) [
    | inl eq ↦ (
        let there : (world_of new).memory.persisted (Announce p) ≡ (world_of old).memory.cached (Announce p) = subst (λ (x : Place). (world_of new).memory.persisted x ≡ (world_of old).memory.cached x) (sym eq) v.memory.there in
        let sides = (sound.words (Announce p)).sides in
        omega (arith, there, sides))
    | inr ne ↦ same_grows (v.memory.elsewhere (Announce p) ne)
  ]

  by : (event : Event) (reply : Reply) → Did old new event reply → Grows
  by _ _ (nothing event reply none is same) = same_grows (ap (λ (v : WorldValue). (world_of v).memory.persisted (Announce p)) same)
  by _ _ (edit_begins r number h) = same_grows (h.begun.begins.memory.persisted (Announce p))
  by _ _ (work_begins q cell h) = by_turn q (work_begins_leaves old new q cell sound h).turn
  by _ _ (show_begins q h) = by_turn q (show_begins_turn old new q sound h)
  by _ _ (recovery_begins q h) = by_turn q (recovery_begins_turn old new q sound h)
  by _ _ (migration_begins q h) = by_turn q (migration_begins_turn old new q sound h)
  by _ _ (did_so.steps q reply is (edits h)) = by_turn q (edit_turn old new q reply sound h)
  by _ _ (did_so.steps q reply is (works h)) = by_turn q (work_leaves old new q reply sound h).turn
  by _ _ (did_so.steps q reply is (reports h)) = by_turn q (show_turn old new q reply sound h)
  by _ _ (did_so.steps q reply is (recoveries h)) = by_turn q (recovery_turn old new q reply sound h)
  by _ _ (did_so.steps q reply is (migrations h)) = by_turn q (migration_turn old new q reply sound h)
  by _ _ (offers value h) = by_turn value.task.process (offer_leaves old new value sound h).turn
  by _ _ (evicts word h) = by_eviction word h.evicts
  by _ _ (stops q h) = by_turn q (stop_turn old new q sound h)
  by _ _ (crashes h) = same_grows (h.crashes.memory.persisted (Announce p))

  pub announces_grow : (event : Event) (reply : Reply) → Takes old event reply new → Grows
  announces_grow event reply h = by event reply (did old new event reply h)

-- ---- an open edit's number is the one after the last that was closed

-- what an event does to the numbers of open edits
record NumbersOn (old new : Ledger) : Type 0 where
  opens : (q : ℕ) (o : Open) → new.opens q ≡ Some o → (o.it.edit.number ≡ next_number (old.told q)) ⊎ WasOpen old q o
  tells : (q : ℕ) → TellsOn old new q

numbers_on : {I : PlainEdit → Type 0} (k : ℕ) (old new : Ledger) → Moved k I old new → NumbersOn old new
numbers_on k old new m = record {
  opens = λ q o is. elim (m.opens q o is) [ inl fresh ↦ inl fresh.3 | inr was ↦ inr was ];
  tells = m.tells;
}

-- each open edit has its process's next number
abbrev IsNumbered : Ledger → Type 0
IsNumbered l = (q : ℕ) (o : Open) → l.opens q ≡ Some o → o.it.edit.number ≡ next_number (l.told q)

numbered_next : (old new : Ledger) → IsNumbered old → NumbersOn old new → IsNumbered new
numbered_next old new h m q o is = elim (m.tells q) [
  | inr closes ↦ absurd (none_some (new.opens q) o closes.2.gone is)
  | inl same ↦ elim (m.opens q o is) [
    | inl fresh ↦ fresh ∙ ap next_number (sym same)
    | inr was ↦ ap (λ (x : Placed). x.edit.number) was.same ∙ h q was.o was.was ∙ ap next_number (sym same)
  ]
]

numbered : (ledger : ℕ → Ledger) (n : ℕ) → ledger 0 ≡ empty_ledger → ((k : ℕ) → k < n → NumbersOn (ledger k) (ledger (k + 1))) → (k : ℕ) → k ≤ n → IsNumbered (ledger k)
numbered ledger n first on zero lt = subst (λ (l : Ledger). IsNumbered l) (sym first) (λ q o is. absurd (cc))
numbered ledger n first on (suc k) lt = up (λ i. IsNumbered (ledger i)) k (numbered_next (ledger k) (ledger (k + 1)) (numbered ledger n first on k (omega arith)) (on k (omega arith)))

-- ---- at the answer that forgets

-- no other call answers as a recovery
edit_recovers_not : (processes number : ℕ) (end : RecoveryEnd) (how : Outcome) → Recovery end ≡ Edit (end_by processes number how) → ⊥
edit_recovers_not processes number end outcome.Done is = absurd (cc)
edit_recovers_not processes number end (outcome.Overtaken noted seen) is = absurd (cc)

work_recovers_not : (what : Turn WorkEnd) (end : RecoveryEnd) → Answered (Recovery end) ≡ work_reply what → ⊥
work_recovers_not turns.GoesOn end is = absurd (cc)
work_recovers_not (turns.Answers e) end is = absurd (cc)

show_recovers_not : (what : Turn ShowEnd) (end : RecoveryEnd) → Answered (Recovery end) ≡ show_reply what → ⊥
show_recovers_not turns.GoesOn end is = absurd (cc)
show_recovers_not (turns.Answers e) end is = absurd (cc)

migration_recovers_not : (what : Turn MigrateEnd) (end : RecoveryEnd) → Answered (Recovery end) ≡ migration_reply what → ⊥
migration_recovers_not turns.GoesOn end is = absurd (cc)
migration_recovers_not (turns.Answers e) end is = absurd (cc)

recovers : (old new : WorldValue) (p : ℕ) (end : RecoveryEnd) → StepsBy old p (Answered (Recovery end)) new → RecoveryStepsBy old p (Answered (Recovery end)) new
recovers old new p end (recoveries h) = h
recovers old new p end (edits h) = absurd (let found = some_outcome old.sheet.layout.processes h.steps.edit.number (Recovery end) (outcome_at h.steps.edit.stage) (replied old new p (Answered (Recovery end)) h) in edit_recovers_not old.sheet.layout.processes h.steps.edit.number end found.0 found.2)
recovers old new p end (works h) = absurd (work_recovers_not h.what end h.is)
recovers old new p end (reports h) = absurd (show_recovers_not h.what end h.is)
recovers old new p end (migrations h) = absurd (migration_recovers_not h.what end h.is)

-- where a recovery reports again the last closed edit, the word that it found announces no later number
tells_no_later : (e : PlainRecoverCall) (how : Option Bool) (told : Option Closed) (w : PlainWorld) (p : ℕ) → ResolvedFits w p e.announcement e.cell (over how) → Recovery (end_of e how) ≡ Recovery (told_of told) → e.announcement / 4 ≤ next_number told
tells_no_later e None told w p r is = let none = r.2 in omega (arith, none)
tells_no_later e (Some b) None w p r is = absurd (cc)
tells_no_later e (Some b) (Some c) w p r is =
    let one : Last (record { number = number_of e; cell = e.cell; counts = b }) ≡ Last (record { number = c.it.edit.number; cell = c.it.edit.cell; counts = c.counts }) = cc in
    let same : record { number = number_of e; cell = e.cell; counts = b } ≡ record { number = c.it.edit.number; cell = c.it.edit.cell; counts = c.counts } = cc in
    let number : number_of e ≡ c.it.edit.number = ap (λ (t : LastEdit). t.number) same in
    omega (arith, number)

cached_word : (word : ℕ) (how : Option Bool) (w : PlainWorld) (p cell : ℕ) → ResolvedFits w p word cell (over how) → w.memory.cached (Announce p) ≡ word
cached_word word None w p cell r = r.0
cached_word word (Some b) w p cell r = r.0

persisted_word : (word : ℕ) (how : Option Bool) (w : PlainWorld) (p cell : ℕ) → ResolvedFits w p word cell (over how) → w.memory.persisted (Announce p) ≡ word
persisted_word word None w p cell r = r.1
persisted_word word (Some b) w p cell r = r.1

-- what the persisted side announces before and after a recovery's answer that reports again the last closed edit
module _ (old new : WorldValue) (p : ℕ) (end : RecoveryEnd) (sound : IsSound (world_of old)) (s : RecoveryStepsBy old p (Answered (Recovery end)) new) (told : Option Closed) (repeats : end ≡ told_of told) where
  found : IsAtAnswer s.steps.recovery s.steps.recovery.stage (Recovery end)
  found = at_answer s.steps.recovery s.steps.recovery.stage (Recovery end) (s.is ∙ ap recovery_reply s.steps.is)

  fits : RecoveryFits (world_of old) p s.steps.recovery
  fits = subst (λ (x : Situation). CallFits (world_of old) p x) s.steps.at (sound.calls p s.steps.there)

  resolved : ResolvedFits (world_of old) p s.steps.recovery.announcement s.steps.recovery.cell (over found.how)
  resolved = subst (λ q. ResolvedFits (world_of old) q s.steps.recovery.announcement s.steps.recovery.cell (over found.how)) s.steps.mine
      (subst (λ (x : RecoverStage). ResolvedFits (world_of old) s.steps.recovery.process s.steps.recovery.announcement s.steps.recovery.cell (resolved_at x)) found.at fits.resolved)

  same : SameMemory (world_of old).memory (world_of new).memory
  same = (subst (λ (x : RecoverStage). PerformsAt (steps.access_at s.steps.recovery x) s.steps.recovery.process (world_of old).memory (world_of new).memory s.steps.word) found.at s.steps.steps.memory).1

  low : s.steps.recovery.announcement / 4 ≤ next_number told
  low = tells_no_later s.steps.recovery found.how told (world_of old) p resolved (sym found.is ∙ ap (λ x. Recovery x) repeats)

  pub silent_cached : SaysNone (next_number told) ((world_of old).memory.cached (Announce p))
  silent_cached = let word = cached_word s.steps.recovery.announcement found.how (world_of old) p s.steps.recovery.cell resolved in omega (arith, word, low)

  pub silent_behind : SaysNone (next_number told) ((world_of new).memory.persisted (Announce p))
  silent_behind =
      let still = same.persisted (Announce p) in
      let word = persisted_word s.steps.recovery.announcement found.how (world_of old) p s.steps.recovery.cell resolved in
      omega (arith, still, word, low)

-- ---- over a run

module _ (old : WorldValue) (events : List Event) (replies : List Reply) (new : WorldValue) (run : RunOn 0 old.sheet.layout.shape empty_ledger old events replies new)
    (good : (k : ℕ) → k ≤ length events → IsGood (run.moment k).world) where
  abbrev at : ℕ → WorldValue
  at k = (run.moment k).world

  abbrev ledger : ℕ → Ledger
  ledger k = (run.moment k).ledger

  grows_at : (k p : ℕ) → k < length events → (world_of (at k)).memory.persisted (Announce p) ≤ (world_of (at (k + 1))).memory.persisted (Announce p)
  grows_at k p lt =
      let event = found_at events k lt in
      let reply = found_at replies k (let same = run.answered in omega arith) in
      announces_grow (at k) (at (k + 1)) (good k (omega arith)).sound p event.0 reply.0 (at_place old events replies new run k event.0 reply.0 (record { event_is = event.1; reply_is = reply.1 })).takes

  grow_from : (n j p : ℕ) → j + n ≤ length events → (world_of (at j)).memory.persisted (Announce p) ≤ (world_of (at (j + n))).memory.persisted (Announce p)
  grow_from zero j p lt = let same : j + 0 ≡ j = omega arith in subst (λ i. (world_of (at j)).memory.persisted (Announce p) ≤ (world_of (at i)).memory.persisted (Announce p)) (sym same) (omega arith)
  grow_from (suc n) j p lt =
      let same : j + n + 1 ≡ j + suc n = omega arith in
      let early = grow_from n j p (omega arith) in
      let late = grows_at (j + n) p (omega arith) in
      subst (λ i. (world_of (at j)).memory.persisted (Announce p) ≤ (world_of (at i)).memory.persisted (Announce p)) same (omega (arith, early, late))

  moves_at : (k : ℕ) → k < length events → NumbersOn (ledger k) (ledger (k + 1))
  moves_at k lt =
      let event = found_at events k lt in
      let reply = found_at replies k (let same = run.answered in omega arith) in
      let happens : Happens events replies k event.0 reply.0 = record { event_is = event.1; reply_is = reply.1 } in
      numbers_on k (ledger k) (ledger (k + 1)) (moved k old.sheet.layout.shape (ledger k) event.0 reply.0 (ledger (k + 1)) (at_place old events replies new run k event.0 reply.0 happens).ledger)

  module _ (k p : ℕ) (end : RecoveryEnd) (happens : Happens events replies k (Step p) (Answered (Recovery end))) (f : Forgets (ledger k) p end (ledger (k + 1))) where
    low_place : k < length events
    low_place = within events k (Step p) happens.event_is

    number_is : f.open_edit.it.edit.number ≡ next_number ((ledger k).told p)
    number_is = numbered ledger (length events) (ap (λ (m : Moment). m.ledger) run.first) moves_at k (omega (arith, low_place)) p f.open_edit f.was

    sound : IsSound (world_of (at k))
    sound = (good k (omega (arith, low_place))).sound

    answers : RecoveryStepsBy (at k) p (Answered (Recovery end)) (at (k + 1))
    answers = recovers (at k) (at (k + 1)) p end (at_place old events replies new run k (Step p) (Answered (Recovery end)) happens).takes

    persisted_silent : (j : ℕ) → j ≤ k + 1 → SaysNone f.open_edit.it.edit.number ((world_of (at j)).memory.persisted (Announce p))
    persisted_silent j until =
        let behind = silent_behind (at k) (at (k + 1)) p end sound answers ((ledger k).told p) f.repeats in
        let same : j + (k + 1 - j) ≡ k + 1 = omega (arith, until) in
        let grown : (world_of (at j)).memory.persisted (Announce p) ≤ (world_of (at (k + 1))).memory.persisted (Announce p) =
        subst (λ i. (world_of (at j)).memory.persisted (Announce p) ≤ (world_of (at i)).memory.persisted (Announce p)) same (grow_from (k + 1 - j) j p (omega (arith, low_place, same))) in
        omega (arith, number_is, behind, grown)

    cached_silent : SaysNone f.open_edit.it.edit.number ((world_of (at k)).memory.cached (Announce p))
    cached_silent = let here = silent_cached (at k) (at (k + 1)) p end sound answers ((ledger k).told p) f.repeats in omega (arith, number_is, here)

  pub forgotten_fit : ForgottenFit run.moment events replies
  forgotten_fit k p end happens f = record { persisted = persisted_silent k p end happens f; cached = cached_silent k p end happens f }

-- ---- its number is given out again

module _ (old : WorldValue) (events : List Event) (replies : List Reply) (new : WorldValue) (h : Headline old events replies new) (k p : ℕ) (end : RecoveryEnd)
    (happens : Happens events replies k (Step p) (Answered (Recovery end))) (f : Forgets (h.run.moment k).ledger p end (h.run.moment (k + 1)).ledger) where
  abbrev noted : ℕ → Ledger
  noted i = (h.run.moment i).ledger

  lt : k < length events
  lt = within events k (Step p) happens.event_is

  abbrev it : Placed
  it = f.open_edit.it

  first_number : it.edit.number ≡ next_number ((noted k).told p)
  first_number = numbered noted (length events) (ap (λ (m : Moment). m.ledger) h.run.first) (λ i low. numbers_on i (noted i) (noted (i + 1)) (the_move old events replies new h.run i low).moves) k (omega (arith, lt)) p f.open_edit f.was

  -- no edit of the process begins after the place and before that one
  abbrev NoneBegins : ℕ → Type 0
  NoneBegins j = (i n : ℕ) (other : PlainRequest) → k < i → i < j → other.process ≡ p → Happens events replies i (BeginEdit other) (Begun n) → ⊥

  -- no edit of it is open, and what is reported of it is what was
  record Waits (i : ℕ) : Type 0 where
    none : (noted i).opens p ≡ None
    told : (noted i).told p ≡ (noted k).told p

  move : (i : ℕ) → i < length events → MoveAt old events replies new h.run i
  move i low = the_move old events replies new h.run i low

  still_none : (i j : ℕ) (low : i < length events) → k < i → i < j → NoneBegins j → (noted i).opens p ≡ None → (x : Option Open) → (noted (i + 1)).opens p ≡ x → (noted (i + 1)).opens p ≡ None
  still_none i j low behind before none was None is = is
  still_none i j low behind before none was (Some o) is = absurd (elim ((move i low).moves.opens p o is) [
    | inr open_before ↦ none_some ((noted i).opens p) open_before.o was open_before.was
    | inl fresh ↦ (
        let b = was_begun events replies old.sheet.layout.shape o.it (move i low).event (move i low).reply (subst (λ n. Happens events replies n (move i low).event (move i low).reply) (sym fresh.0) (move i low).happens) fresh.2 in
        none i o.it.edit.number b.request behind before (b.process ∙ fresh.1) (subst (λ n. Happens events replies n (BeginEdit b.request) (Begun o.it.edit.number)) fresh.0 b.begun))
  ])

  waits_next : (i j : ℕ) → i < length events → k < i → i < j → NoneBegins j → Waits i → Waits (i + 1)
  waits_next i j low behind before none w = record {
    none = still_none i j low behind before none w.none ((noted (i + 1)).opens p) refl;
    told = elim ((move i low).moves.tells p) [ inl same ↦ same ∙ w.told | inr closes ↦ absurd (none_some ((noted i).opens p) closes.2.o w.none closes.2.was) ];
  }

  waits : (n j : ℕ) → k + 1 + n ≤ j → j ≤ length events → NoneBegins j → Waits (k + 1 + n)
  waits zero j until within_run none = let same : k + 1 ≡ k + 1 + 0 = omega arith in subst Waits same (record {
    none = ap (λ (l : Ledger). l.opens p) f.is ∙ put_here (noted k).opens p None;
    told = ap (λ (l : Ledger). l.told p) f.is;
  })
  waits (suc n) j until within_run none = let same : k + 1 + n + 1 ≡ k + 1 + suc n = omega arith in subst Waits same (waits_next (k + 1 + n) j (omega (arith, until, within_run)) (omega arith) (omega (arith, until)) none (waits n j (omega (arith, until)) within_run none))

  again : IsGivenAgain events replies k p it.edit.number
  again j next request later begins mine none =
      let low : j < length events = within events j (BeginEdit request) begins.event_is in
      let same : k + 1 + (j - (k + 1)) ≡ j = omega (arith, later) in
      let w : Waits j = subst Waits same (waits (j - (k + 1)) j (omega (arith, same)) (omega (arith, low)) none) in
      let i : Issues j (noted j) (record { process = request.process; number = next; cell = _; text = request.text }) (noted (j + 1)) = h.run.ledger j (BeginEdit request) (Begun next) begins in
      i.next ∙ ap (λ q. next_number ((noted j).told q)) mine ∙ ap next_number w.told ∙ sym first_number

  pub is_forgotten : IsForgotten h.run.moment events replies k p f.open_edit.it
  is_forgotten =
      let o = orderly old events replies new h.run k (omega (arith, lt)) in
      let a = (asked old events replies new h.run k (omega (arith, lt))).opens p f.open_edit f.was in
      let b = was_begun events replies old.sheet.layout.shape it a.event a.reply a.happens a.issues in
      record {
        request = b.request;
        begun = b.begun;
        mine = b.process ∙ o.mine p f.open_edit f.was;
        earlier = o.opens p f.open_edit f.was;
        unannounced = h.run.forgotten k p end happens f;
        again = again;
      }

-- an edit that a recovery forgets was at no moment announced on the persisted side, and its number is given out again
pub forgotten_law : (old : WorldValue) (events : List Event) (replies : List Reply) (new : WorldValue) (h : Headline old events replies new) (k p : ℕ) (end : RecoveryEnd)
    → Happens events replies k (Step p) (Answered (Recovery end)) → (f : Forgets (h.run.moment k).ledger p end (h.run.moment (k + 1)).ledger) → IsForgotten h.run.moment events replies k p f.open_edit.it
forgotten_law old events replies new h k p end happens f = is_forgotten old events replies new h k p end happens f
