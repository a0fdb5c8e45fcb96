-- What a run's shows answer is true of the worlds of their calls.
use Rattle.std.proofs.Common.{ℕ, ◌≡◌, ◌≢◌, ◌<◌, ◌≤◌, ◌+◌, List, [], ◌∷◌, refl, ap, sym, ◌∙◌, subst, arith, inl, inr, zero, suc, length, Some, None}
use Rattle.ds_state.specs.declared.turn.Turn.{Turn}
use Rattle.ds_state.specs.declared.migration.MigrateEnd.{MigrateEnd}
use Rattle.ds_state.specs.declared.recovery.RecoveryEnd.{RecoveryEnd}
use Rattle.std.specs.Prelude.{◌⊎◌, Option, slice_get, slice_set, slice_index_or}
use Rattle.std.proofs.lemmas.Bool.{cases_eq, cases_lt}
use Rattle.std.proofs.lemmas.List.{get_or_past, get_or-set_same}
use Rattle.ds_layout.specs.declared.layout.Layout.{Layout}
use Rattle.ds_layout.specs.declared.place.Place.{Place}
use Rattle.ds_layout.specs.declared.place.Place.TheVariants as place
use Rattle.ds_state.specs.World.{PlainEdit, PlainWorld}
use Rattle.ds_state.specs.Reports.{PlainReports}
use Rattle.ds_state.specs.declared.stage.Outcome.{Outcome}
use Rattle.ds_state.specs.declared.stage.Outcome.TheVariants as outcome
use Rattle.ds_state.specs.EditEndings.{outcome_at}
use Rattle.ds_state.specs.declared.answer.Answer as call_answers
use Rattle.ds_state.specs.declared.answer.Answer.TheVariants.{Show}
use Rattle.ds_state.specs.declared.show.ShowEnd.TheVariants.{Settled, Unsettled}
use Rattle.ds_state.specs.declared.turn.Turn.TheVariants as turns
use Rattle.ds_show.specs.ShowSteps.{answered, effect_at}
use Rattle.ds_show.specs.ShowTakes.{reports_by}
use Rattle.ds_state.specs.Works.{PlainShowCall}
use Rattle.ds_state.specs.Edits.{PlainEditCall}
use Rattle.ds_layout.specs.Places.{cells_of}
use Rattle.ds_state.specs.ShowStages.{IsStage}
use Rattle.ds_state.specs.Fresh.{IsNew}
use Rattle.ds_state.specs.KnownShow.{AreScratch, IsStill, moment_of}
use Rattle.ds_state.specs.declared.stage.Stage.{Stage}
use Rattle.ds_state.specs.declared.stage.Stage.TheVariants.{Answer}
use Rattle.ds_state.specs.declared.show.ShowEnd.{ShowEnd}
use Rattle.ds_state.specs.declared.show.ShowEnd.TheVariants as ends
use Rattle.ds_state.specs.declared.show.ShowStage.{ShowStage}
use Rattle.ds_state.specs.declared.show.ShowStage.TheVariants as stages
use Rattle.ds_state.specs.Rely.{Rely}
use Rattle.ds_state.specs.CallsFit.{CallFits}
use Rattle.ds_state.specs.Value.{first_rest, WorldValue, world_of, IsGood}
use Rattle.ds_state.specs.declared.situation.Situation.{Situation}
use Rattle.ds_state.specs.declared.situation.Situation.TheVariants as situation
use Rattle.ds_state.specs.declared.situation.Situation.TheVariants.{Idle, Editing, Recovering, Showing, Migrating}
use Rattle.ds_state.proofs.Accesses.{evict_sound}
use Rattle.ds_state.proofs.Buffers.{buffered}
use Rattle.ds_edit.specs.EditTakes as edit_steps
use Rattle.ds_edit.proofs.Answering.{begin_sound}
use Rattle.ds_show.specs.ShowRuns.{Passes, HasBegun, Call, IsOf, AreInTurn, WasStill, WasOff, IsTrueShow}
use Rattle.ds_show.proofs.ShowRuns.{rely_same, answer_true}
use Rattle.ds_core.specs.MigrationEvents.{migration_reply}
use Rattle.ds_core.specs.EditEvents.{reply_with, EditStepsBy}
use Rattle.ds_core.proofs.Replied.{replied}
use Rattle.ds_core.specs.ShowEvents.{show_reply, ShowStepsBy, ShowBegins}
use Rattle.ds_core.specs.StepEvents.{StepsBy, edits, works, reports, recoveries, migrations}
use Rattle.ds_core.specs.WorkEvents.{work_reply}
use Rattle.ds_core.specs.RecoveryEvents.{recovery_reply, RecoveryStepsBy}
use Rattle.ds_state.specs.declared.work.WorkEnd.{WorkEnd}
use Rattle.ds_core.specs.Takes.{Takes}
use Rattle.ds_core.specs.Moments.{Moment, MomentFits, empty_ledger}
use Rattle.ds_core.proofs.Did as did_so
use Rattle.ds_core.proofs.Did.{Did, did, nothing, edit_begins, work_begins, show_begins, recovery_begins, migration_begins, offers, evicts, stops, crashes}
use Rattle.ds_core.specs.Headline.{Happens, IsCall, IsWatched, IsUnrest, SettledFits, UnsettledFits, ReportsFit, kept_values}
use Rattle.ds_core.specs.declared.event.Event.{Event}
use Rattle.ds_core.specs.declared.event.Event.TheVariants.{BeginEdit, BeginWork, BeginShow, BeginRecover, BeginMigrate, Step, Offer, Stop}
use Rattle.ds_core.specs.declared.reply.Reply.{Reply}
use Rattle.ds_core.specs.declared.reply.Reply.TheVariants.{Begun, Entered, Stepped, Answered, Stopped}
use Rattle.ds_core.proofs.Turns.{IsTurn, LeavesEdits, edit_turn, show_turn, show_begins_turn, stop_turn, work_leaves, work_begins_leaves, offer_leaves, recovery_turn, recovery_begins_turn, migration_turn, migration_begins_turn}
use Rattle.ds_core.proofs.AtWork.{StaysAtWork, at_work_shows_not, work_stays, work_begins_stays, offer_stays}
use Rattle.ds_core.proofs.AtRecovery.{recovery_shows_not}
use Rattle.ds_core.proofs.AtMigration.{migration_shows_not}
use Rattle.ds_core.proofs.NewIdle.{new_idle}
use Rattle.ds_core.proofs.Carry.{RunOn, at_place}
use Rattle.ds_core.proofs.Closing.{found_at, up}

-- ---- one event, seen by a process that shows the sheet after it

-- it reported before, too: this was its own step, or leaves it what it relies on
record WasShowing (p : ℕ) (old new : WorldValue) : Type 0 where
  show : PlainShowCall
  was : (world_of old).situation p ≡ Showing show
  passes : Passes p (world_of old) (world_of new)

-- its show has begun with this event
record JustBegan (p : ℕ) (old : WorldValue) (event : Event) (reply : Reply) (new : WorldValue) : Type 0 where
  event_is : event ≡ BeginShow p
  reply_is : reply ≡ Entered
  begun : HasBegun p (world_of new)

module _ (p : ℕ) (old new : WorldValue) (good : IsGood old) (low : p < old.sheet.layout.processes) (e : PlainShowCall) (at : (world_of new).situation p ≡ Showing e) where
  abbrev Either : Event → Reply → Type 0
  Either event reply = JustBegan p old event reply new ⊎ WasShowing p old new

  -- nothing changed
  unchanged : (event : Event) (reply : Reply) → new ≡ old → Either event reply
  unchanged event reply same = inr (record {
    show = e;
    was = ap (λ (v : WorldValue). (world_of v).situation p) (sym same) ∙ at;
    passes = inr (subst (λ (v : WorldValue). Rely p (world_of old) (world_of v)) (sym same) (rely_same p (world_of old)));
  })

  -- another process's turn
  by_other : (event : Event) (reply : Reply) (q : ℕ) → q ≢ p → IsTurn q old new → Either event reply
  by_other event reply q ne t = inr (record {
    show = e;
    was = sym (t.others p (λ same. ne (sym same))) ∙ at;
    passes = inr (t.keeps.others p (λ same. ne (sym same)));
  })

  -- a turn after which its process does not show the sheet
  by_turn : (event : Event) (reply : Reply) (q : ℕ) → IsTurn q old new → (q ≡ p → (f : PlainShowCall) → (world_of new).situation q ≡ Showing f → ⊥) → Either event reply
  by_turn event reply q t none = elim (cases_eq q p) [
    | inl same ↦ absurd (none same e (ap (λ x. (world_of new).situation x) same ∙ at))
    | inr ne ↦ by_other event reply q ne t
  ]

  by_edit : (q : ℕ) (reply : Reply) → EditStepsBy old q reply new → Either (Step q) reply
  by_edit q reply h = by_turn (Step q) reply q (edit_turn old new q reply good.sound h) (λ same f is. edit_after h.steps.edit h.steps.edit.stage h.steps.word f (sym h.steps.steps.situation ∙ ap (λ x. (world_of new).situation x) h.steps.mine ∙ is))
    where
      edit_after : (e : PlainEditCall) (s : Stage) (word : ℕ) (f : PlainShowCall) → edit_steps.after e s word ≡ Showing f → ⊥
      edit_after e (Answer how) word f is = absurd (cc)
      edit_after e _ word f is = absurd (cc)

  by_show : (q : ℕ) (reply : Reply) → ShowStepsBy old q reply new → Either (Step q) reply
  by_show q reply h = elim (cases_eq q p) [
    | inr ne ↦ by_other (Step q) reply q ne (show_turn old new q reply good.sound h)
    | inl same ↦ inr (record {
      show = h.steps.show;
      was = ap (λ x. (world_of old).situation x) (sym same) ∙ h.steps.at;
      passes = inl (record { show = h.steps.show; word = h.steps.word; mine = h.steps.mine ∙ same; was = ap (λ x. (world_of old).situation x) (sym same) ∙ h.steps.at; steps = h.steps.steps });
    })
  ]

  began : (q : ℕ) → ShowBegins old q new → Either (BeginShow q) Entered
  began q h = elim (cases_eq q p) [
    | inr ne ↦ by_other (BeginShow q) Entered q ne (show_begins_turn old new q good.sound h)
    | inl same ↦ inl (record {
      event_is = ap (λ x. BeginShow x) same;
      reply_is = refl;
      begun = subst (λ (x : ℕ). HasBegun x (world_of new)) same (record { before = world_of old; next = h.begun.next; sound = good.sound; real = h.there; begins = h.begun.begins });
    })
  ]

  by_work : (event : Event) (reply : Reply) (q : ℕ) → LeavesEdits q old new → StaysAtWork q old new → Either event reply
  by_work event reply q k s = by_turn event reply q k.turn (λ same f is. at_work_shows_not s.number ((world_of new).situation q) s.now f is)

  by_recovery : (q : ℕ) (reply : Reply) → RecoveryStepsBy old q reply new → Either (Step q) reply
  by_recovery q reply h = by_turn (Step q) reply q (recovery_turn old new q reply good.sound h) (λ same f is. recovery_shows_not old new q reply h f is)

  by : (event : Event) (reply : Reply) → Did old new event reply → Either event reply
  by _ _ (nothing event reply none is same) = unchanged event reply same
  by _ _ (edit_begins r number h) = by_turn (BeginEdit r) (Begun number) h.begun.edit.process (record {
    there = rw h.begun.asked.sheet.processes h.begun.asked.is.process;
    keeps = begin_sound h.begun.edit (world_of old) (world_of new) good.sound h.begun.asked.is h.begun.asked.sheet h.begun.asked.refs h.begun.begins;
    others = h.begun.begins.others;
  }) (λ same f is. let bad : Editing h.begun.edit ≡ Showing f = sym h.begun.begins.situation ∙ is in cc)
  by _ _ (work_begins q cell h) = by_work (BeginWork q cell) Entered q (work_begins_leaves old new q cell good.sound h) (work_begins_stays q old new cell h)
  by _ _ (show_begins q h) = began q h
  by _ _ (recovery_begins q h) = by_turn (BeginRecover q) Entered q (recovery_begins_turn old new q good.sound h) (λ same f is. let bad : Recovering _ ≡ Showing f = sym h.begun.begins.situation ∙ is in cc)
  by _ _ (did_so.steps q reply is (edits h)) = by_edit q reply h
  by _ _ (did_so.steps q reply is (works h)) = by_work (Step q) reply q (work_leaves old new q reply good.sound h) (work_stays q old new reply h)
  by _ _ (did_so.steps q reply is (reports h)) = by_show q reply h
  by _ _ (did_so.steps q reply is (recoveries h)) = by_recovery q reply h
  by _ _ (migration_begins q h) = by_turn (BeginMigrate q) Entered q (migration_begins_turn old new q good.sound h) (λ same f is. let bad : Migrating _ ≡ Showing f = sym h.begun.situation ∙ is in cc)
  by _ _ (did_so.steps q reply is (migrations h)) = by_turn (Step q) reply q (migration_turn old new q reply good.sound h) (λ same f is. migration_shows_not old new q reply h f is)
  by _ _ (offers value h) = by_work (Offer value) Stepped value.task.process (offer_leaves old new value good.sound h) (offer_stays old new value h)
  by _ _ (evicts word h) = inr (record {
    show = e;
    was = sym (h.evicts.situation p) ∙ at;
    passes = inr ((evict_sound word (world_of old) (world_of new) good.sound (buffered (world_of old) good.sound) h.evicts).1 p low);
  })
  by _ _ (stops q h) = by_turn (Stop q) Stopped q (stop_turn old new q good.sound h) (λ same f is. let bad : situation.Stopped ≡ Showing f = sym h.stops.situation ∙ is in cc)
  by _ _ (crashes h) = absurd (let bad : situation.Stopped ≡ Showing e = sym (h.crashes.situation p low) ∙ at in cc)

  one_event : (event : Event) (reply : Reply) → Takes old event reply new → Either event reply
  one_event event reply h = by event reply (did old new event reply h)

-- an answer that is no show's
abbrev IsNoShow : call_answers.Answer → Type 0
IsNoShow (Show end) = ⊥
IsNoShow _ = Unit {0}

no_show : (a b : call_answers.Answer) → Answered a ≡ Answered b → IsNoShow b → IsNoShow a
no_show a b is none = (let same : a ≡ b = cc in subst (λ (x : call_answers.Answer). IsNoShow x) (sym same) none)

there : {A : Type 0} (xs : List A) (k : ℕ) (x : A) → slice_get xs k ≡ Some x → k < length xs
there [] k x is = absurd (cc)
there (y ∷ ys) zero x is = omega arith
there (y ∷ ys) (suc k) x is = let r = there ys k x is in omega arith

-- ---- along a run

-- a show of the world is one of its processes'
real : (v : WorldValue) (p : ℕ) (e : PlainShowCall) → IsGood v → (world_of v).situation p ≡ Showing e → p < v.sheet.layout.processes
real v p e good is = elim (cases_lt p v.sheet.layout.processes) [
  | inl lt ↦ lt
  | inr ge ↦ absurd (let bad : Idle first_rest ≡ Showing e = sym (get_or_past v.situations p (Idle first_rest) (let n = good.situations in omega arith)) ∙ is in cc)
]

module _ (old : WorldValue) (events : List Event) (replies : List Reply) (new : WorldValue) (run : RunOn 0 old.sheet.layout.shape empty_ledger old events replies new)
    (good : (k : ℕ) → k ≤ length events → IsGood (run.moment k).world) (fresh : IsNew (world_of old)) where
  abbrev at : ℕ → WorldValue
  at k = (run.moment k).world

  -- the worlds after a begin, n of them, the latest first
  abbrev past : ℕ → ℕ → List PlainWorld
  past start zero = []
  past start (suc n) = world_of (at (start + 1 + n)) ∷ past start n

  record IsShowing (p k : ℕ) : Type 0 where
    start : ℕ
    n : ℕ
    is : k ≡ start + 1 + n
    begins : Happens events replies start (BeginShow p) Entered
    last : (j : ℕ) → start < j → j < k → Happens events replies j (BeginShow p) Entered → ⊥
    call : Call p (world_of (at k)) (past start n)

  takes_at : (k : ℕ) (event : Event) (reply : Reply) → Happens events replies k event reply → Takes (at k) event reply (at (k + 1))
  takes_at k event reply happens = (at_place old events replies new run k event reply happens).takes

  not_twice : (k p : ℕ) (e : PlainShowCall) → (world_of (at k)).situation p ≡ Showing e → Happens events replies k (BeginShow p) Entered → ⊥
  not_twice k p e is happens = let t : ShowBegins (at k) p (at (k + 1)) = takes_at k (BeginShow p) Entered happens in let bad : Idle t.begun.next ≡ Showing e = sym t.begun.begins.idle ∙ is in cc

  reporting : (k : ℕ) → k ≤ length events → (p : ℕ) (e : PlainShowCall) → (world_of (at k)).situation p ≡ Showing e → IsShowing p k
  reporting zero lt p e is = absurd (let old_good : IsGood old = subst IsGood (ap (λ (m : Moment). m.world) run.first) (good 0 (omega arith)) in let here : (world_of old).situation p ≡ Showing e = ap (λ (m : Moment). (world_of m.world).situation p) (sym run.first) ∙ is in let f = new_idle old old_good fresh p in let bad : Idle f.rest ≡ Showing e = sym f.is ∙ here in cc)
  reporting (suc k) lt p e is =
      let event = found_at events k (omega arith) in
      let reply = found_at replies k (let same = run.answered in omega arith) in
      let happens : Happens events replies k event.0 reply.0 = record { event_is = event.1; reply_is = reply.1 } in
      let next : (world_of (at (k + 1))).situation p ≡ Showing e = (let same : suc k ≡ k + 1 = omega arith in subst (λ i. (world_of (at i)).situation p ≡ Showing e) same is) in
      let layouts : (at (k + 1)).sheet.layout.processes ≡ (at k).sheet.layout.processes = ap (λ (l : Layout). l.processes) (at_place old events replies new run k event.0 reply.0 happens).layout in
      let low : p < (at k).sheet.layout.processes = (let r = real (at (k + 1)) p e (good (k + 1) (omega arith)) next in omega arith) in
      up (λ i. IsShowing p i) k (elim (one_event p (at k) (at (k + 1)) (good k (omega arith)) low e next event.0 reply.0 (takes_at k event.0 reply.0 happens)) [
        | inl b ↦ record {
          start = k;
          n = 0;
          is = omega arith;
          begins = subst (λ (x : Event). Happens events replies k x Entered) b.event_is (subst (λ (x : Reply). Happens events replies k event.0 x) b.reply_is happens);
          last = λ j later before. absurd (omega arith);
          call = b.begun;
        }
        | inr w ↦ one_more k p w (good k (omega arith)) (reporting k (omega arith) p w.show w.was)
      ])
    where
      one_more : (k p : ℕ) → WasShowing p (at k) (at (k + 1)) → IsGood (at k) → IsShowing p k → IsShowing p (k + 1)
      one_more k p w good r = record {
        start = r.start;
        n = suc r.n;
        is = (let i = r.is in omega arith);
        begins = r.begins;
        last = λ j later before happens. elim (cases_lt j k) [
          | inl lt ↦ r.last j later lt happens
          | inr ge ↦ (let same : j ≡ k = omega arith in not_twice k p w.show w.was (subst (λ i. Happens events replies i (BeginShow p) Entered) same happens))
        ];
        call = subst (λ i. Call p (world_of (at (k + 1))) (world_of (at i) ∷ past r.start r.n)) r.is (good.sound, w.passes, r.call);
      }

  -- a world of the call is that of a moment after the begin
  record IsAt (start k : ℕ) (m : PlainWorld) : Type 0 where
    i : ℕ
    later : start < i
    until : i ≤ k
    is : m ≡ world_of (at i)

  is_at : (start n : ℕ) (m : PlainWorld) → IsOf m (world_of (at (start + 1 + n))) (past start n) → IsAt start (start + 1 + n) m
  is_at start zero m is = record { i = start + 1 + 0; later = omega arith; until = omega arith; is = is }
  is_at start (suc n) m (inl is) = record { i = start + 1 + suc n; later = omega arith; until = omega arith; is = is }
  is_at start (suc n) m (inr rest) = let r = is_at start n m rest in record { i = r.i; later = r.later; until = (let u = r.until in omega arith); is = r.is }

  record AreAt (start k : ℕ) (e m : PlainWorld) : Type 0 where
    early : IsAt start k e
    late : IsAt start k m
    order : early.i ≤ late.i

  are_at : (start n : ℕ) (e m : PlainWorld) → AreInTurn e m (world_of (at (start + 1 + n))) (past start n) → AreAt start (start + 1 + n) e m
  are_at start zero e m is = absurd is
  are_at start (suc n) e m (inl h) =
      let r = is_at start n e h.1 in
      record {
        early = record { i = r.i; later = r.later; until = (let u = r.until in omega arith); is = r.is };
        late = record { i = start + 1 + suc n; later = omega arith; until = omega arith; is = h.0 };
        order = (let u = r.until in omega arith);
      }
  are_at start (suc n) e m (inr rest) =
      let r = are_at start n e m rest in
      record {
        early = record { i = r.early.i; later = r.early.later; until = (let u = r.early.until in omega arith); is = r.early.is };
        late = record { i = r.late.i; later = r.late.later; until = (let u = r.late.until in omega arith); is = r.late.is };
        order = r.order;
      }

  -- what an answered show ended with
  record Ends (k p : ℕ) (end : ShowEnd) : Type 0 where
    show : PlainShowCall
    mine : show.process ≡ p
    was : (world_of (at k)).situation p ≡ Showing show
    last : show.stage ≡ stages.Answer end
    kept : (at (k + 1)).reports ≡ reports_by (at k).reports show (turns.Answers end)

  ends_at : (s : ShowStage) (end : ShowEnd) → effect_at s ≡ turns.Answers end → s ≡ stages.Answer end
  ends_at (stages.Answer e) end is = let same : e ≡ end = cc in ap (λ x. stages.Answer x) same
  ends_at _ end is = absurd (cc)

  ends_of : (k p : ℕ) (reply : Reply) (end : ShowEnd) (h : ShowStepsBy (at k) p reply (at (k + 1))) → h.what ≡ turns.Answers end → Ends k p end
  ends_of k p reply end h is = record {
    show = h.steps.show;
    mine = h.steps.mine;
    was = h.steps.at;
    last = ends_at h.steps.show.stage end (sym h.steps.is ∙ is);
    kept = h.steps.reports ∙ ap (λ (w : Turn ShowEnd). reports_by (at k).reports h.steps.show w) is;
  }

  true_at : (k p : ℕ) (end : ShowEnd) → k ≤ length events → (h : Ends k p end) → (r : IsShowing p k) → IsTrueShow (world_of (at (r.start + 1 + r.n))) (past r.start r.n) h.show end
  true_at k p end lt h r =
      answer_true p (world_of (at (r.start + 1 + r.n))) (past r.start r.n) (subst (λ i. Call p (world_of (at i)) (past r.start r.n)) r.is r.call) h.show end
      (subst (λ i. (world_of (at i)).situation p ≡ Showing h.show) r.is h.was) h.last

  is_call : (k p : ℕ) (r : IsShowing p k) → IsCall events replies p r.start k
  is_call k p r = record { begins = r.begins; earlier = (let i = r.is in omega arith); last = r.last }

  settled_fits : (k p : ℕ) → k ≤ length events → (h : Ends k p ends.Settled) → (r : IsShowing p k) → WasStill (world_of (at (r.start + 1 + r.n))) (past r.start r.n) (answered h.show) → SettledFits run.moment r.start k (answered h.show)
  settled_fits k p lt h r t =
      let i = is_at r.start r.n t.moment t.of in
      let fits : MomentFits (run.moment i.i) = run.fits i.i (let u = i.until in let same = r.is in omega arith) in
      record {
        at = i.i;
        later = i.later;
        until = (let u = i.until in let same = r.is in omega arith);
        still = subst (λ (w : PlainWorld). IsStill w.layout (moment_of w)) i.is t.still;
        right = subst (λ (es : List PlainEdit). AreScratch (at i.i).sheet.layout.shape es (answered h.show)) (sym fits.counted) (subst (λ (w : PlainWorld). AreScratch w.layout.shape w.counted (answered h.show)) i.is t.right);
      }

  kept_here : (k p : ℕ) → k ≤ length events → (h : Ends k p ends.Settled) → kept_values (at (k + 1)) p ≡ answered h.show
  kept_here k p lt h =
      let g = good k lt in
      let low = real (at k) p h.show g h.was in
      ap (λ (r : PlainReports). slice_index_or r.values p []) h.kept ∙ ap (λ q. slice_index_or (slice_set (at k).reports.values q (answered h.show)) p []) h.mine ∙ get_or-set_same (at k).reports.values p (answered h.show) [] (let n = g.reports.processes in omega arith)

  -- an edit settles nothing
  edit_settles : (processes number : ℕ) (o : Option Outcome) → Answered (Show Settled) ≡ reply_with processes number o → ⊥
  edit_settles processes number None is = cc
  edit_settles processes number (Some outcome.Done) is = cc
  edit_settles processes number (Some (outcome.Overtaken noted seen)) is = cc

  edit_unsettles : (processes number : ℕ) (place : Place) (word : ℕ) (o : Option Outcome) → Answered (Show (Unsettled place word)) ≡ reply_with processes number o → ⊥
  edit_unsettles processes number place word None is = cc
  edit_unsettles processes number place word (Some outcome.Done) is = cc
  edit_unsettles processes number place word (Some (outcome.Overtaken noted seen)) is = cc

  -- nor does work, nor a recovery
  work_shows_not : (what : Turn WorkEnd) (answer : call_answers.Answer) → Answered answer ≡ work_reply what → IsNoShow answer
  work_shows_not turns.GoesOn answer is = absurd (cc)
  work_shows_not (turns.Answers end) answer is = no_show answer _ is tt

  recovery_reports_not : (what : Turn RecoveryEnd) (answer : call_answers.Answer) → Answered answer ≡ recovery_reply what → IsNoShow answer
  recovery_reports_not turns.GoesOn answer is = absurd (cc)
  recovery_reports_not (turns.Answers end) answer is = no_show answer _ is tt

  migration_reports_not : (what : Turn MigrateEnd) (answer : call_answers.Answer) → Answered answer ≡ migration_reply what → IsNoShow answer
  migration_reports_not turns.GoesOn answer is = absurd (cc)
  migration_reports_not (turns.Answers end) answer is = no_show answer _ is tt

  settles : (what : Turn ShowEnd) → Answered (Show Settled) ≡ show_reply what → what ≡ turns.Answers ends.Settled
  settles turns.GoesOn is = absurd (cc)
  settles (turns.Answers ends.Settled) is = refl
  settles (turns.Answers (ends.Unsettled place word)) is = absurd (cc)

  settled : (k p : ℕ) → Happens events replies k (Step p) (Answered (Show Settled)) → (start : ℕ) × IsCall events replies p start k × SettledFits run.moment start k (kept_values (at (k + 1)) p)
  settled k p happens = by (takes_at k (Step p) (Answered (Show Settled)) happens)
    where
      lt : k < length events
      lt = there events k (Step p) happens.event_is

      by : StepsBy (at k) p (Answered (Show Settled)) (at (k + 1)) → (start : ℕ) × IsCall events replies p start k × SettledFits run.moment start k (kept_values (at (k + 1)) p)
      by (edits h) = absurd (edit_settles (at k).sheet.layout.processes h.steps.edit.number (outcome_at h.steps.edit.stage) (replied (at k) (at (k + 1)) p (Answered (Show Settled)) h))
      by (works h) = absurd (work_shows_not h.what (Show Settled) h.is)
      by (recoveries h) = absurd (recovery_reports_not h.what (Show Settled) h.is)
      by (migrations h) = absurd (migration_reports_not h.what (Show Settled) h.is)
      by (reports h) =
          let e : Ends k p ends.Settled = ends_of k p (Answered (Show Settled)) ends.Settled h (settles h.what h.is) in
          let within : k ≤ length events = (let l = lt in omega arith) in
          let r = reporting k within p e.show e.was in
          (r.start, is_call k p r, subst (λ values. SettledFits run.moment r.start k values) (sym (kept_here k p within e)) (settled_fits k p within e r (true_at k p ends.Settled within e r)))

  -- a word that is not at rest, or moved in the call
  module _ (k p : ℕ) (r : IsShowing p k) (place : Place) (word : ℕ) (Bad : Type 0) (watched : (i : ℕ) → i ≤ k → IsWatched (world_of (at i)) place) (bad : (i : ℕ) → i ≤ k → Bad → IsUnrest (world_of (at i)) place word)
      (t : WasOff (world_of (at (r.start + 1 + r.n))) (past r.start r.n) place word Bad) where
    by_why : (why : Bad ⊎ ((earlier : PlainWorld) × AreInTurn earlier t.moment (world_of (at (r.start + 1 + r.n))) (past r.start r.n) × (earlier.memory.cached place ≢ word))) → UnsettledFits run.moment r.start k place word
    by_why (inl b) =
        let i = is_at r.start r.n t.moment t.of in
        let until : i.i ≤ k = (let u = i.until in let same = r.is in omega arith) in
        record {
          at = i.i;
          later = i.later;
          until = until;
          watched = watched i.i until;
          held = subst (λ (w : PlainWorld). w.memory.cached place ≡ word) i.is t.held;
          why = inl (bad i.i until b);
        }
    by_why (inr (earlier, turn, other)) =
        let a = are_at r.start r.n earlier t.moment turn in
        let until : a.late.i ≤ k = (let u = a.late.until in let same = r.is in omega arith) in
        record {
          at = a.late.i;
          later = a.late.later;
          until = until;
          watched = watched a.late.i until;
          held = subst (λ (w : PlainWorld). w.memory.cached place ≡ word) a.late.is t.held;
          why = inr (a.early.i, a.early.later, a.order, subst (λ (w : PlainWorld). w.memory.cached place ≢ word) a.early.is other);
        }

    off_fits : UnsettledFits run.moment r.start k place word
    off_fits = by_why t.why

  cells_at : (k i : ℕ) → k ≤ length events → i ≤ k → cells_of (at i).sheet.layout ≡ cells_of (at k).sheet.layout
  cells_at k i lt le = ap cells_of (run.layouts i (omega arith) ∙ sym (run.layouts k lt))

  processes_at : (k i : ℕ) → k ≤ length events → i ≤ k → (at i).sheet.layout.processes ≡ (at k).sheet.layout.processes
  processes_at k i lt le = ap (λ (l : Layout). l.processes) (run.layouts i (omega arith) ∙ sym (run.layouts k lt))

  fits_at : (k p : ℕ) (e : PlainShowCall) → k ≤ length events → (world_of (at k)).situation p ≡ Showing e → CallFits (world_of (at k)) p (Showing e)
  fits_at k p e lt is = subst (λ (s : Situation). CallFits (world_of (at k)) p s) is ((good k lt).sound.calls p (real (at k) p e (good k lt) is))

  unsettled_by : (k p : ℕ) → k ≤ length events → (r : Place) (word : ℕ) (h : Ends k p (ends.Unsettled r word)) → (i : IsShowing p k) → UnsettledFits run.moment i.start k r word
  unsettled_by k p lt (place.Mark c) word h i =
      let there : c < cells_of (at k).sheet.layout = (let f = fits_at k p h.show lt h.was in let low = subst (λ (s : ShowStage). IsStage h.show s) h.last f.1.is.stage in let same = f.1.cells in omega arith) in
      off_fits k p i (place.Mark c) word _ (λ j le. (let same = cells_at k j lt le in omega arith)) (λ j le b. ((let same = cells_at k j lt le in omega arith), b)) (true_at k p (ends.Unsettled (place.Mark c) word) lt h i)
  unsettled_by k p lt (place.Announce q) word h i =
      let there : q < (at k).sheet.layout.processes = (let f = fits_at k p h.show lt h.was in let low = subst (λ (s : ShowStage). IsStage h.show s) h.last f.1.is.stage in let same = f.1.processes in omega arith) in
      off_fits k p i (place.Announce q) word _ (λ j le. (let same = processes_at k j lt le in omega arith)) (λ j le b. ((let same = processes_at k j lt le in omega arith), b)) (true_at k p (ends.Unsettled (place.Announce q) word) lt h i)
  unsettled_by k p lt _ word h i = absurd (let f = fits_at k p h.show lt h.was in subst (λ (s : ShowStage). IsStage h.show s) h.last f.1.is.stage)

  unsettles : (what : Turn ShowEnd) (r : Place) (word : ℕ) → Answered (Show (Unsettled r word)) ≡ show_reply what → what ≡ turns.Answers (ends.Unsettled r word)
  unsettles turns.GoesOn r word is = absurd (cc)
  unsettles (turns.Answers end) r word is = let same : end ≡ ends.Unsettled r word = cc in ap (λ e. turns.Answers e) same

  unsettled : (k p : ℕ) (place : Place) (word : ℕ) → Happens events replies k (Step p) (Answered (Show (Unsettled place word))) → (start : ℕ) × IsCall events replies p start k × UnsettledFits run.moment start k place word
  unsettled k p place word happens = by (takes_at k (Step p) (Answered (Show (Unsettled place word))) happens)
    where
      lt : k < length events
      lt = there events k (Step p) happens.event_is

      by : StepsBy (at k) p (Answered (Show (Unsettled place word))) (at (k + 1)) → (start : ℕ) × IsCall events replies p start k × UnsettledFits run.moment start k place word
      by (edits h) = absurd (edit_unsettles (at k).sheet.layout.processes h.steps.edit.number place word (outcome_at h.steps.edit.stage) (replied (at k) (at (k + 1)) p (Answered (Show (Unsettled place word))) h))
      by (works h) = absurd (work_shows_not h.what (Show (Unsettled place word)) h.is)
      by (recoveries h) = absurd (recovery_reports_not h.what (Show (Unsettled place word)) h.is)
      by (migrations h) = absurd (migration_reports_not h.what (Show (Unsettled place word)) h.is)
      by (reports h) =
          let e : Ends k p (ends.Unsettled place word) = ends_of k p (Answered (Show (Unsettled place word))) (ends.Unsettled place word) h (unsettles h.what place word h.is) in
          let within : k ≤ length events = (let l = lt in omega arith) in
          let r = reporting k within p e.show e.was in
          (r.start, is_call k p r, unsettled_by k p within place word e r)

  pub shows_fit : ReportsFit run.moment events replies
  shows_fit = record { settled = settled; unsettled = unsettled }
