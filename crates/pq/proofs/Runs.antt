-- What is so of every run of a queue.
use Rattle.std.proofs.Common.{ℕ, zero, suc, ◌++◌, ◌≡◌, ◌⊎◌, ◌≤◌, ◌==◌, refl, sym, ap, subst, ◌∙◌, inl, inr, arith, le_refl, le_trans, List, [], ◌∷◌, Bool, if◌then◌else◌, eq-eqb, ne_eqb}
use Rattle.std.proofs.lemmas.Bool.{cases_Bool}
use Rattle.std.proofs.lemmas.List.{append-nil, append_assoc}
use mathlib.Core.Logic.{dite}
use native.Mathlib.Decide.{ℕ_discrete}
use Rattle.pm_base.specs.Structures.{In}
use Rattle.pm_base.specs.Runs.{Happened, Run, IsNew, Moves}
use Rattle.pm_base.specs.declared.history.Event.{Event}
use Rattle.pm_base.specs.declared.history.Event.TheVariants.{Begin, Step, Evict, Stop, Crash}
use Rattle.pm_base.proofs.Running.{runs, leads}
use Rattle.pq.specs.Places.{Belongs, nodes}
use Rattle.pq.specs.History.{Log, History, Has, HasNot, HasKept, linking, emptying, claiming, Words, words_of}
use Rattle.pq.specs.Sound.{IsLog, IsSound}
use Rattle.pq.specs.Knows.{KnowsDequeue, Knows}
use Rattle.pq.specs.Queue.{enqueue_then, dequeue_then, recover_then, step_then, history_then, queue}
use Rattle.pq.specs.Runs.{IsAt, IsNotIn, IsTrueOf, IsOrder, IsHeld, RunsTellTheTruth, PlacesStay, EmptiesAt, WasEmpty, EmptyWasSo, NoneIsTorn, AnswersAgree}
use Rattle.pq.specs.declared.places.TheConstants.{EMPTY}
use Rattle.pq.specs.declared.enqueue.EnqueueStage.{EnqueueStage}
use Rattle.pq.specs.declared.enqueue.EnqueueStage.TheVariants as enqueue
use Rattle.pq.specs.declared.dequeue.Dequeue.{Dequeue}
use Rattle.pq.specs.declared.dequeue.DequeueStage.{DequeueStage}
use Rattle.pq.specs.declared.dequeue.DequeueStage.TheVariants as dequeue
use Rattle.pq.specs.declared.recover.RecoverStage.{RecoverStage}
use Rattle.pq.specs.declared.recover.RecoverStage.TheVariants as recover
use Rattle.pq.specs.declared.calls.Doing.{Doing}
use Rattle.pq.specs.declared.calls.Doing.TheVariants.{Idle, Enqueueing, Dequeueing, Recovering, Stopped, Torn}
use Rattle.pq.specs.declared.calls.Response.{Response}
use Rattle.pq.specs.declared.calls.Response.TheVariants.{Enqueued, Got, Empty, WasEnqueued, NotEnqueued, NotDequeued}
use Rattle.pq.proofs.Numbers.{one_process}
use Rattle.pq.proofs.Logs.{Extends, one_place, kept_has}
use Rattle.pq.proofs.Sound.{is_last}
use Rattle.pq.proofs.Moves.{Queue}
use Rattle.pq.proofs.Structure.{is_left, queue_moves, queue_holds}

-- ---- what was answered

at_of : (most : ℕ) (log : Log) (i : ℕ) → IsLog most log → HasKept log i → IsAt log (log.pos i) i
at_of most log i l h = record { first = h.above; last = le_trans h.within l.keeps; is = h.there }

-- an operation stands in the log where it has a place
pub has_of : (most : ℕ) (log : Log) (k i : ℕ) → IsLog most log → IsAt log k i → Has log i × (log.pos i ≡ k)
has_of most log k i l a =
    let pos : log.pos i ≡ k = ap log.pos (sym a.is) ∙ l.inverse k a.last in
    let f = a.first in
    let g = a.last in
    (record { there = ap log.at pos ∙ a.is; above = omega (arith, pos, f); within = omega (arith, pos, g) }, pos)

pub not_in : (most : ℕ) (log : Log) (i : ℕ) → IsLog most log → HasNot log i → IsNotIn log i
not_in most log i l none k a = none (has_of most log k i l a).0

is_true : (n : ℕ) (w : Queue) (p : ℕ) (t : Response) → queue.sound n w → queue.is_right n w p t → IsTrueOf w.hidden t
is_true n w p (Enqueued i x) s h = (w.hidden.links.pos i, at_of (nodes n) w.hidden.links i s.0.links h.1.0, h.1.1)
is_true n w p (Got i x) s h = (w.hidden.claims.pos i, at_of (nodes n) w.hidden.claims i s.0.claims h.1.0, (let a = h.1.0.within in le_trans a (le_trans s.0.claims.keeps (le_trans s.0.follows s.0.links.keeps))), h.1.1)
is_true n w p (Empty i) s h = (not_in (nodes n) w.hidden.claims i s.0.claims h.1.0.none, h.1.1)
is_true n w p (WasEnqueued i) s h = (w.hidden.links.pos i, at_of (nodes n) w.hidden.links i s.0.links h.1)
is_true n w p (NotEnqueued i) s h = not_in (nodes n) w.hidden.links i s.0.links h.1.none
is_true n w p (NotDequeued i) s h = not_in (nodes n) w.hidden.claims i s.0.claims h.1.0.none

once : (most : ℕ) (log : Log) (j k i : ℕ) → IsLog most log → IsAt log j i → IsAt log k i → j ≡ k
once most log j k i l a b = one_place most log j k l a.last b.last (a.is ∙ sym b.is)

is_order : (n : ℕ) (w : Queue) → queue.sound n w → IsOrder w.hidden
is_order n w s = record {
  enqueued_once = λ j k i a b. once (nodes n) w.hidden.links j k i s.0.links a b;
  dequeued_once = λ j k i a b. once (nodes n) w.hidden.claims j k i s.0.claims a b;
  fewer = le_trans s.0.follows s.0.links.keeps;
}

is_held : (n : ℕ) (w : Queue) → queue.sound n w → IsHeld w
is_held n w s =
    let h : History = w.hidden in
    let v : Words = words_of w.memory in record {
      next = s.0.next.cached;
      end = dite (ℕ_discrete (v.next.now (h.links.at h.links.count)) 0)
          (λ z. z)
          (λ nz.
          let r = s.0.next.only (h.links.at h.links.count) _ (s.0.links.real h.links.count (le_refl _)) (inl refl) nz in
          let low = r.1 in
          let same = one_place (nodes n) h.links h.links.count r.0 s.0.links (le_refl _) (omega (arith, low)) r.2 in
          absurd (omega (arith, low, same)));
      value = λ k low. (s.0.value k low).0;
      taker = s.0.taker.cached;
    }

pub runs_tell : (n : ℕ) → RunsTellTheTruth n
runs_tell n first last hs new run =
    let r = runs queue n (queue_holds n) first last hs new run in
    (is_order n last r.sound, is_held n last r.sound, (λ p t returned. is_true n last p t r.sound (r.responses p t returned)))

-- ---- places

-- what is persisted of a log stays
record Stays (log new : Log) : Type 0 where
  at : (k : ℕ) → k ≤ log.kept → new.at k ≡ log.at k
  kept : log.kept ≤ new.kept

stays_same : (log : Log) → Stays log log
stays_same log = record { at = λ k low. refl; kept = le_refl _ }

stays_both : (a b c : Log) → Stays a b → Stays b c → Stays a c
stays_both a b c x y = record { at = λ k low. y.at k (le_trans low x.kept) ∙ x.at k low; kept = le_trans x.kept y.kept }

stays_grown : (most : ℕ) (log new : Log) (i : ℕ) → IsLog most log → Extends log new i → Stays log new
stays_grown most log new i l x = record { at = λ k low. x.at k (le_trans low l.keeps); kept = x.kept }

record BothStay (h g : History) : Type 0 where
  links : Stays h.links g.links
  claims : Stays h.claims g.claims

both_same : (h : History) → BothStay h h
both_same h = record { links = stays_same h.links; claims = stays_same h.claims }

event_stays : (n : ℕ) (w w2 : Queue) (event : Event Doing) (says : List Response) → queue.sound n w → Moves queue n w event says w2 → BothStay w.hidden w2.hidden
event_stays n w w2 (Begin p call) says s m = subst (λ (z : Queue). BothStay w.hidden z.hidden) (sym m.2) (both_same w.hidden)
event_stays n w w2 (Step p) says s m =
    let d = queue_moves n w p m.access m.answer m.now says w2.memory s m.low m.takes m.performs in
    subst (λ (z : Queue). BothStay w.hidden z.hidden) (sym m.lands) (record {
      links = stays_grown (nodes n) w.hidden.links _ d.operation s.0.links d.later.links;
      claims = stays_grown (nodes n) w.hidden.claims _ d.operation s.0.claims d.later.claims;
    })
event_stays n w w2 (Evict r) says s m = subst (λ (z : Queue). BothStay w.hidden z.hidden) (sym m.2) (both_same w.hidden)
event_stays n w w2 (Stop p) says s m = subst (λ (z : Queue). BothStay w.hidden z.hidden) (sym m.2) (both_same w.hidden)
event_stays n w w2 Crash says s m =
    let v : Words = words_of w.memory in
    let h : History = w.hidden in
    subst (λ (z : Queue). BothStay w.hidden z.hidden) (sym m.1) (record {
      links = record { at = λ k low. refl; kept = (is_left (nodes n) v.next h.links.at h.links s.0.links).least };
      claims = record { at = λ k low. refl; kept = (is_left (nodes n) v.taker (λ k. h.links.at (suc k)) h.claims s.0.claims).least };
    })

run_stays : (n : ℕ) (first last : Queue) (hs : List (Happened queue n)) → queue.sound n first → Run queue n first hs last → queue.sound n last × BothStay first.hidden last.hidden
run_stays n first last [] s run = subst (λ (z : Queue). queue.sound n z × BothStay first.hidden z.hidden) (sym run) (s, both_same first.hidden)
run_stays n first last (h ∷ hs) s run =
    let r = run_stays n first h.before hs s run.1 in
    let e = event_stays n h.before last h.entry.event h.entry.responses r.0 run.0 in
    let l = leads queue n (queue_holds n) h.before h.entry.event h.entry.responses last r.0 run.0 in
    (l.sound, record { links = stays_both _ _ _ r.1.links e.links; claims = stays_both _ _ _ r.1.claims e.claims })

at_stays : (most : ℕ) (log new : Log) (k i : ℕ) → IsLog most log → IsLog most new → Stays log new → HasKept log i → IsAt log k i → IsAt new k i
at_stays most log new k i l l2 s h a =
    let pos = (has_of most log k i l a).1 in
    let within = h.within in
    let low : k ≤ log.kept = omega (arith, pos, within) in
    record { first = a.first; last = le_trans low (le_trans s.kept l2.keeps); is = s.at k low ∙ a.is }

pub places_stay : (n : ℕ) → PlacesStay n
places_stay n first mid last before after new run1 run2 =
    let r = runs queue n (queue_holds n) first mid before new run1 in
    let s = run_stays n mid last after r.sound run2 in (
      (λ p k i x returned a. at_stays (nodes n) mid.hidden.links last.hidden.links k i r.sound.0.links s.0.0.links s.1.links (r.responses p (Enqueued i x) returned).1.0 a),
      (λ p k i x returned a. at_stays (nodes n) mid.hidden.claims last.hidden.claims k i r.sound.0.claims s.0.0.claims s.1.claims (r.responses p (Got i x) returned).1.0 a),
    )

-- ---- the empty queue

-- what a step of the process does to the dequeues that found the queue empty
abbrev Adds : Words → History → Doing → ℕ → Type 0
Adds v h now i = In h.empty i ⊎ ((c : Dequeue) × (now ≡ Dequeueing c) × (c.operation ≡ i) × (h.claims.count ≡ h.links.count) × (step_then h v now ≡ emptying h i))

same_either : (b : Bool) (g h : History) (i : ℕ) → In (if b then g else h).empty i → (In g.empty i → In h.empty i) → In h.empty i
same_either b g h i t f = elim (cases_Bool b) [
  | inl e ↦ f (subst (λ (z : Bool). In (if z then g else h).empty i) e t)
  | inr e ↦ subst (λ (z : Bool). In (if z then g else h).empty i) e t
]

enqueue_adds : (v : Words) (h : History) (j x : ℕ) (i : ℕ) (s : EnqueueStage) → In (enqueue_then h v j x s).empty i → In h.empty i
enqueue_adds v h j x i enqueue.StoreValue t = t
enqueue_adds v h j x i enqueue.FlushValue t = t
enqueue_adds v h j x i enqueue.BackValue t = t
enqueue_adds v h j x i enqueue.StoreAnnounce t = t
enqueue_adds v h j x i enqueue.FlushAnnounce t = t
enqueue_adds v h j x i enqueue.BackAnnounce t = t
enqueue_adds v h j x i enqueue.LoadTail t = t
enqueue_adds v h j x i (enqueue.LoadNext a) t = t
enqueue_adds v h j x i (enqueue.FlushNext a y) t = t
enqueue_adds v h j x i (enqueue.BackNext a y) t = t
enqueue_adds v h j x i (enqueue.StoreLinked a y) t = t
enqueue_adds v h j x i (enqueue.FlushLinked a y) t = t
enqueue_adds v h j x i (enqueue.BackLinked a y) t = t
enqueue_adds v h j x i (enqueue.SwapTail a y) t = t
enqueue_adds v h j x i enqueue.Done t = t
enqueue_adds v h j x i enqueue.Torn t = t
enqueue_adds v h j x i (enqueue.SwapNext a) t = same_either (v.next.now a == 0) (linking h j x) h i t (λ z. z)

recover_adds : (h : History) (i : ℕ) (s : RecoverStage) → In (recover_then h s).empty i → In h.empty i
recover_adds h i recover.LoadAnnounce t = t
recover_adds h i recover.FlushAnnounce t = t
recover_adds h i recover.BackAnnounce t = t
recover_adds h i recover.LoadTail t = t
recover_adds h i (recover.FindNode a) t = t
recover_adds h i (recover.FlushNext a) t = t
recover_adds h i (recover.BackNext a) t = t
recover_adds h i recover.LoadLinked t = t
recover_adds h i recover.LoadHead t = t
recover_adds h i (recover.FindNext a) t = t
recover_adds h i (recover.LoadTaker a y) t = t
recover_adds h i (recover.FlushTaker a y) t = t
recover_adds h i (recover.BackTaker a y) t = t
recover_adds h i recover.LoadResult t = t
recover_adds h i recover.FlushEmpty t = t
recover_adds h i recover.BackEmpty t = t
recover_adds h i (recover.LoadValue y) t = t
recover_adds h i (recover.Done f) t = t
recover_adds h i recover.Torn t = t

dequeue_adds : (n : ℕ) (v : Words) (h : History) (p : ℕ) (c : Dequeue) (i : ℕ) (s : DequeueStage) → IsSound (nodes n) v h → KnowsDequeue v h p c.operation s → In (dequeue_then h v c.operation s).empty i → In h.empty i ⊎ ((c.operation ≡ i) × (h.claims.count ≡ h.links.count) × (dequeue_then h v c.operation s ≡ emptying h c.operation))
dequeue_adds n v h p c i dequeue.StoreAnnounce sound k t = inl t
dequeue_adds n v h p c i dequeue.FlushAnnounce sound k t = inl t
dequeue_adds n v h p c i dequeue.BackAnnounce sound k t = inl t
dequeue_adds n v h p c i dequeue.LoadHead sound k t = inl t
dequeue_adds n v h p c i dequeue.StoreEmpty sound k t = inl t
dequeue_adds n v h p c i dequeue.FlushEmpty sound k t = inl t
dequeue_adds n v h p c i dequeue.BackEmpty sound k t = inl t
dequeue_adds n v h p c i (dequeue.FlushNext a y) sound k t = inl t
dequeue_adds n v h p c i (dequeue.BackNext a y) sound k t = inl t
dequeue_adds n v h p c i (dequeue.FlushTaker a y d) sound k t = inl t
dequeue_adds n v h p c i (dequeue.BackTaker a y d) sound k t = inl t
dequeue_adds n v h p c i (dequeue.StoreResult a y d) sound k t = inl t
dequeue_adds n v h p c i (dequeue.FlushResult a y d) sound k t = inl t
dequeue_adds n v h p c i (dequeue.BackResult a y d) sound k t = inl t
dequeue_adds n v h p c i (dequeue.SwapHead a y d) sound k t = inl t
dequeue_adds n v h p c i (dequeue.LoadValue y) sound k t = inl t
dequeue_adds n v h p c i dequeue.DoneEmpty sound k t = inl t
dequeue_adds n v h p c i (dequeue.Done x) sound k t = inl t
dequeue_adds n v h p c i dequeue.Torn sound k t = inl t
dequeue_adds n v h p c i (dequeue.SwapTaker a y) sound k t = inl (same_either (v.taker.now y == 0) (claiming h c.operation) h i t (λ z. z))
dequeue_adds n v h p c i (dequeue.LoadNext a) sound k t = dite (ℕ_discrete (v.next.now a) 0)
    (λ z.
    let u : In (c.operation ∷ h.empty) i = subst (λ (b : Bool). In (if b then emptying h c.operation else h).empty i) (eq-eqb (v.next.now a) 0 z) t in
    let c1 = sound.claims.marks in
    let c2 = sound.claims.keeps in
    let c3 = sound.follows in
    let c4 = sound.links.keeps in
    let last = is_last (nodes n) v h a h.claims.marked sound (omega (arith, c1, c2, c3, c4)) k.2 z in
    let up = k.2.within in
    let even : h.claims.count ≡ h.links.count = omega (arith, last, up, c1, c2, c3, c4) in
    elim u [
      | inl e ↦ inr (e, even, ap (λ (b : Bool). if b then emptying h c.operation else h) (eq-eqb (v.next.now a) 0 z))
      | inr r ↦ inl r
    ])
    (λ nz. inl (subst (λ (b : Bool). In (if b then emptying h c.operation else h).empty i) (ne_eqb (v.next.now a) 0 nz) t))

step_adds : (n : ℕ) (v : Words) (h : History) (p : ℕ) (now : Doing) (i : ℕ) → IsSound (nodes n) v h → Knows v h p now → In (step_then h v now).empty i → Adds v h now i
step_adds n v h p (Idle u) i sound k t = inl t
step_adds n v h p (Enqueueing c) i sound k t = inl (enqueue_adds v h c.operation c.value i c.stage t)
step_adds n v h p (Dequeueing c) i sound k t = elim (dequeue_adds n v h p c i c.stage sound k.2 t) [
  | inl old ↦ inl old
  | inr new ↦ inr (c, refl, new.0, new.1, new.2 ∙ ap (emptying h) new.0)
]
step_adds n v h p (Recovering c) i sound k t = inl (recover_adds h i c.stage t)
step_adds n v h p Stopped i sound k t = inl t
step_adds n v h p Torn i sound k t = inl t

-- the operation of a dequeue is one of its process
pub own_operation : (v : Words) (h : History) (q : ℕ) (now : Doing) (c : Dequeue) → Knows v h q now → now ≡ Dequeueing c → Belongs q c.operation
own_operation v h q now c k is =
    let k2 : Knows v h q (Dequeueing c) = subst (Knows v h q) is k in
    k2.1

event_adds : (n : ℕ) (w w2 : Queue) (event : Event Doing) (says : List Response) (p i : ℕ) → queue.sound n w → Moves queue n w event says w2 → Belongs p i → In w2.hidden.empty i → In w.hidden.empty i ⊎ EmptiesAt n w event p i
event_adds n w w2 (Begin q call) says p i s m mine t = inl (subst (λ (z : Queue). In z.hidden.empty i) m.2 t)
event_adds n w w2 (Step q) says p i s m mine t = elim (step_adds n (words_of w.memory) w.hidden q (w.situation q) i s.0 (s.1 q m.low).0 (subst (λ (z : Queue). In z.hidden.empty i) m.lands t)) [
  | inl old ↦ inl old
  | inr new ↦ (
      let owns : Belongs q new.0.operation = own_operation (words_of w.memory) w.hidden q (w.situation q) new.0 (s.1 q m.low).0 new.1 in
      let same : q ≡ p = one_process q p i (subst (Belongs q) new.2 owns) mine in
      inr (record {
        steps = ap (λ (z : ℕ). (let e : Event Doing = Step z in e)) same;
        call = new.0;
        runs = ap w.situation (sym same) ∙ new.1;
        is = new.2;
        all = new.3;
        effect = ap (λ (z : ℕ). history_then w (let e : Event Doing = Step z in e)) (sym same) ∙ new.4;
      }))
]
event_adds n w w2 (Evict r) says p i s m mine t = inl (subst (λ (z : Queue). In z.hidden.empty i) m.2 t)
event_adds n w w2 (Stop q) says p i s m mine t = inl (subst (λ (z : Queue). In z.hidden.empty i) m.2 t)
event_adds n w w2 Crash says p i s m mine t = inl (subst (λ (z : Queue). In z.hidden.empty i) m.1 t)

run_adds : (n : ℕ) (first last : Queue) (hs : List (Happened queue n)) (p i : ℕ) → IsNew queue n first → Run queue n first hs last → Belongs p i → In last.hidden.empty i → WasEmpty n p i hs
run_adds n first last [] p i new run mine t = subst (λ (z : Queue). In z.hidden.empty i) (run ∙ new.is) t
run_adds n first last (h ∷ hs) p i new run mine t =
    let r = runs queue n (queue_holds n) first h.before hs new run.1 in
    elim (event_adds n h.before last h.entry.event h.entry.responses p i r.sound run.0 mine t) [
      | inl old ↦ inr (run_adds n first h.before hs p i new run.1 mine old)
      | inr now ↦ inl now
    ]

pub empty_was_so : (n : ℕ) → EmptyWasSo n
empty_was_so n first last hs p i new run returned =
    let r = runs queue n (queue_holds n) first last hs new run in
    let h = r.responses p (Empty i) returned in
    run_adds n first last hs p i new run h.1.0.mine (is_true n last p (Empty i) r.sound h).1

-- ---- no call is torn

pub none_is_torn : (n : ℕ) → NoneIsTorn n
none_is_torn n first last hs p low new run is =
    let r = runs queue n (queue_holds n) first last hs new run in
    subst (Knows (words_of last.memory) last.hidden p) is (r.sound.1 p low).0

-- ---- answers agree

pub answers_agree : (n : ℕ) → AnswersAgree n
answers_agree n first last hs p i new run =
    let r = runs queue n (queue_holds n) first last hs new run in
    let l : IsLog (nodes n) last.hidden.links = r.sound.0.links in
    let c : IsLog (nodes n) last.hidden.claims = r.sound.0.claims in record {
      one_value = λ x y a b. sym (r.responses p (Got i x) a).1.1 ∙ (r.responses p (Got i y) b).1.1;
      one_input = λ x y a b. sym (r.responses p (Enqueued i x) a).1.1 ∙ (r.responses p (Enqueued i y) b).1.1;
      got_or_empty = λ x a b. (r.responses p (Empty i) b).1.0.none (kept_has (nodes n) last.hidden.claims i c (r.responses p (Got i x) a).1.0);
      got_or_not = λ x a b. (r.responses p (NotDequeued i) b).1.0.none (kept_has (nodes n) last.hidden.claims i c (r.responses p (Got i x) a).1.0);
      empty_or_not = λ a b. let e : EMPTY ≡ 0 = sym (r.responses p (Empty i) a).1.2.0 ∙ (r.responses p (NotDequeued i) b).1.1.0 in omega (arith, e);
      enqueued_or_not = λ x a b. (r.responses p (NotEnqueued i) b).1.none (kept_has (nodes n) last.hidden.links i l (r.responses p (Enqueued i x) a).1.0);
      was_or_not = λ a b. (r.responses p (NotEnqueued i) b).1.none (kept_has (nodes n) last.hidden.links i l (r.responses p (WasEnqueued i) a).1);
    }
