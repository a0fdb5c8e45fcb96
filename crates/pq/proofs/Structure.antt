-- Fresh words are a sound queue; an eviction, a stop and a crash keep that, and what was answered.
use Rattle.std.proofs.Common.{List, ℕ, suc, ◌≡◌, ◌+◌, ◌*◌, ◌<◌, ◌≤◌, ◌==◌, refl, sym, ap, subst, ◌∙◌, inl, inr, arith, le_refl, le_trans, [], eq-eqb, ne_eqb}
use mathlib.Core.Logic.{dite}
use native.Mathlib.Decide.{ℕ_discrete}
use Rattle.std.proofs.Math.Decide.{dec_le}
use Rattle.ds_words.specs.declared.access.Access.{Access}
use Rattle.ds_words.specs.Memory.{Performs, Memory, EvictsAt, StopsAt, Crashes}
use Rattle.pm_base.specs.Structures.{IsFirst, IsStructure, Goes, after_evict, after_stop, after_crash}
use Rattle.pm_base.proofs.ByKind.{kind_begins}
use Rattle.pq.specs.Places.{nodes}
use Rattle.pq.specs.History.{Log, History, Has, HasKept, no_log, no_history, Side, Words, side_of, words_of, Either}
use Rattle.pq.specs.Sound.{IsLog, IsWritten, IsSound}
use Rattle.pq.specs.Queue.{IsOut, IsTrueResponse, left_of, cut_to, crash_then, step_then, enqueues, dequeues, recoveries, queue}
use Rattle.pq.specs.declared.calls.Doing.{Doing}
use Rattle.pq.specs.declared.calls.Doing.TheVariants.{Stopped}
use Rattle.pq.specs.declared.calls.Response.{Response}
use Rattle.pq.specs.declared.calls.Response.TheVariants.{Enqueued, Got, Empty, WasEnqueued, NotEnqueued, NotDequeued}
use Rattle.pq.proofs.Numbers.{belongs_above}
use Rattle.pq.proofs.Logs.{extends_same}
use Rattle.pq.proofs.Sound.{sound_persisted}
use Rattle.pq.proofs.Later.{later_persisted, knows_stays, answered_stays}
use Rattle.pq.proofs.Moves.{kind_moves, Queue, Move, goes_on, evict_persists}
use Rattle.pq.proofs.Acts.{time_same, stayed, if_true, if_false}
use Rattle.pq.proofs.Enqueues.{enqueue_begins, enqueue_moves}
use Rattle.pq.proofs.Dequeues.{dequeue_begins, dequeue_moves}
use Rattle.pq.proofs.Recoveries.{recover_begins, recover_moves}

-- ---- a new queue

module _ (n : ℕ) (m : Memory ℕ) (f : IsFirst queue n m) where
  zero_now : (a kind : ℕ) → a < nodes n → kind < 8 → m.cached (8 * a + kind) ≡ 0
  zero_now a kind l k = f.cached (8 * a + kind) (omega (arith, l, k))

  zero_kept : (a kind : ℕ) → a < nodes n → kind < 8 → m.persisted (8 * a + kind) ≡ 0
  zero_kept a kind l k = f.persisted (8 * a + kind) (omega (arith, l, k))

  zero_either : (a kind u : ℕ) → a < nodes n → kind < 8 → Either (side_of m kind) a u → u ≡ 0
  zero_either a kind u l k e = elim e [
    | inl now ↦ sym now ∙ zero_now a kind l k
    | inr kept ↦ sym kept ∙ zero_kept a kind l k
  ]

  new_log : IsLog (nodes n) no_log
  new_log = record { first = refl; real = λ k up. omega arith; inverse = λ k up. omega (arith, up); marks = le_refl _; keeps = le_refl _; ahead = omega arith }

  new_written : (kind : ℕ) (place : ℕ → ℕ) → kind < 8 → IsWritten (nodes n) (side_of m kind) place no_log
  new_written kind place lk = record { cached = λ k low. omega (arith, low); persisted = λ k low. omega (arith, low); only = λ a u l e nz. absurd (nz (zero_either a kind u l lk e)) }

  pub new_sound : IsSound (nodes n) (words_of m) no_history
  new_sound = record {
    links = new_log;
    claims = new_log;
    next = new_written 0 _ (omega arith);
    taker = new_written 1 _ (omega arith);
    follows = le_refl _;
    linked = λ k low. absurd (omega (arith, low));
    linked_only = λ a u l e nz. absurd (nz (zero_either a 3 u l (omega arith) e));
    result = λ k low. absurd (omega (arith, low));
    result_kept = λ o l nz. absurd (nz (zero_kept o 4 l (omega arith)));
    result_only = λ o u l e nz. absurd (nz (zero_either o 4 u l (omega arith) e));
    tail = λ u e. (0, le_refl _, zero_either 0 6 u (omega arith) (omega arith) e);
    head = λ u e. (0, le_refl _, zero_either 0 7 u (omega arith) (omega arith) e);
    value = λ k low. absurd (omega (arith, low));
    announced = λ p u l e nz. absurd (nz (zero_either p 5 u l (omega arith) e));
    spent_links = λ p k low. absurd (omega (arith, low));
    spent_claims = λ p k low. absurd (omega (arith, low));
    spent_result = λ p o u l e nz b. absurd (nz (zero_either o 4 u l (omega arith) e));
  }

-- ---- an eviction

evict_goes : (n : ℕ) (w : Queue) (r : ℕ) (m2 : Memory ℕ) → queue.sound n w → EvictsAt r w.memory m2 → Goes queue n w (after_evict queue n w r m2)
evict_goes n w r m2 sound e =
    let pers = evict_persists r w.memory m2 e in
    let later : (p : ℕ) → _ = λ p. later_persisted 0 p (words_of w.memory) (words_of m2) w.hidden w.hidden pers (extends_same w.hidden.links 0) (extends_same w.hidden.claims 0) refl refl in
    record {
      sound = (
        sound_persisted (nodes n) (words_of w.memory) (words_of m2) w.hidden sound.0 pers,
        λ q lq. (knows_stays (nodes n) 0 (suc q) (words_of w.memory) w.hidden (words_of m2) w.hidden sound.0 (later (suc q)) q (λ z. omega (arith, z)) (λ j b z. (let a = belongs_above q j b in omega (arith, a, z))) (w.situation q) (sound.1 q lq).0, e.buffer q ∙ (sound.1 q lq).1, time_same (nodes n) (words_of w.memory) (words_of m2) w.hidden w.hidden (w.situation q) (pers.tail 0).0 (pers.head 0).0 refl (sound.1 q lq).2),
      );
      keeps = λ q t h. (h.0, answered_stays (nodes n) 0 (suc q) (words_of w.memory) w.hidden (words_of m2) w.hidden sound.0 (later (suc q)) q (w.situation q) (w.situation q) t (λ j b sp out. ((λ z. (let a = belongs_above q j b in omega (arith, a, z))), out)) h.1);
    }

-- ---- a stop

stop_goes : (n : ℕ) (w : Queue) (p : ℕ) (m2 : Memory ℕ) → queue.sound n w → p < n → StopsAt p w.memory m2 → Goes queue n w (after_stop queue n w p m2)
stop_goes n w p m2 sound low e =
    let d : Move n w p m2 Stopped [] w.hidden = stayed n w p m2 Stopped [] 0 sound.0
    (λ q j ne b z. (let a = belongs_above q j b in omega (arith, a, z)))
    (λ j b sp out. ((λ z. (let a = belongs_above p j b in omega (arith, a, z))), tt))
    e.cached e.persisted e.others e.mine tt (λ t none. absurd none) tt in
    let g = goes_on n w p m2 Stopped [] w.hidden sound low d in
    record { sound = g.sound; keeps = g.keeps }

-- ---- a crash

-- how much of a log is left
pub record Left (s : Side) (place : ℕ → ℕ) (log : Log) (k : ℕ) : Type 0 where
  pub least : log.kept ≤ k
  pub most : k ≤ log.count
  there : (j : ℕ) → j < log.count → k ≤ j → s.kept (place j) ≡ log.at (suc j) → ⊥
  here : (j : ℕ) → log.kept ≤ j → j < k → s.kept (place j) ≡ log.at (suc j)

pub is_left : (bound : ℕ) (s : Side) (place : ℕ → ℕ) (log : Log) → IsLog bound log → Left s place log (left_of s place log)
is_left bound s place log l =
    let a = l.ahead in
    let b = l.keeps in
    dite (ℕ_discrete (s.kept (place log.kept)) (log.at (suc log.kept)))
    (λ same. subst (Left s place log) (if_true (s.kept (place log.kept) == log.at (suc log.kept)) log.count log.kept (eq-eqb _ _ same)) (record {
      least = b;
      most = le_refl _;
      there = λ j low up e. omega (arith, low, up);
      here = λ j up low. let is : j ≡ log.kept = omega (arith, up, low, a) in subst (λ (z : ℕ). s.kept (place z) ≡ log.at (suc z)) (sym is) same;
    }))
    (λ ne. subst (Left s place log) (if_false (s.kept (place log.kept) == log.at (suc log.kept)) log.count log.kept (ne_eqb _ _ ne)) (record {
      least = le_refl _;
      most = b;
      there = λ j low up e. let is : j ≡ log.kept = omega (arith, up, low, a) in ne (subst (λ (z : ℕ). s.kept (place z) ≡ log.at (suc z)) is e);
      here = λ j up low. absurd (omega (arith, up, low));
    }))

module _ (bound : ℕ) (log : Log) (k : ℕ) (l : IsLog bound log) (least : log.kept ≤ k) (most : k ≤ log.count) where
  cut_log : IsLog bound (cut_to log k)
  cut_log =
      let a = l.marks in
      record { first = l.first; real = λ j up. l.real j (le_trans up most); inverse = λ j up. l.inverse j (le_trans up most); marks = le_trans a least; keeps = le_refl _; ahead = omega arith }

  pub cut_has : (j : ℕ) → Has (cut_to log k) j → Has log j
  cut_has j h = record { there = h.there; above = h.above; within = le_trans h.within most }

  cut_kept : (j : ℕ) → HasKept log j → HasKept (cut_to log k) j
  cut_kept j h = record { there = h.there; above = h.above; within = le_trans h.within least }

-- both sides are what was persisted
abbrev gone : Side → Side
gone s = record { now = s.kept; kept = s.kept }

gone_either : (s : Side) (a u : ℕ) → Either (gone s) a u → Either s a u
gone_either s a u e = elim e [
  | inl x ↦ inr x
  | inr x ↦ inr x
]

cut_written : (bound : ℕ) (s : Side) (place place2 : ℕ → ℕ) (log : Log) → IsLog bound log → IsWritten bound s place log → (k : ℕ) → Left s place log k → IsWritten bound (gone s) place (cut_to log k)
cut_written bound s place place2 log l h k left =
    let m1 = left.least in
    let m2 = left.most in
    let all : (j : ℕ) → j < k → s.kept (place j) ≡ log.at (suc j) = λ j low. dite (dec_le (suc j) log.kept)
    (λ under. h.persisted j (omega (arith, under)))
    (λ over. left.here j (omega (arith, over)) low) in record {
      cached = all;
      persisted = all;
      only = λ a u la e nz.
          let kept : s.kept a ≡ u = elim e [
            | inl x ↦ x
            | inr x ↦ x
          ] in
          let r = h.only a u la (inr kept) nz in
          let low = r.1 in
          dite (dec_le (suc r.0) k)
          (λ under. (r.0, omega (arith, under), r.2, r.3))
          (λ over. absurd (left.there r.0 low (omega (arith, over)) (ap s.kept (sym r.2) ∙ (kept ∙ r.3))));
    }

module _ (n : ℕ) (w : Queue) (m2 : Memory ℕ) (sound : queue.sound n w) (e : Crashes w.memory m2) where
  abbrev v : Words
  v = words_of w.memory

  abbrev h : History
  h = w.hidden

  abbrev g : History
  g = crash_then h v

  abbrev gone_words : Words
  gone_words = record { next = gone v.next; taker = gone v.taker; value = gone v.value; linked = gone v.linked; result = gone v.result; announce = gone v.announce; tail = gone v.tail; head = gone v.head }

  words_are : words_of m2 ≡ gone_words
  words_are = ap (λ (f : (ℕ → ℕ) × (ℕ → ℕ)). words_of (record { cached = f.0; persisted = f.1; buffer = w.memory.buffer })) (λ i. ((λ r. e.cached r i), (λ r. e.persisted r i)))

  links_left : Left v.next h.links.at h.links (left_of v.next h.links.at h.links)
  links_left = is_left (nodes n) v.next h.links.at h.links sound.0.links

  claims_left : Left v.taker (λ k. h.links.at (suc k)) h.claims (left_of v.taker (λ k. h.links.at (suc k)) h.claims)
  claims_left = is_left (nodes n) v.taker (λ k. h.links.at (suc k)) h.claims sound.0.claims

  gone_sound : IsSound (nodes n) gone_words g
  gone_sound =
      let s = sound.0 in
      let l1 = links_left.least in
      let l2 = links_left.most in
      let c1 = claims_left.least in
      let c2 = claims_left.most in
      let f = s.follows in record {
        links = cut_log (nodes n) h.links _ s.links l1 l2;
        claims = cut_log (nodes n) h.claims _ s.claims c1 c2;
        next = cut_written (nodes n) v.next h.links.at h.links.at h.links s.links s.next _ links_left;
        taker = cut_written (nodes n) v.taker (λ k. h.links.at (suc k)) (λ k. h.links.at (suc k)) h.claims s.claims s.taker _ claims_left;
        follows = le_trans c2 (le_trans f l1);
        linked = λ k low. let b = s.linked k low in (b.1, b.1);
        linked_only = λ a u la z nz. let r = s.linked_only a u la (gone_either v.linked a u z) nz in (r.0, le_trans r.1 l1, r.2);
        result = λ k low. let b = s.result k low in (b.1, b.1);
        result_kept = λ o lo nz. refl;
        result_only = λ o u lo z nz. elim (s.result_only o u lo (gone_either v.result o u z) nz) [
          | inl r ↦ inl (r.0, (λ has. r.1 (cut_has (nodes n) h.claims _ s.claims c1 c2 o has)), r.2)
          | inr r ↦ inr (r.0, le_trans r.1 c1, r.2, r.3)
        ];
        tail = λ u z. s.tail u (gone_either v.tail 0 u z);
        head = λ u z. s.head u (gone_either v.head 0 u z);
        value = λ k low. let b = s.value k (le_trans low l2) in (b.1, b.1);
        announced = λ p u lp z nz. s.announced p u lp (gone_either v.announce p u z) nz;
        spent_links = λ p k low b. let x = s.spent_links p k (le_trans low l2) b in (x.1, x.1);
        spent_claims = λ p k low b. let x = s.spent_claims p k (le_trans low c2) b in (x.1, x.1);
        spent_result = λ p o u lo z nz b. let x = s.spent_result p o u lo (gone_either v.result o u z) nz b in (x.1, x.1);
      }

  out_left : (log : Log) (k : ℕ) (most : k ≤ log.count) → log.kept ≤ k → IsLog (nodes n) log → (q j : ℕ) (now : Doing) → IsOut v log q j now → IsOut gone_words (cut_to log k) q j Stopped
  out_left log k most least l q j now o = record { none = λ has. o.none (cut_has (nodes n) log k l least most j has); mine = o.mine; spent = (o.spent.1, o.spent.1); leaves = tt }

  answered_left : (q : ℕ) (now : Doing) (t : Response) → IsTrueResponse v h q now t → IsTrueResponse gone_words g q Stopped t
  answered_left q now (Enqueued j x) k = (cut_kept (nodes n) h.links _ sound.0.links links_left.least links_left.most j k.0, k.1)
  answered_left q now (Got j x) k = (cut_kept (nodes n) h.claims _ sound.0.claims claims_left.least claims_left.most j k.0, k.1)
  answered_left q now (Empty j) k = (out_left h.claims _ claims_left.most claims_left.least sound.0.claims q j now k.0, k.1, (k.2.1, k.2.1))
  answered_left q now (WasEnqueued j) k = cut_kept (nodes n) h.links _ sound.0.links links_left.least links_left.most j k
  answered_left q now (NotEnqueued j) k = out_left h.links _ links_left.most links_left.least sound.0.links q j now k
  answered_left q now (NotDequeued j) k = (out_left h.claims _ claims_left.most claims_left.least sound.0.claims q j now k.0, (k.1.1, k.1.1))

  pub crash_goes : Goes queue n w (after_crash queue n w m2)
  crash_goes = record {
    sound = (subst (λ (z : Words). IsSound (nodes n) z g) (sym words_are) gone_sound, λ q lq. (tt, e.buffer q, tt));
    keeps = λ q t k. (k.0, subst (λ (z : Words). IsTrueResponse z g q Stopped t) (sym words_are) (answered_left q (w.situation q) t k.1));
  }

-- each step of the queue is a move
pub queue_moves : (n : ℕ) (w : Queue) (p : ℕ) (access : Access ℕ) (answer : ℕ) (now : Doing) (says : List Response) (m2 : Memory ℕ) → queue.sound n w → p < n → queue.steps n p (w.situation p) access answer now says → Performs (queue.class_in n) access p w.memory m2 answer
    → Move n w p m2 now says (step_then w.hidden (words_of w.memory) (w.situation p))
queue_moves n w p access answer now says m2 sound low does perf = elim does [
  | inl k ↦ kind_moves n enqueues (enqueue_moves n) w p access answer now says m2 sound low k perf
  | inr r ↦ elim r [
    | inl k ↦ kind_moves n dequeues (dequeue_moves n) w p access answer now says m2 sound low k perf
    | inr k ↦ kind_moves n recoveries (recover_moves n) w p access answer now says m2 sound low k perf
  ]
]

pub queue_holds : (n : ℕ) → IsStructure queue n
queue_holds n = record {
  opens = λ m f. (new_sound n m f, λ p low. ((f.cached (8 * p + 5) (omega (arith, low)), f.persisted (8 * p + 5) (omega (arith, low))), f.buffer p, tt));
  begins = λ w p now sound low may. elim may [
    | inl k ↦ kind_begins queue n enqueues (enqueue_begins n) w p now sound low k
    | inr r ↦ elim r [
      | inl k ↦ kind_begins queue n dequeues (dequeue_begins n) w p now sound low k
      | inr k ↦ kind_begins queue n recoveries (recover_begins n) w p now sound low k
    ]
  ];
  steps = λ w p access answer now says m2 sound low does perf. goes_on n w p m2 now says (step_then w.hidden (words_of w.memory) (w.situation p)) sound low (queue_moves n w p access answer now says m2 sound low does perf);
  evicts = λ w r m2 sound low e. evict_goes n w r m2 sound e;
  stops = λ w p m2 sound low e. stop_goes n w p m2 sound low e;
  crashes = λ w m2 sound e. crash_goes n w m2 sound e;
}
