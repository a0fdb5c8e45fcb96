-- What is so of every run of a queue.
use Rattle.std.specs.Prelude.{ℕ, suc, ◌≡◌, ◌≢◌, ◌⊎◌, ◌*◌, ◌/◌, ◌%◌, ◌<◌, ◌≤◌, List, [], ◌∷◌}
use Rattle.pm_base.specs.Structures.{In, World}
use Rattle.pm_base.specs.Runs.{Happened, Run, IsNew, deeds_by, history_of}
use Rattle.pm_base.specs.declared.history.Deed.TheVariants as deed
use Rattle.pq.specs.Places.{Belongs, next_at, taker_at, value_at}
use Rattle.pq.specs.History.{Log, History, emptying}
use Rattle.pq.specs.Queue.{history_then, queue}
use Rattle.pm_base.specs.declared.history.Event.{Event}
use Rattle.pm_base.specs.declared.history.Event.TheVariants.{Step}
use Rattle.pq.specs.declared.dequeue.Dequeue.{Dequeue}
use Rattle.pq.specs.declared.enqueue.Enqueue.{Enqueue}
use Rattle.pq.specs.declared.recover.Recover.{Recover}
use Rattle.pq.specs.declared.calls.Doing.{Doing}
use Rattle.pq.specs.declared.calls.Doing.TheVariants.{Idle, Enqueueing, Dequeueing, Recovering, Torn}
use Rattle.pq.specs.declared.calls.Response.{Response}
use Rattle.pq.specs.declared.calls.Response.TheVariants.{Enqueued, Got, Empty, WasEnqueued, NotEnqueued, NotDequeued}

-- the operation is the k-th of the log, counted from 1
pub record IsAt (log : Log) (k i : ℕ) : Type 0 where
  pub first : 0 < k
  pub last : k ≤ log.count
  pub is : log.at k ≡ i

-- the operation has no place in the log
abbrev pub IsNotIn : Log → ℕ → Type 0
IsNotIn log i = (k : ℕ) → IsAt log k i → ⊥

-- what a process was answered is true of the history: an enqueue is one of those that took effect, with its value; the k-th
-- dequeue took the value of the k-th enqueue; a dequeue that found the queue empty took nothing; and recovery says the
-- same of each
abbrev pub IsTrueOf : History → Response → Type 0
IsTrueOf h (Enqueued i x) = (k : ℕ) × IsAt h.links k i × (h.value i ≡ x)
IsTrueOf h (Got i x) = (k : ℕ) × IsAt h.claims k i × (k ≤ h.links.count) × (h.value (h.links.at k) ≡ x)
IsTrueOf h (Empty i) = IsNotIn h.claims i × In h.empty i
IsTrueOf h (WasEnqueued i) = (k : ℕ) × IsAt h.links k i
IsTrueOf h (NotEnqueued i) = IsNotIn h.links i
IsTrueOf h (NotDequeued i) = IsNotIn h.claims i

-- no operation takes effect twice, and no more is taken than was put in: the k-th dequeue takes the value of the k-th
-- enqueue, by what is true of its answer
pub record IsOrder (h : History) : Type 0 where
  pub enqueued_once : (j k i : ℕ) → IsAt h.links j i → IsAt h.links k i → j ≡ k
  pub dequeued_once : (j k i : ℕ) → IsAt h.claims j i → IsAt h.claims k i → j ≡ k
  pub fewer : h.claims.count ≤ h.links.count

-- the words hold the queue of the history: a walk from the sentinel meets the enqueues in order, each with its value,
-- and the dequeues that took them
pub record IsHeld (w : World Doing History) : Type 0 where
  pub next : (k : ℕ) → k < w.hidden.links.count → w.memory.cached (next_at (w.hidden.links.at k)) ≡ w.hidden.links.at (suc k)
  pub end : w.memory.cached (next_at (w.hidden.links.at w.hidden.links.count)) ≡ 0
  pub value : (k : ℕ) → k < w.hidden.links.count → w.memory.cached (value_at (w.hidden.links.at (suc k))) ≡ w.hidden.value (w.hidden.links.at (suc k))
  pub taker : (k : ℕ) → k < w.hidden.claims.count → w.memory.cached (taker_at (w.hidden.links.at (suc k))) ≡ w.hidden.claims.at (suc k)

module _ (n : ℕ) where
  -- the process was answered this on the run
  abbrev pub WasAnswered : List (Happened queue n) → ℕ → Response → Type 0
  WasAnswered hs p t = In (deeds_by p (history_of queue n hs)) (deed.Response t)

  -- whatever happens to a new queue of n processes: it is a queue, and what was answered is true of it from then on
  abbrev pub RunsTellTheTruth : Type 0
  RunsTellTheTruth = (first last : World Doing History) (hs : List (Happened queue n)) → IsNew queue n first → Run queue n first hs last
      → IsOrder last.hidden × IsHeld last × ((p : ℕ) (t : Response) → WasAnswered hs p t → IsTrueOf last.hidden t)

  -- an operation whose effect was answered keeps its place, whatever happens then
  abbrev pub PlacesStay : Type 0
  PlacesStay = (first mid last : World Doing History) (before after : List (Happened queue n)) → IsNew queue n first → Run queue n first before mid → Run queue n mid after last
      → ((p k i x : ℕ) → WasAnswered before p (Enqueued i x) → IsAt mid.hidden.links k i → IsAt last.hidden.links k i) × ((p k i x : ℕ) → WasAnswered before p (Got i x) → IsAt mid.hidden.claims k i → IsAt last.hidden.claims k i)

  -- the event is the step of the process in this dequeue by which it finds that all that was put in was taken
  pub record EmptiesAt (w : World Doing History) (event : Event Doing) (p i : ℕ) : Type 0 where
    pub steps : event ≡ Step p
    pub call : Dequeue
    pub runs : w.situation p ≡ Dequeueing call
    pub is : call.operation ≡ i
    pub all : w.hidden.claims.count ≡ w.hidden.links.count
    pub effect : history_then w (Step p) ≡ emptying w.hidden i

  -- an event of the run is such a step
  abbrev pub WasEmpty : ℕ → ℕ → List (Happened queue n) → Type 0
  WasEmpty p i [] = ⊥
  WasEmpty p i (h ∷ hs) = EmptiesAt h.before h.entry.event p i ⊎ WasEmpty p i hs

  -- a dequeue that is answered that the queue was empty found it so at a step of its own
  abbrev pub EmptyWasSo : Type 0
  EmptyWasSo = (first last : World Doing History) (hs : List (Happened queue n)) (p i : ℕ) → IsNew queue n first → Run queue n first hs last → WasAnswered hs p (Empty i) → WasEmpty p i hs

  -- no call is torn: each ends with an answer, unless its process is stopped
  abbrev pub NoneIsTorn : Type 0
  NoneIsTorn = (first last : World Doing History) (hs : List (Happened queue n)) (p : ℕ) → p < n → IsNew queue n first → Run queue n first hs last → last.situation p ≢ Torn

  -- what a process is answered of one operation on a run agrees, whoever answers: the call, or a recovery after any crash
  pub record IsAgreed (hs : List (Happened queue n)) (p i : ℕ) : Type 0 where
    pub one_value : (x y : ℕ) → WasAnswered hs p (Got i x) → WasAnswered hs p (Got i y) → x ≡ y
    pub one_input : (x y : ℕ) → WasAnswered hs p (Enqueued i x) → WasAnswered hs p (Enqueued i y) → x ≡ y
    pub got_or_empty : (x : ℕ) → WasAnswered hs p (Got i x) → WasAnswered hs p (Empty i) → ⊥
    pub got_or_not : (x : ℕ) → WasAnswered hs p (Got i x) → WasAnswered hs p (NotDequeued i) → ⊥
    pub empty_or_not : WasAnswered hs p (Empty i) → WasAnswered hs p (NotDequeued i) → ⊥
    pub enqueued_or_not : (x : ℕ) → WasAnswered hs p (Enqueued i x) → WasAnswered hs p (NotEnqueued i) → ⊥
    pub was_or_not : WasAnswered hs p (WasEnqueued i) → WasAnswered hs p (NotEnqueued i) → ⊥

  -- so it is with each operation on every run from a new queue
  abbrev pub AnswersAgree : Type 0
  AnswersAgree = (first last : World Doing History) (hs : List (Happened queue n)) (p i : ℕ) → IsNew queue n first → Run queue n first hs last → IsAgreed hs p i

  -- the event is the step of the process in this enqueue, of this value, by which it takes effect
  pub record LinksAt (h : Happened queue n) (p i x : ℕ) : Type 0 where
    pub steps : h.entry.event ≡ Step p
    pub call : Enqueue
    pub runs : h.before.situation p ≡ Enqueueing call
    pub is : call.operation ≡ i
    pub value : call.value ≡ x
    pub new : IsNotIn h.before.hidden.links i
    pub effect : (k : ℕ) × IsAt (history_then h.before (Step p)).links k i

  -- the event is the step of the process in this dequeue by which it takes effect
  pub record ClaimsAt (h : Happened queue n) (p i : ℕ) : Type 0 where
    pub steps : h.entry.event ≡ Step p
    pub call : Dequeue
    pub runs : h.before.situation p ≡ Dequeueing call
    pub is : call.operation ≡ i
    pub new : IsNotIn h.before.hidden.claims i
    pub effect : (k : ℕ) × IsAt (history_then h.before (Step p)).claims k i

  -- an event of the run is such a step
  abbrev pub WasLinked : ℕ → ℕ → ℕ → List (Happened queue n) → Type 0
  WasLinked p i x [] = ⊥
  WasLinked p i x (h ∷ hs) = LinksAt h p i x ⊎ WasLinked p i x hs

  -- an event of the run is such a step
  abbrev pub WasClaimed : ℕ → ℕ → List (Happened queue n) → Type 0
  WasClaimed p i [] = ⊥
  WasClaimed p i (h ∷ hs) = ClaimsAt h p i ⊎ WasClaimed p i hs

  -- each operation that has a place took effect at a step of its own call: its linearization point
  abbrev pub EffectsInCalls : Type 0
  EffectsInCalls = (first last : World Doing History) (hs : List (Happened queue n)) (p i : ℕ) → IsNew queue n first → Run queue n first hs last → Belongs p i
      → ((k : ℕ) → IsAt last.hidden.links k i → WasLinked p i (last.hidden.value i) hs) × ((k : ℕ) → IsAt last.hidden.claims k i → WasClaimed p i hs)

  -- the answer is of this enqueue: it took effect, or never will
  abbrev pub OfEnqueue : ℕ → List Response → Type 0
  OfEnqueue i says = (says ≡ WasEnqueued i ∷ []) ⊎ (says ≡ NotEnqueued i ∷ [])

  -- the answer is of this dequeue: it took a value, found the queue empty, or never will take one
  abbrev pub OfDequeue : ℕ → List Response → Type 0
  OfDequeue i says = ((x : ℕ) × (says ≡ Got i x ∷ [])) ⊎ ((says ≡ Empty i ∷ []) ⊎ (says ≡ NotDequeued i ∷ []))

  -- what a recovery may answer where its process announced this word last: nothing, where it announced nothing; else of that
  -- operation alone, an enqueue or a dequeue as the word says
  abbrev pub AnswersFor : ℕ → List Response → Type 0
  AnswersFor u says = ((u ≡ 0) × (says ≡ [])) ⊎ (((u ≢ 0) × (u % 2 ≡ 0) × OfEnqueue (u / 2) says) ⊎ ((u ≢ 0) × (u % 2 ≢ 0) × OfDequeue (u / 2) says))

  -- a recovery that ends answers of the operation that its process announced last; and no later operation of the process has
  -- a place
  abbrev pub RecoveriesAnswerForTheLast : Type 0
  RecoveriesAnswerForTheLast = (first last : World Doing History) (h : Happened queue n) (hs : List (Happened queue n)) (p u : ℕ) (c : Recover) → p < n → IsNew queue n first → Run queue n first (h ∷ hs) last
      → h.entry.event ≡ Step p → h.before.situation p ≡ Recovering c → last.situation p ≡ Idle u
      → AnswersFor u h.entry.responses × ((i k : ℕ) → Belongs p i → IsAt last.hidden.links k i ⊎ IsAt last.hidden.claims k i → 2 * i ≤ u)
