-- The queue as a structure: what was answered, what each event makes of the history, its calls.
use Rattle.std.specs.Prelude.{ℕ, suc, ◌≡◌, ◌≢◌, ◌⊎◌, ◌+◌, ◌*◌, ◌/◌, ◌<◌, ◌≤◌, ◌==◌, if◌then◌else◌, List, [], ◌∷◌}
use Rattle.ds_words.specs.declared.access.Class.TheVariants.{Owned}
use Rattle.pm_base.specs.Structures.{In, World, Structure, Calls, BeginsOf, StepsOf}
use Rattle.pm_base.specs.declared.history.Event.{Event}
use Rattle.pm_base.specs.declared.history.Event.TheVariants.{Step, Crash}
use Rattle.pq.specs.Places.{nodes, Belongs}
use Rattle.pq.specs.Calls.{enqueue_access, enqueue_next, enqueue_rank, EnqueueGoes, EnqueueStageFits, dequeue_access, dequeue_next, dequeue_rank, DequeueGoes, DequeueStageFits, recover_access, recover_next, recover_rank, RecoverGoes, RecoverStageFits}
use Rattle.pq.specs.declared.places.TheConstants.{EMPTY}
use Rattle.pq.specs.declared.enqueue.Enqueue.{Enqueue}
use Rattle.pq.specs.declared.enqueue.EnqueueStage.{EnqueueStage}
use Rattle.pq.specs.declared.enqueue.EnqueueStage.TheVariants as enqueue
use Rattle.pq.specs.declared.dequeue.Dequeue.{Dequeue}
use Rattle.pq.specs.declared.dequeue.DequeueStage.{DequeueStage}
use Rattle.pq.specs.declared.dequeue.DequeueStage.TheVariants as dequeue
use Rattle.pq.specs.declared.recover.Recover.{Recover}
use Rattle.pq.specs.declared.recover.RecoverStage.{RecoverStage}
use Rattle.pq.specs.declared.recover.RecoverStage.TheVariants as recover
use Rattle.pq.specs.declared.recover.Found.{Found}
use Rattle.pq.specs.declared.recover.Found.TheVariants as found
use Rattle.pq.specs.declared.calls.Ended.{Ended}
use Rattle.pq.specs.declared.calls.Ended.TheVariants as ended
use Rattle.pq.specs.declared.calls.Doing.{Doing}
use Rattle.pq.specs.declared.calls.Doing.TheVariants.{Idle, Enqueueing, Dequeueing, Recovering, Stopped, Torn}
use Rattle.pq.specs.declared.calls.Response.{Response}
use Rattle.pq.specs.declared.calls.Response.TheVariants.{Enqueued, Got, Empty, WasEnqueued, NotEnqueued, NotDequeued}
use Rattle.pq.specs.History.{Log, History, HasNot, HasKept, kept_to, marked_to, no_history, linking, claiming, emptying, with_links, with_claims, Side, Words, words_of, Both, Spent}
use Rattle.pq.specs.Sound.{IsSound}
use Rattle.pq.specs.Knows.{Knows, buffer_at, InTime}

-- ---- what is answered

-- the process is not in this operation
abbrev pub LeavesOut : ℕ → Doing → Type 0
LeavesOut i (Enqueueing c) = c.operation ≢ i
LeavesOut i (Dequeueing c) = c.operation ≢ i
LeavesOut i _ = Unit {0}

-- the operation, of the process, is over, and not one of the log
pub record IsOut (w : Words) (log : Log) (p i : ℕ) (now : Doing) : Type 0 where
  pub none : HasNot log i
  pub mine : Belongs p i
  pub spent : Spent w.announce p i
  pub leaves : LeavesOut i now

-- what a process was answered is true
abbrev pub IsTrueResponse : Words → History → ℕ → Doing → Response → Type 0
IsTrueResponse w h p now (Enqueued i x) = HasKept h.links i × (h.value i ≡ x)
IsTrueResponse w h p now (Got i x) = HasKept h.claims i × (h.value (h.links.at (h.claims.pos i)) ≡ x)
IsTrueResponse w h p now (Empty i) = IsOut w h.claims p i now × In h.empty i × Both w.result i EMPTY
IsTrueResponse w h p now (WasEnqueued i) = HasKept h.links i
IsTrueResponse w h p now (NotEnqueued i) = IsOut w h.links p i now
IsTrueResponse w h p now (NotDequeued i) = IsOut w h.claims p i now × Both w.result i 0

-- ---- what each event makes of the history

-- the place after that of a node
abbrev pub place_after : History → ℕ → ℕ
place_after h a = suc (h.links.pos a)

-- a swap that hits is the moment at which the enqueue takes effect; what is written back is persisted for good
abbrev pub enqueue_then : History → Words → ℕ → ℕ → EnqueueStage → History
enqueue_then h w i x (enqueue.SwapNext a) = if w.next.now a == 0 then linking h i x else h
enqueue_then h w i x (enqueue.BackNext a y) = with_links h (kept_to h.links (place_after h a))
enqueue_then h w i x (enqueue.BackLinked a y) = with_links h (marked_to h.links (place_after h a))
enqueue_then h w i x _ = h

-- a load that finds nothing is the moment at which the dequeue finds the queue empty
abbrev pub dequeue_then : History → Words → ℕ → DequeueStage → History
dequeue_then h w i (dequeue.LoadNext a) = if w.next.now a == 0 then emptying h i else h
dequeue_then h w i (dequeue.BackNext a y) = with_links h (kept_to h.links (place_after h a))
dequeue_then h w i (dequeue.SwapTaker a y) = if w.taker.now y == 0 then claiming h i else h
dequeue_then h w i (dequeue.BackTaker a y c) = with_claims h (kept_to h.claims (place_after h a))
dequeue_then h w i (dequeue.BackResult a y c) = with_claims h (marked_to h.claims (place_after h a))
dequeue_then h w i _ = h

-- a recovery has no effect
abbrev pub recover_then : History → RecoverStage → History
recover_then h (recover.BackNext a) = with_links h (kept_to h.links (place_after h a))
recover_then h (recover.BackTaker a y) = with_claims h (kept_to h.claims (place_after h a))
recover_then h _ = h

-- what a step of a process that does this makes of the history
abbrev pub step_then : History → Words → Doing → History
step_then h w (Enqueueing c) = enqueue_then h w c.operation c.value c.stage
step_then h w (Dequeueing c) = dequeue_then h w c.operation c.stage
step_then h w (Recovering c) = recover_then h c.stage
step_then h w _ = h

-- a crash takes back the last operation, where its word was not persisted
abbrev pub left_of : Side → (ℕ → ℕ) → Log → ℕ
left_of s place log = if s.kept (place log.kept) == log.at (suc log.kept) then log.count else log.kept

-- the log without what comes after this place
abbrev pub cut_to : Log → ℕ → Log
cut_to log k = record { at = log.at; pos = log.pos; count = k; kept = k; marked = log.marked }

-- what a crash makes of the history
abbrev pub crash_then : History → Words → History
crash_then h w = record { links = cut_to h.links (left_of w.next h.links.at h.links); claims = cut_to h.claims (left_of w.taker (λ k. h.links.at (suc k)) h.claims); value = h.value; empty = h.empty }

-- what an event makes of the history
abbrev pub history_then : World Doing History → Event Doing → History
history_then w (Step p) = step_then w.hidden (words_of w.memory) (w.situation p)
history_then w Crash = crash_then w.hidden (words_of w.memory)
history_then w _ = w.hidden

-- ---- calls

-- what a process does in an enqueue, and after it
abbrev pub enqueue_doing : Enqueue → EnqueueStage → Doing
enqueue_doing c enqueue.Done = Idle (2 * c.operation)
enqueue_doing c enqueue.Torn = Torn
enqueue_doing c _ = Enqueueing c

-- what it is answered at the last step
abbrev pub enqueue_says : Enqueue → EnqueueStage → List Response
enqueue_says c enqueue.Done = Enqueued c.operation c.value ∷ []
enqueue_says c _ = []

-- how an enqueue ended
abbrev pub EnqueueEnds : EnqueueStage → Ended → Type 0
EnqueueEnds enqueue.Done e = e ≡ ended.Enqueued
EnqueueEnds enqueue.Torn e = e ≡ ended.Torn
EnqueueEnds _ e = ⊥

-- a call may begin with a number that is above all that the process announced
abbrev pub MayEnqueue : ℕ → Doing → Enqueue → Type 0
MayEnqueue n (Idle u) c = (u < 2 * c.operation) × (c.stage ≡ enqueue.StoreValue) × (nodes n ≤ c.turns)
MayEnqueue n _ c = ⊥

-- enqueues as calls
abbrev pub enqueues : Calls ℕ Doing Response Enqueue Ended
enqueues = record {
  process = λ c. c.process;
  begins = λ n now c. MayEnqueue n now c;
  doing = λ c. enqueue_doing c c.stage;
  says = λ c. enqueue_says c c.stage;
  access = λ n c. enqueue_access c;
  next = enqueue_next;
  goes = λ c. EnqueueGoes c.stage;
  ends = λ c e. EnqueueEnds c.stage e;
  fits = λ n c. (n < 16384) × (c.process < n) × Belongs c.process c.operation × EnqueueStageFits c.stage;
  rank = enqueue_rank;
}

-- what a process does in a dequeue, and after it
abbrev pub dequeue_doing : Dequeue → DequeueStage → Doing
dequeue_doing c dequeue.DoneEmpty = Idle (2 * c.operation + 1)
dequeue_doing c (dequeue.Done x) = Idle (2 * c.operation + 1)
dequeue_doing c dequeue.Torn = Torn
dequeue_doing c _ = Dequeueing c

-- what it is answered at the last step
abbrev pub dequeue_says : Dequeue → DequeueStage → List Response
dequeue_says c dequeue.DoneEmpty = Empty c.operation ∷ []
dequeue_says c (dequeue.Done x) = Got c.operation x ∷ []
dequeue_says c _ = []

-- how a dequeue ended
abbrev pub DequeueEnds : DequeueStage → Ended → Type 0
DequeueEnds dequeue.DoneEmpty e = e ≡ ended.Empty
DequeueEnds (dequeue.Done x) e = e ≡ ended.Got x
DequeueEnds dequeue.Torn e = e ≡ ended.Torn
DequeueEnds _ e = ⊥

-- a dequeue may begin with a number that is above all that the process announced, and turns for each node
abbrev pub MayDequeue : ℕ → Doing → Dequeue → Type 0
MayDequeue n (Idle u) c = (u < 2 * c.operation) × (c.stage ≡ dequeue.StoreAnnounce) × (nodes n ≤ c.turns)
MayDequeue n _ c = ⊥

-- dequeues as calls
abbrev pub dequeues : Calls ℕ Doing Response Dequeue Ended
dequeues = record {
  process = λ c. c.process;
  begins = λ n now c. MayDequeue n now c;
  doing = λ c. dequeue_doing c c.stage;
  says = λ c. dequeue_says c c.stage;
  access = λ n c. dequeue_access c;
  next = dequeue_next;
  goes = λ c. DequeueGoes c.stage;
  ends = λ c e. DequeueEnds c.stage e;
  fits = λ n c. (n < 16384) × (c.process < n) × Belongs c.process c.operation × DequeueStageFits c.stage;
  rank = dequeue_rank;
}

-- what a process does in a recovery, and after it
abbrev pub recover_doing : Recover → RecoverStage → Doing
recover_doing c (recover.Done f) = Idle c.announced
recover_doing c recover.Torn = Torn
recover_doing c _ = Recovering c

-- what a recovery answers of the operation i
abbrev pub found_says : ℕ → Found → List Response
found_says i found.Nothing = []
found_says i found.WasEnqueued = WasEnqueued i ∷ []
found_says i found.NotEnqueued = NotEnqueued i ∷ []
found_says i (found.Got x) = Got i x ∷ []
found_says i found.Empty = Empty i ∷ []
found_says i found.NotDequeued = NotDequeued i ∷ []

-- what it is answered at the last step
abbrev pub recover_says : Recover → RecoverStage → List Response
recover_says c (recover.Done f) = found_says (c.announced / 2) f
recover_says c _ = []

-- how a recovery ended
abbrev pub RecoverEnds : RecoverStage → Ended → Type 0
RecoverEnds (recover.Done f) e = e ≡ ended.Recovered f
RecoverEnds recover.Torn e = e ≡ ended.Torn
RecoverEnds _ e = ⊥

-- a process that was stopped may recover
abbrev pub MayRecover : ℕ → Doing → Recover → Type 0
MayRecover n Stopped c = (c.stage ≡ recover.LoadAnnounce) × (nodes n ≤ c.turns)
MayRecover n _ c = ⊥

-- recoveries as calls
abbrev pub recoveries : Calls ℕ Doing Response Recover Ended
recoveries = record {
  process = λ c. c.process;
  begins = λ n now c. MayRecover n now c;
  doing = λ c. recover_doing c c.stage;
  says = λ c. recover_says c c.stage;
  access = λ n c. recover_access c;
  next = recover_next;
  goes = λ c. RecoverGoes c.stage;
  ends = λ c e. RecoverEnds c.stage e;
  fits = λ n c. (n < 16384) × (c.process < n) × (c.announced < 33554432) × RecoverStageFits c.stage;
  rank = recover_rank;
}

-- ---- the structure

-- the queue of n processes
abbrev pub queue : Structure ℕ Doing Response
queue = record {
  Hidden = History;
  words = λ n. 8 * nodes n;
  apart = λ n. 8 * nodes n;
  class_in = λ n r. Owned;
  first_word = λ n r. 0;
  processes = λ n. n;
  first = Idle 0;
  stopped = Stopped;
  begins = λ n p now after. BeginsOf enqueues n p now after ⊎ BeginsOf dequeues n p now after ⊎ BeginsOf recoveries n p now after;
  steps = λ n p now access answer after says. StepsOf enqueues n p now access answer after says ⊎ StepsOf dequeues n p now access answer after says ⊎ StepsOf recoveries n p now access answer after says;
  first_hidden = λ n. no_history;
  hidden_after = λ n w event memory. history_then w event;
  sound = λ n w. IsSound (nodes n) (words_of w.memory) w.hidden × ((p : ℕ) → p < n → Knows (words_of w.memory) w.hidden p (w.situation p) × (w.memory.buffer p ≡ buffer_at p (w.situation p)) × InTime (nodes n) (words_of w.memory) w.hidden (w.situation p));
  is_right = λ n w p t. (p < n) × IsTrueResponse (words_of w.memory) w.hidden p (w.situation p) t;
}
