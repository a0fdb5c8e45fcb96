-- The history beside the words, and the words by their kinds.
use Rattle.std.specs.Prelude.{ℕ, suc, ◌≡◌, ◌⊎◌, ◌+◌, ◌*◌, ◌<◌, ◌≤◌, max, List, [], ◌∷◌}
use Rattle.ds_words.specs.Memory.{Memory}
use Rattle.pm_base.specs.Structures.{put}

-- ---- the history

-- operations in the order in which they took effect, at the places 1 to count, and the place of each; how many are
-- persisted at least; and of how many the evidence is persisted too
pub record Log : Type 0 where
  pub at : ℕ → ℕ
  pub pos : ℕ → ℕ
  pub count : ℕ
  pub kept : ℕ
  pub marked : ℕ

-- the enqueues that linked their nodes; the dequeues that claimed one, the k-th of them the node of the k-th enqueue;
-- the value of each enqueue; and the dequeues that found the queue empty
pub record History : Type 0 where
  pub links : Log
  pub claims : Log
  pub value : ℕ → ℕ
  pub empty : List ℕ

-- the operation is one of the log, and no other stands at its place
pub record Has (log : Log) (i : ℕ) : Type 0 where
  pub there : log.at (log.pos i) ≡ i
  pub above : 0 < log.pos i
  pub within : log.pos i ≤ log.count

-- the operation is not one of the log
abbrev pub HasNot : Log → ℕ → Type 0
HasNot log i = Has log i → ⊥

-- the operation is one of the log for good
pub record HasKept (log : Log) (i : ℕ) : Type 0 where
  pub there : log.at (log.pos i) ≡ i
  pub above : 0 < log.pos i
  pub within : log.pos i ≤ log.kept

-- one more operation takes effect
abbrev pub added : Log → ℕ → Log
added log i = record { at = put log.at (suc log.count) i; pos = put log.pos i (suc log.count); count = suc log.count; kept = log.kept; marked = log.marked }

-- what is up to this place is persisted
abbrev pub kept_to : Log → ℕ → Log
kept_to log k = record { at = log.at; pos = log.pos; count = log.count; kept = max log.kept k; marked = log.marked }

-- the evidence of what is up to this place is persisted
abbrev pub marked_to : Log → ℕ → Log
marked_to log k = record { at = log.at; pos = log.pos; count = log.count; kept = log.kept; marked = max log.marked k }

-- no operation
abbrev pub no_log : Log
no_log = record { at = λ k. 0; pos = λ i. 0; count = 0; kept = 0; marked = 0 }

-- the history of a new queue
abbrev pub no_history : History
no_history = record { links = no_log; claims = no_log; value = λ i. 0; empty = [] }

-- the enqueue i of the value x takes effect
abbrev pub linking : History → ℕ → ℕ → History
linking h i x = record { links = added h.links i; claims = h.claims; value = put h.value i x; empty = h.empty }

-- the dequeue i takes effect
abbrev pub claiming : History → ℕ → History
claiming h i = record { links = h.links; claims = added h.claims i; value = h.value; empty = h.empty }

-- the dequeue i finds the queue empty
abbrev pub emptying : History → ℕ → History
emptying h i = record { links = h.links; claims = h.claims; value = h.value; empty = i ∷ h.empty }

-- ... with another log of enqueues
abbrev pub with_links : History → Log → History
with_links h log = record { links = log; claims = h.claims; value = h.value; empty = h.empty }

-- ... with another log of dequeues
abbrev pub with_claims : History → Log → History
with_claims h log = record { links = h.links; claims = log; value = h.value; empty = h.empty }

-- ---- the words

-- both sides of words of one kind
pub record Side : Type 0 where
  pub now : ℕ → ℕ
  pub kept : ℕ → ℕ

-- the words of the queue, by their kinds
pub record Words : Type 0 where
  pub next : Side
  pub taker : Side
  pub value : Side
  pub linked : Side
  pub result : Side
  pub announce : Side
  pub tail : Side
  pub head : Side

-- the words of a memory whose numbers have this remainder by 8
abbrev pub side_of : Memory ℕ → ℕ → Side
side_of memory kind = record { now = λ a. memory.cached (8 * a + kind); kept = λ a. memory.persisted (8 * a + kind) }

-- the words of a memory
abbrev pub words_of : Memory ℕ → Words
words_of memory = record {
  next = side_of memory 0;
  taker = side_of memory 1;
  value = side_of memory 2;
  linked = side_of memory 3;
  result = side_of memory 4;
  announce = side_of memory 5;
  tail = side_of memory 6;
  head = side_of memory 7;
}

-- the value stands on one side of the word, or on both
abbrev pub Either : Side → ℕ → ℕ → Type 0
Either s a u = (s.now a ≡ u) ⊎ (s.kept a ≡ u)

-- the value stands on both sides of the word
abbrev pub Both : Side → ℕ → ℕ → Type 0
Both s a u = (s.now a ≡ u) × (s.kept a ≡ u)

-- the process announced the operation, or a later one, for good
abbrev pub Spent : Side → ℕ → ℕ → Type 0
Spent s p i = (2 * i ≤ s.now p) × (2 * i ≤ s.kept p)

-- the process did not announce the operation yet, nor a later one
abbrev pub Fresh : Side → ℕ → ℕ → Type 0
Fresh s p i = (s.now p < 2 * i) × (s.kept p < 2 * i)
