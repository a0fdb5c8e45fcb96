-- When the words and the history are sound.
use Rattle.std.specs.Prelude.{ℕ, suc, ◌≡◌, ◌≢◌, ◌⊎◌, ◌/◌, ◌<◌, ◌≤◌}
use Rattle.pm_base.specs.Structures.{In}
use Rattle.pq.specs.Places.{Belongs}
use Rattle.pq.specs.declared.places.TheConstants.{EMPTY}
use Rattle.pq.specs.History.{Log, History, HasNot, Side, Words, Either, Both, Spent}

-- ---- soundness

-- each place has one operation, at most one of them not persisted
pub record IsLog (most : ℕ) (log : Log) : Type 0 where
  pub first : log.at 0 ≡ 0
  pub real : (k : ℕ) → k ≤ log.count → log.at k < most
  pub inverse : (k : ℕ) → k ≤ log.count → log.pos (log.at k) ≡ k
  pub marks : log.marked ≤ log.kept
  pub keeps : log.kept ≤ log.count
  pub ahead : log.count ≤ suc log.kept

-- each operation of the log stands in the word of its place, and no other word of the kind has a value
pub record IsWritten (most : ℕ) (s : Side) (place : ℕ → ℕ) (log : Log) : Type 0 where
  pub cached : (k : ℕ) → k < log.count → s.now (place k) ≡ log.at (suc k)
  pub persisted : (k : ℕ) → k < log.kept → s.kept (place k) ≡ log.at (suc k)
  pub only : (a u : ℕ) → a < most → Either s a u → u ≢ 0 → (k : ℕ) × (k < log.count) × (a ≡ place k) × (u ≡ log.at (suc k))

-- a result says that the queue was empty, of a dequeue that took nothing; or it is the node of a claim that is persisted
abbrev pub IsResult : History → ℕ → ℕ → Type 0
IsResult h o u = ((u ≡ EMPTY) × HasNot h.claims o × In h.empty o) ⊎ ((k : ℕ) × (k < h.claims.kept) × (o ≡ h.claims.at (suc k)) × (u ≡ h.links.at (suc k)))

-- the words are those of the history: nodes are linked and claimed in its order, and claimed where their links are
-- persisted; evidence of a link stands only where that is persisted, and so does the result of a claim; the tail and the
-- head name nodes up to which all evidence is persisted; the value of a linked node is persisted; a process announces its
-- own operations, and has announced those that took effect
pub record IsSound (most : ℕ) (w : Words) (h : History) : Type 0 where
  pub links : IsLog most h.links
  pub claims : IsLog most h.claims
  pub next : IsWritten most w.next h.links.at h.links
  pub taker : IsWritten most w.taker (λ k. h.links.at (suc k)) h.claims
  pub follows : h.claims.count ≤ h.links.kept
  pub linked : (k : ℕ) → k < h.links.marked → Both w.linked (h.links.at (suc k)) 1
  pub linked_only : (a u : ℕ) → a < most → Either w.linked a u → u ≢ 0 → (k : ℕ) × (k < h.links.kept) × (a ≡ h.links.at (suc k))
  pub result : (k : ℕ) → k < h.claims.marked → Both w.result (h.claims.at (suc k)) (h.links.at (suc k))
  pub result_kept : (o : ℕ) → o < most → w.result.kept o ≢ 0 → w.result.now o ≡ w.result.kept o
  pub result_only : (o u : ℕ) → o < most → Either w.result o u → u ≢ 0 → IsResult h o u
  pub tail : (u : ℕ) → Either w.tail 0 u → (k : ℕ) × (k ≤ h.links.marked) × (u ≡ h.links.at k)
  pub head : (u : ℕ) → Either w.head 0 u → (k : ℕ) × (k ≤ h.claims.marked) × (u ≡ h.links.at k)
  pub value : (k : ℕ) → k < h.links.count → Both w.value (h.links.at (suc k)) (h.value (h.links.at (suc k)))
  pub announced : (p u : ℕ) → p < most → Either w.announce p u → u ≢ 0 → Belongs p (u / 2)
  pub spent_links : (p k : ℕ) → k < h.links.count → Belongs p (h.links.at (suc k)) → Spent w.announce p (h.links.at (suc k))
  pub spent_claims : (p k : ℕ) → k < h.claims.count → Belongs p (h.claims.at (suc k)) → Spent w.announce p (h.claims.at (suc k))
  pub spent_result : (p o u : ℕ) → o < most → Either w.result o u → u ≢ 0 → Belongs p o → Spent w.announce p o
