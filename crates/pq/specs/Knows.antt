-- What a process knows at each stage of its calls: of the words, of the history, and of the turns that are left.
use Rattle.std.specs.Prelude.{ℕ, suc, ◌≡◌, ◌⊎◌, ◌+◌, ◌*◌, ◌/◌, ◌<◌, ◌≤◌, List, [], ◌∷◌}
use Rattle.ds_words.specs.declared.access.Class.TheVariants.{Owned}
use Rattle.ds_words.specs.declared.access.BufferEntry.{BufferEntry}
use Rattle.pm_base.specs.Structures.{In}
use Rattle.pq.specs.Places.{next_at, taker_at, value_at, linked_at, result_at, announce_at, Belongs}
use Rattle.pq.specs.declared.places.TheConstants.{EMPTY}
use Rattle.pq.specs.declared.enqueue.EnqueueStage.{EnqueueStage}
use Rattle.pq.specs.declared.enqueue.EnqueueStage.TheVariants as enqueue
use Rattle.pq.specs.declared.dequeue.DequeueStage.{DequeueStage}
use Rattle.pq.specs.declared.dequeue.DequeueStage.TheVariants as dequeue
use Rattle.pq.specs.declared.recover.RecoverStage.{RecoverStage}
use Rattle.pq.specs.declared.recover.RecoverStage.TheVariants as recover
use Rattle.pq.specs.declared.calls.Doing.{Doing}
use Rattle.pq.specs.declared.calls.Doing.TheVariants.{Idle, Enqueueing, Dequeueing, Recovering, Stopped, Torn}
use Rattle.pq.specs.History.{Log, History, Has, HasNot, HasKept, Words, Both, Fresh}

-- ---- what a process knows

-- the node stands in the list, at a place up to this one
pub record IsNode (log : Log) (a most : ℕ) : Type 0 where
  pub node : log.at (log.pos a) ≡ a
  pub within : log.pos a ≤ most

-- the node is followed by the other, at a place up to this one
pub record IsLink (log : Log) (a y most : ℕ) : Type 0 where
  pub node : log.at (log.pos a) ≡ a
  pub link : log.at (suc (log.pos a)) ≡ y
  pub within : log.pos a < most

-- the operation has no place in the log, but perhaps this one
abbrev pub IsMine : Log → ℕ → ℕ → Type 0
IsMine log i y = (y ≡ i) ⊎ HasNot log i

-- an enqueue that is announced, and its value, are persisted
pub record IsReady (w : Words) (p i x : ℕ) : Type 0 where
  pub announce : Both w.announce p (2 * i)
  pub value : Both w.value i x

-- what the enqueue i of the value x of process p knows
abbrev pub KnowsEnqueue : Words → History → ℕ → ℕ → ℕ → EnqueueStage → Type 0
KnowsEnqueue w h p i x enqueue.StoreValue = Fresh w.announce p i
KnowsEnqueue w h p i x enqueue.FlushValue = Fresh w.announce p i × (w.value.now i ≡ x)
KnowsEnqueue w h p i x enqueue.BackValue = Fresh w.announce p i × (w.value.now i ≡ x)
KnowsEnqueue w h p i x enqueue.StoreAnnounce = Fresh w.announce p i × Both w.value i x
KnowsEnqueue w h p i x enqueue.FlushAnnounce = (w.announce.now p ≡ 2 * i) × Both w.value i x × HasNot h.links i
KnowsEnqueue w h p i x enqueue.BackAnnounce = (w.announce.now p ≡ 2 * i) × Both w.value i x × HasNot h.links i
KnowsEnqueue w h p i x enqueue.LoadTail = IsReady w p i x × HasNot h.links i
KnowsEnqueue w h p i x (enqueue.LoadNext a) = IsReady w p i x × HasNot h.links i × IsNode h.links a h.links.marked
KnowsEnqueue w h p i x (enqueue.SwapNext a) = IsReady w p i x × HasNot h.links i × IsNode h.links a h.links.marked
KnowsEnqueue w h p i x (enqueue.FlushNext a y) = IsReady w p i x × IsMine h.links i y × IsNode h.links a h.links.marked × IsLink h.links a y h.links.count
KnowsEnqueue w h p i x (enqueue.BackNext a y) = IsReady w p i x × IsMine h.links i y × IsNode h.links a h.links.marked × IsLink h.links a y h.links.count
KnowsEnqueue w h p i x (enqueue.StoreLinked a y) = IsReady w p i x × IsMine h.links i y × IsNode h.links a h.links.marked × IsLink h.links a y h.links.kept
KnowsEnqueue w h p i x (enqueue.FlushLinked a y) = IsReady w p i x × IsMine h.links i y × IsNode h.links a h.links.marked × IsLink h.links a y h.links.kept × (w.linked.now y ≡ 1)
KnowsEnqueue w h p i x (enqueue.BackLinked a y) = IsReady w p i x × IsMine h.links i y × IsNode h.links a h.links.marked × IsLink h.links a y h.links.kept × (w.linked.now y ≡ 1)
KnowsEnqueue w h p i x (enqueue.SwapTail a y) = IsReady w p i x × IsMine h.links i y × IsNode h.links a h.links.marked × IsLink h.links a y h.links.marked
KnowsEnqueue w h p i x enqueue.Done = ⊥
KnowsEnqueue w h p i x enqueue.Torn = ⊥

-- the dequeue took nothing yet, and no result says otherwise
pub record IsUnclaimed (w : Words) (h : History) (i : ℕ) : Type 0 where
  pub claims : HasNot h.claims i
  pub result : Both w.result i 0

-- the node after a is y, and the claim on it is that of c
pub record IsClaim (h : History) (a y c most : ℕ) : Type 0 where
  pub node : h.links.at (h.links.pos a) ≡ a
  pub link : h.links.at (suc (h.links.pos a)) ≡ y
  pub claim : h.claims.at (suc (h.links.pos a)) ≡ c
  pub within : h.links.pos a < most

-- the claim of the dequeue is persisted, and on this node
pub record IsTaken (h : History) (i y : ℕ) : Type 0 where
  pub kept : HasKept h.claims i
  pub node : h.links.at (h.claims.pos i) ≡ y

-- the claim is that of this dequeue, or the dequeue has none
abbrev pub IsOwn : Words → History → ℕ → ℕ → Type 0
IsOwn w h i c = (c ≡ i) ⊎ IsUnclaimed w h i

-- what the dequeue i of process p knows
abbrev pub KnowsDequeue : Words → History → ℕ → ℕ → DequeueStage → Type 0
KnowsDequeue w h p i dequeue.StoreAnnounce = Fresh w.announce p i
KnowsDequeue w h p i dequeue.FlushAnnounce = (w.announce.now p ≡ 2 * i + 1) × IsUnclaimed w h i
KnowsDequeue w h p i dequeue.BackAnnounce = (w.announce.now p ≡ 2 * i + 1) × IsUnclaimed w h i
KnowsDequeue w h p i dequeue.LoadHead = Both w.announce p (2 * i + 1) × IsUnclaimed w h i
KnowsDequeue w h p i (dequeue.LoadNext a) = Both w.announce p (2 * i + 1) × IsUnclaimed w h i × IsNode h.links a h.claims.marked
KnowsDequeue w h p i dequeue.StoreEmpty = Both w.announce p (2 * i + 1) × IsUnclaimed w h i × In h.empty i
KnowsDequeue w h p i dequeue.FlushEmpty = Both w.announce p (2 * i + 1) × (w.result.now i ≡ EMPTY)
KnowsDequeue w h p i dequeue.BackEmpty = Both w.announce p (2 * i + 1) × (w.result.now i ≡ EMPTY)
KnowsDequeue w h p i (dequeue.FlushNext a y) = Both w.announce p (2 * i + 1) × IsUnclaimed w h i × IsNode h.links a h.claims.marked × IsLink h.links a y h.links.count
KnowsDequeue w h p i (dequeue.BackNext a y) = Both w.announce p (2 * i + 1) × IsUnclaimed w h i × IsNode h.links a h.claims.marked × IsLink h.links a y h.links.count
KnowsDequeue w h p i (dequeue.SwapTaker a y) = Both w.announce p (2 * i + 1) × IsUnclaimed w h i × IsNode h.links a h.claims.marked × IsLink h.links a y h.links.kept
KnowsDequeue w h p i (dequeue.FlushTaker a y c) = Both w.announce p (2 * i + 1) × IsOwn w h i c × IsNode h.links a h.claims.marked × IsClaim h a y c h.claims.count
KnowsDequeue w h p i (dequeue.BackTaker a y c) = Both w.announce p (2 * i + 1) × IsOwn w h i c × IsNode h.links a h.claims.marked × IsClaim h a y c h.claims.count
KnowsDequeue w h p i (dequeue.StoreResult a y c) = Both w.announce p (2 * i + 1) × IsOwn w h i c × IsNode h.links a h.claims.marked × IsClaim h a y c h.claims.kept
KnowsDequeue w h p i (dequeue.FlushResult a y c) = Both w.announce p (2 * i + 1) × IsOwn w h i c × IsNode h.links a h.claims.marked × IsClaim h a y c h.claims.kept × (w.result.now c ≡ y)
KnowsDequeue w h p i (dequeue.BackResult a y c) = Both w.announce p (2 * i + 1) × IsOwn w h i c × IsNode h.links a h.claims.marked × IsClaim h a y c h.claims.kept × (w.result.now c ≡ y)
KnowsDequeue w h p i (dequeue.SwapHead a y c) = Both w.announce p (2 * i + 1) × IsOwn w h i c × IsNode h.links a h.claims.marked × IsClaim h a y c h.claims.marked
KnowsDequeue w h p i (dequeue.LoadValue y) = Both w.announce p (2 * i + 1) × IsTaken h i y
KnowsDequeue w h p i dequeue.DoneEmpty = ⊥
KnowsDequeue w h p i (dequeue.Done x) = ⊥
KnowsDequeue w h p i dequeue.Torn = ⊥

-- if the operation stands in the log, then its evidence is persisted; the same of one up to this place
abbrev pub IsSettled : Log → ℕ → Type 0
IsSettled log i = Has log i → log.pos i ≤ log.marked

-- ... of an operation up to this place
abbrev pub IsPassed : Log → ℕ → ℕ → Type 0
IsPassed log i k = Has log i → log.pos i ≤ k → log.pos i ≤ log.marked

-- what the recovery of process p knows, which announced u last
abbrev pub KnowsRecovery : Words → History → ℕ → ℕ → RecoverStage → Type 0
KnowsRecovery w h p u recover.LoadAnnounce = Unit {0}
KnowsRecovery w h p u recover.FlushAnnounce = w.announce.now p ≡ u
KnowsRecovery w h p u recover.BackAnnounce = w.announce.now p ≡ u
KnowsRecovery w h p u recover.LoadTail = Both w.announce p u × Belongs p (u / 2)
KnowsRecovery w h p u (recover.FindNode a) = Both w.announce p u × Belongs p (u / 2) × IsNode h.links a h.links.count × IsPassed h.links (u / 2) (h.links.pos a)
KnowsRecovery w h p u (recover.FlushNext a) = Both w.announce p u × Belongs p (u / 2) × IsLink h.links a (u / 2) h.links.count
KnowsRecovery w h p u (recover.BackNext a) = Both w.announce p u × Belongs p (u / 2) × IsLink h.links a (u / 2) h.links.count
KnowsRecovery w h p u recover.LoadLinked = Both w.announce p u × Belongs p (u / 2) × IsSettled h.links (u / 2)
KnowsRecovery w h p u recover.LoadHead = Both w.announce p u × Belongs p (u / 2)
KnowsRecovery w h p u (recover.FindNext a) = Both w.announce p u × Belongs p (u / 2) × IsNode h.links a h.claims.count × IsPassed h.claims (u / 2) (h.links.pos a)
KnowsRecovery w h p u (recover.LoadTaker a y) = Both w.announce p u × Belongs p (u / 2) × IsNode h.links a h.claims.count × IsPassed h.claims (u / 2) (h.links.pos a) × IsLink h.links a y h.links.count
KnowsRecovery w h p u (recover.FlushTaker a y) = Both w.announce p u × Belongs p (u / 2) × IsClaim h a y (u / 2) h.claims.count
KnowsRecovery w h p u (recover.BackTaker a y) = Both w.announce p u × Belongs p (u / 2) × IsClaim h a y (u / 2) h.claims.count
KnowsRecovery w h p u recover.LoadResult = Both w.announce p u × Belongs p (u / 2) × IsSettled h.claims (u / 2)
KnowsRecovery w h p u recover.FlushEmpty = Both w.announce p u × Belongs p (u / 2) × (w.result.now (u / 2) ≡ EMPTY)
KnowsRecovery w h p u recover.BackEmpty = Both w.announce p u × Belongs p (u / 2) × (w.result.now (u / 2) ≡ EMPTY)
KnowsRecovery w h p u (recover.LoadValue y) = Both w.announce p u × Belongs p (u / 2) × IsTaken h (u / 2) y
KnowsRecovery w h p u (recover.Done f) = ⊥
KnowsRecovery w h p u recover.Torn = ⊥

-- an entry for a word that has this value
abbrev pub entry : ℕ → ℕ → BufferEntry ℕ
entry place value = record { place = place; class = Owned; value = value }

-- what is on its way to the persisted side: one word at most
abbrev pub enqueue_buffer : ℕ → ℕ → ℕ → EnqueueStage → List (BufferEntry ℕ)
enqueue_buffer p i x enqueue.BackValue = entry (value_at i) x ∷ []
enqueue_buffer p i x enqueue.BackAnnounce = entry (announce_at p) (2 * i) ∷ []
enqueue_buffer p i x (enqueue.BackNext a y) = entry (next_at a) y ∷ []
enqueue_buffer p i x (enqueue.BackLinked a y) = entry (linked_at y) 1 ∷ []
enqueue_buffer p i x _ = []

-- ... of a dequeue
abbrev pub dequeue_buffer : ℕ → ℕ → DequeueStage → List (BufferEntry ℕ)
dequeue_buffer p i dequeue.BackAnnounce = entry (announce_at p) (2 * i + 1) ∷ []
dequeue_buffer p i dequeue.BackEmpty = entry (result_at i) EMPTY ∷ []
dequeue_buffer p i (dequeue.BackNext a y) = entry (next_at a) y ∷ []
dequeue_buffer p i (dequeue.BackTaker a y c) = entry (taker_at y) c ∷ []
dequeue_buffer p i (dequeue.BackResult a y c) = entry (result_at c) y ∷ []
dequeue_buffer p i _ = []

-- ... of a recovery
abbrev pub recover_buffer : ℕ → ℕ → RecoverStage → List (BufferEntry ℕ)
recover_buffer p u recover.BackAnnounce = entry (announce_at p) u ∷ []
recover_buffer p u (recover.BackNext a) = entry (next_at a) (u / 2) ∷ []
recover_buffer p u (recover.BackTaker a y) = entry (taker_at y) (u / 2) ∷ []
recover_buffer p u recover.BackEmpty = entry (result_at (u / 2)) EMPTY ∷ []
recover_buffer p u _ = []

-- what a process knows of the words and of the history
abbrev pub Knows : Words → History → ℕ → Doing → Type 0
Knows w h p (Idle u) = Both w.announce p u
Knows w h p (Enqueueing c) = (c.process ≡ p) × Belongs p c.operation × KnowsEnqueue w h p c.operation c.value c.stage
Knows w h p (Dequeueing c) = (c.process ≡ p) × Belongs p c.operation × KnowsDequeue w h p c.operation c.stage
Knows w h p (Recovering c) = (c.process ≡ p) × KnowsRecovery w h p c.announced c.stage
Knows w h p Stopped = Unit {0}
Knows w h p Torn = ⊥

-- what stands in the buffer of a process
abbrev pub buffer_at : ℕ → Doing → List (BufferEntry ℕ)
buffer_at p (Enqueueing c) = enqueue_buffer p c.operation c.value c.stage
buffer_at p (Dequeueing c) = dequeue_buffer p c.operation c.stage
buffer_at p (Recovering c) = recover_buffer p c.announced c.stage
buffer_at p _ = []

-- ---- time

-- the node at the place k is not ahead of the one that an anchor names, and the turns reach the end of the list
pub record IsInTime (k anchor most turns : ℕ) : Type 0 where
  pub reached : k ≤ anchor
  pub enough : most ≤ k + turns

-- an enqueue has the turns that it may need, where each node has the place `pos`, and the tail names the one at `anchor`
abbrev pub EnqueueInTime : ℕ → (ℕ → ℕ) → ℕ → ℕ → EnqueueStage → Type 0
EnqueueInTime most pos anchor turns enqueue.LoadTail = most ≤ anchor + turns
EnqueueInTime most pos anchor turns (enqueue.LoadNext a) = IsInTime (pos a) anchor most turns
EnqueueInTime most pos anchor turns (enqueue.SwapNext a) = IsInTime (pos a) anchor most turns
EnqueueInTime most pos anchor turns (enqueue.FlushNext a y) = IsInTime (pos a) anchor most turns
EnqueueInTime most pos anchor turns (enqueue.BackNext a y) = IsInTime (pos a) anchor most turns
EnqueueInTime most pos anchor turns (enqueue.StoreLinked a y) = IsInTime (pos a) anchor most turns
EnqueueInTime most pos anchor turns (enqueue.FlushLinked a y) = IsInTime (pos a) anchor most turns
EnqueueInTime most pos anchor turns (enqueue.BackLinked a y) = IsInTime (pos a) anchor most turns
EnqueueInTime most pos anchor turns (enqueue.SwapTail a y) = IsInTime (pos a) anchor most turns
EnqueueInTime most pos anchor turns _ = most ≤ turns

-- so has a dequeue, where the head names the node at `anchor`
abbrev pub DequeueInTime : ℕ → (ℕ → ℕ) → ℕ → ℕ → DequeueStage → Type 0
DequeueInTime most pos anchor turns dequeue.StoreAnnounce = most ≤ turns
DequeueInTime most pos anchor turns dequeue.FlushAnnounce = most ≤ turns
DequeueInTime most pos anchor turns dequeue.BackAnnounce = most ≤ turns
DequeueInTime most pos anchor turns dequeue.LoadHead = most ≤ anchor + turns
DequeueInTime most pos anchor turns (dequeue.LoadNext a) = IsInTime (pos a) anchor most turns
DequeueInTime most pos anchor turns (dequeue.FlushNext a y) = IsInTime (pos a) anchor most turns
DequeueInTime most pos anchor turns (dequeue.BackNext a y) = IsInTime (pos a) anchor most turns
DequeueInTime most pos anchor turns (dequeue.SwapTaker a y) = IsInTime (pos a) anchor most turns
DequeueInTime most pos anchor turns (dequeue.FlushTaker a y c) = IsInTime (pos a) anchor most turns
DequeueInTime most pos anchor turns (dequeue.BackTaker a y c) = IsInTime (pos a) anchor most turns
DequeueInTime most pos anchor turns (dequeue.StoreResult a y c) = IsInTime (pos a) anchor most turns
DequeueInTime most pos anchor turns (dequeue.FlushResult a y c) = IsInTime (pos a) anchor most turns
DequeueInTime most pos anchor turns (dequeue.BackResult a y c) = IsInTime (pos a) anchor most turns
DequeueInTime most pos anchor turns (dequeue.SwapHead a y c) = IsInTime (pos a) anchor most turns
DequeueInTime most pos anchor turns _ = Unit {0}

-- so has a recovery
abbrev pub RecoverInTime : ℕ → (ℕ → ℕ) → ℕ → RecoverStage → Type 0
RecoverInTime most pos turns recover.LoadAnnounce = most ≤ turns
RecoverInTime most pos turns recover.FlushAnnounce = most ≤ turns
RecoverInTime most pos turns recover.BackAnnounce = most ≤ turns
RecoverInTime most pos turns recover.LoadTail = most ≤ turns
RecoverInTime most pos turns (recover.FindNode a) = most ≤ pos a + turns
RecoverInTime most pos turns recover.LoadHead = most ≤ turns
RecoverInTime most pos turns (recover.FindNext a) = most ≤ pos a + turns
RecoverInTime most pos turns (recover.LoadTaker a y) = most ≤ pos a + turns
RecoverInTime most pos turns _ = Unit {0}

-- the places of the nodes that the tail and the head name
abbrev pub tail_place : Words → History → ℕ
tail_place w h = h.links.pos (w.tail.now 0)

-- ... and the head
abbrev pub head_place : Words → History → ℕ
head_place w h = h.links.pos (w.head.now 0)

-- a process has the turns that its call may need
abbrev pub InTime : ℕ → Words → History → Doing → Type 0
InTime most w h (Enqueueing c) = EnqueueInTime most h.links.pos (tail_place w h) c.turns c.stage
InTime most w h (Dequeueing c) = DequeueInTime most h.links.pos (head_place w h) c.turns c.stage
InTime most w h (Recovering c) = RecoverInTime most h.links.pos c.turns c.stage
InTime most w h _ = Unit {0}
