-- The calls on the queue: what each stage does to the words, and what comes then.
use Rattle.std.specs.Prelude.{ℕ, ◌+◌, ◌*◌, ◌-◌, ◌/◌, ◌%◌, ◌<◌, ◌==◌, nat_lt, if◌then◌else◌}
use Rattle.ds_words.specs.declared.access.Access.{Access}
use Rattle.ds_words.specs.declared.access.Access.TheVariants.{Nothing, Load, Store, SwapIf, Flush, Back}
use Rattle.pq.specs.Places.{next_at, taker_at, value_at, linked_at, result_at, announce_at, nodes}
use Rattle.pq.specs.declared.places.TheConstants.{MOST_NODES, EMPTY, TAIL, HEAD}
use Rattle.pq.specs.declared.enqueue.Enqueue.{Enqueue}
use Rattle.pq.specs.declared.enqueue.EnqueueStage.{EnqueueStage}
use Rattle.pq.specs.declared.enqueue.EnqueueStage.TheVariants as enqueue
use Rattle.pq.specs.declared.dequeue.Dequeue.{Dequeue}
use Rattle.pq.specs.declared.dequeue.DequeueStage.{DequeueStage}
use Rattle.pq.specs.declared.dequeue.DequeueStage.TheVariants as dequeue
use Rattle.pq.specs.declared.recover.Recover.{Recover}
use Rattle.pq.specs.declared.recover.RecoverStage.{RecoverStage}
use Rattle.pq.specs.declared.recover.RecoverStage.TheVariants as recover
use Rattle.pq.specs.declared.recover.Found.TheVariants as found

-- ---- enqueue: of operation i of process p with the value x

-- the access of each stage
abbrev pub enqueue_access_at : ℕ → ℕ → ℕ → EnqueueStage → Access ℕ
enqueue_access_at p i x enqueue.StoreValue = Store (value_at i) x
enqueue_access_at p i x enqueue.FlushValue = Flush (value_at i)
enqueue_access_at p i x enqueue.BackValue = Back
enqueue_access_at p i x enqueue.StoreAnnounce = Store (announce_at p) (2 * i)
enqueue_access_at p i x enqueue.FlushAnnounce = Flush (announce_at p)
enqueue_access_at p i x enqueue.BackAnnounce = Back
enqueue_access_at p i x enqueue.LoadTail = Load TAIL
enqueue_access_at p i x (enqueue.LoadNext a) = Load (next_at a)
enqueue_access_at p i x (enqueue.SwapNext a) = SwapIf (next_at a) 0 i
enqueue_access_at p i x (enqueue.FlushNext a y) = Flush (next_at a)
enqueue_access_at p i x (enqueue.BackNext a y) = Back
enqueue_access_at p i x (enqueue.StoreLinked a y) = Store (linked_at y) 1
enqueue_access_at p i x (enqueue.FlushLinked a y) = Flush (linked_at y)
enqueue_access_at p i x (enqueue.BackLinked a y) = Back
enqueue_access_at p i x (enqueue.SwapTail a y) = SwapIf TAIL a y
enqueue_access_at p i x enqueue.Done = Nothing
enqueue_access_at p i x enqueue.Torn = Nothing

-- the access of the next step
abbrev pub enqueue_access : Enqueue → Access ℕ
enqueue_access c = enqueue_access_at c.process c.operation c.value c.stage

-- after a word that is no node the call is torn
abbrev pub help_enqueue : ℕ → ℕ → EnqueueStage
help_enqueue a y = if nat_lt y MOST_NODES then enqueue.FlushNext a y else enqueue.Torn

-- the tail names this node
abbrev pub seen_tail : ℕ → EnqueueStage
seen_tail word = if nat_lt word MOST_NODES then enqueue.LoadNext word else enqueue.Torn

-- the node after the tail is its own, or another's
abbrev pub passed_tail : ℕ → ℕ → ℕ → EnqueueStage
passed_tail i turns y = if y == i then enqueue.Done else if turns == 0 then enqueue.Torn else enqueue.LoadTail

-- what comes after each stage, by the word that was seen
abbrev pub enqueue_stage : ℕ → ℕ → EnqueueStage → ℕ → EnqueueStage
enqueue_stage i turns enqueue.StoreValue word = enqueue.FlushValue
enqueue_stage i turns enqueue.FlushValue word = enqueue.BackValue
enqueue_stage i turns enqueue.BackValue word = enqueue.StoreAnnounce
enqueue_stage i turns enqueue.StoreAnnounce word = enqueue.FlushAnnounce
enqueue_stage i turns enqueue.FlushAnnounce word = enqueue.BackAnnounce
enqueue_stage i turns enqueue.BackAnnounce word = enqueue.LoadTail
enqueue_stage i turns enqueue.LoadTail word = seen_tail word
enqueue_stage i turns (enqueue.LoadNext a) word = if word == 0 then enqueue.SwapNext a else help_enqueue a word
enqueue_stage i turns (enqueue.SwapNext a) word = if word == 0 then enqueue.FlushNext a i else help_enqueue a word
enqueue_stage i turns (enqueue.FlushNext a y) word = enqueue.BackNext a y
enqueue_stage i turns (enqueue.BackNext a y) word = enqueue.StoreLinked a y
enqueue_stage i turns (enqueue.StoreLinked a y) word = enqueue.FlushLinked a y
enqueue_stage i turns (enqueue.FlushLinked a y) word = enqueue.BackLinked a y
enqueue_stage i turns (enqueue.BackLinked a y) word = enqueue.SwapTail a y
enqueue_stage i turns (enqueue.SwapTail a y) word = passed_tail i turns y
enqueue_stage i turns enqueue.Done word = enqueue.Done
enqueue_stage i turns enqueue.Torn word = enqueue.Torn

-- a moved tail ends a turn
abbrev pub enqueue_turns : EnqueueStage → ℕ → ℕ
enqueue_turns (enqueue.SwapTail a y) turns = turns - 1
enqueue_turns _ turns = turns

-- the call after a step that answered this word
abbrev pub enqueue_next : Enqueue → ℕ → Enqueue
enqueue_next c word = record c { stage = enqueue_stage c.operation c.turns c.stage word; turns = enqueue_turns c.stage c.turns }

-- a step is left
abbrev pub EnqueueGoes : EnqueueStage → Type 0
EnqueueGoes enqueue.Done = ⊥
EnqueueGoes enqueue.Torn = ⊥
EnqueueGoes _ = Unit {0}

-- how many steps are left at most, if the tail is not moved for another
abbrev pub enqueue_steps : EnqueueStage → ℕ
enqueue_steps enqueue.StoreValue = 15
enqueue_steps enqueue.FlushValue = 14
enqueue_steps enqueue.BackValue = 13
enqueue_steps enqueue.StoreAnnounce = 12
enqueue_steps enqueue.FlushAnnounce = 11
enqueue_steps enqueue.BackAnnounce = 10
enqueue_steps enqueue.LoadTail = 9
enqueue_steps (enqueue.LoadNext a) = 8
enqueue_steps (enqueue.SwapNext a) = 7
enqueue_steps (enqueue.FlushNext a y) = 6
enqueue_steps (enqueue.BackNext a y) = 5
enqueue_steps (enqueue.StoreLinked a y) = 4
enqueue_steps (enqueue.FlushLinked a y) = 3
enqueue_steps (enqueue.BackLinked a y) = 2
enqueue_steps (enqueue.SwapTail a y) = 1
enqueue_steps enqueue.Done = 0
enqueue_steps enqueue.Torn = 0

-- how many steps are left at most
abbrev pub enqueue_rank : Enqueue → ℕ
enqueue_rank c = 9 * c.turns + enqueue_steps c.stage

-- the words that the stage names have numbers that fit
abbrev pub EnqueueStageFits : EnqueueStage → Type 0
EnqueueStageFits (enqueue.LoadNext a) = a < MOST_NODES
EnqueueStageFits (enqueue.SwapNext a) = a < MOST_NODES
EnqueueStageFits (enqueue.FlushNext a y) = (a < MOST_NODES) × (y < MOST_NODES)
EnqueueStageFits (enqueue.BackNext a y) = (a < MOST_NODES) × (y < MOST_NODES)
EnqueueStageFits (enqueue.StoreLinked a y) = (a < MOST_NODES) × (y < MOST_NODES)
EnqueueStageFits (enqueue.FlushLinked a y) = (a < MOST_NODES) × (y < MOST_NODES)
EnqueueStageFits (enqueue.BackLinked a y) = (a < MOST_NODES) × (y < MOST_NODES)
EnqueueStageFits (enqueue.SwapTail a y) = (a < MOST_NODES) × (y < MOST_NODES)
EnqueueStageFits _ = Unit {0}

-- the words of the call have numbers that fit
abbrev pub EnqueueFits : Enqueue → Type 0
EnqueueFits c = (c.process < MOST_NODES) × (c.operation < MOST_NODES) × EnqueueStageFits c.stage

-- ---- dequeue: operation i of process p

-- the access of each stage
abbrev pub dequeue_access_at : ℕ → ℕ → DequeueStage → Access ℕ
dequeue_access_at p i dequeue.StoreAnnounce = Store (announce_at p) (2 * i + 1)
dequeue_access_at p i dequeue.FlushAnnounce = Flush (announce_at p)
dequeue_access_at p i dequeue.BackAnnounce = Back
dequeue_access_at p i dequeue.LoadHead = Load HEAD
dequeue_access_at p i (dequeue.LoadNext a) = Load (next_at a)
dequeue_access_at p i dequeue.StoreEmpty = Store (result_at i) EMPTY
dequeue_access_at p i dequeue.FlushEmpty = Flush (result_at i)
dequeue_access_at p i dequeue.BackEmpty = Back
dequeue_access_at p i (dequeue.FlushNext a y) = Flush (next_at a)
dequeue_access_at p i (dequeue.BackNext a y) = Back
dequeue_access_at p i (dequeue.SwapTaker a y) = SwapIf (taker_at y) 0 i
dequeue_access_at p i (dequeue.FlushTaker a y c) = Flush (taker_at y)
dequeue_access_at p i (dequeue.BackTaker a y c) = Back
dequeue_access_at p i (dequeue.StoreResult a y c) = Store (result_at c) y
dequeue_access_at p i (dequeue.FlushResult a y c) = Flush (result_at c)
dequeue_access_at p i (dequeue.BackResult a y c) = Back
dequeue_access_at p i (dequeue.SwapHead a y c) = SwapIf HEAD a y
dequeue_access_at p i (dequeue.LoadValue y) = Load (value_at y)
dequeue_access_at p i dequeue.DoneEmpty = Nothing
dequeue_access_at p i (dequeue.Done x) = Nothing
dequeue_access_at p i dequeue.Torn = Nothing

-- the access of the next step
abbrev pub dequeue_access : Dequeue → Access ℕ
dequeue_access c = dequeue_access_at c.process c.operation c.stage

-- no node follows the head, or this one does
abbrev pub seen_next : ℕ → ℕ → DequeueStage
seen_next a y = if y == 0 then dequeue.StoreEmpty else if nat_lt y MOST_NODES then dequeue.FlushNext a y else dequeue.Torn

-- the node is claimed: by this operation, where no other was faster
abbrev pub seen_taker : ℕ → ℕ → ℕ → ℕ → DequeueStage
seen_taker i a y word = if word == 0 then dequeue.FlushTaker a y i else if nat_lt word MOST_NODES then dequeue.FlushTaker a y word else dequeue.Torn

-- the head names this node
abbrev pub seen_head : ℕ → DequeueStage
seen_head word = if nat_lt word MOST_NODES then dequeue.LoadNext word else dequeue.Torn

-- the claim on the node after the head is its own, or another's
abbrev pub passed_head : ℕ → ℕ → ℕ → ℕ → DequeueStage
passed_head i turns y c = if c == i then dequeue.LoadValue y else if turns == 0 then dequeue.Torn else dequeue.LoadHead

-- what comes after each stage, by the word that was seen
abbrev pub dequeue_stage : ℕ → ℕ → DequeueStage → ℕ → DequeueStage
dequeue_stage i turns dequeue.StoreAnnounce word = dequeue.FlushAnnounce
dequeue_stage i turns dequeue.FlushAnnounce word = dequeue.BackAnnounce
dequeue_stage i turns dequeue.BackAnnounce word = dequeue.LoadHead
dequeue_stage i turns dequeue.LoadHead word = seen_head word
dequeue_stage i turns (dequeue.LoadNext a) word = seen_next a word
dequeue_stage i turns dequeue.StoreEmpty word = dequeue.FlushEmpty
dequeue_stage i turns dequeue.FlushEmpty word = dequeue.BackEmpty
dequeue_stage i turns dequeue.BackEmpty word = dequeue.DoneEmpty
dequeue_stage i turns (dequeue.FlushNext a y) word = dequeue.BackNext a y
dequeue_stage i turns (dequeue.BackNext a y) word = dequeue.SwapTaker a y
dequeue_stage i turns (dequeue.SwapTaker a y) word = seen_taker i a y word
dequeue_stage i turns (dequeue.FlushTaker a y c) word = dequeue.BackTaker a y c
dequeue_stage i turns (dequeue.BackTaker a y c) word = dequeue.StoreResult a y c
dequeue_stage i turns (dequeue.StoreResult a y c) word = dequeue.FlushResult a y c
dequeue_stage i turns (dequeue.FlushResult a y c) word = dequeue.BackResult a y c
dequeue_stage i turns (dequeue.BackResult a y c) word = dequeue.SwapHead a y c
dequeue_stage i turns (dequeue.SwapHead a y c) word = passed_head i turns y c
dequeue_stage i turns (dequeue.LoadValue y) word = dequeue.Done word
dequeue_stage i turns dequeue.DoneEmpty word = dequeue.DoneEmpty
dequeue_stage i turns (dequeue.Done x) word = dequeue.Done x
dequeue_stage i turns dequeue.Torn word = dequeue.Torn

-- a moved head ends a turn
abbrev pub dequeue_turns : DequeueStage → ℕ → ℕ
dequeue_turns (dequeue.SwapHead a y c) turns = turns - 1
dequeue_turns _ turns = turns

-- the call after a step that answered this word
abbrev pub dequeue_next : Dequeue → ℕ → Dequeue
dequeue_next c word = record c { stage = dequeue_stage c.operation c.turns c.stage word; turns = dequeue_turns c.stage c.turns }

-- a step is left
abbrev pub DequeueGoes : DequeueStage → Type 0
DequeueGoes dequeue.DoneEmpty = ⊥
DequeueGoes (dequeue.Done x) = ⊥
DequeueGoes dequeue.Torn = ⊥
DequeueGoes _ = Unit {0}

-- how many steps are left at most, if the head is not moved for another
abbrev pub dequeue_steps : DequeueStage → ℕ
dequeue_steps dequeue.StoreAnnounce = 15
dequeue_steps dequeue.FlushAnnounce = 14
dequeue_steps dequeue.BackAnnounce = 13
dequeue_steps dequeue.LoadHead = 12
dequeue_steps (dequeue.LoadNext a) = 11
dequeue_steps dequeue.StoreEmpty = 3
dequeue_steps dequeue.FlushEmpty = 2
dequeue_steps dequeue.BackEmpty = 1
dequeue_steps (dequeue.FlushNext a y) = 10
dequeue_steps (dequeue.BackNext a y) = 9
dequeue_steps (dequeue.SwapTaker a y) = 8
dequeue_steps (dequeue.FlushTaker a y c) = 7
dequeue_steps (dequeue.BackTaker a y c) = 6
dequeue_steps (dequeue.StoreResult a y c) = 5
dequeue_steps (dequeue.FlushResult a y c) = 4
dequeue_steps (dequeue.BackResult a y c) = 3
dequeue_steps (dequeue.SwapHead a y c) = 2
dequeue_steps (dequeue.LoadValue y) = 1
dequeue_steps dequeue.DoneEmpty = 0
dequeue_steps (dequeue.Done x) = 0
dequeue_steps dequeue.Torn = 0

-- how many steps are left at most
abbrev pub dequeue_rank : Dequeue → ℕ
dequeue_rank c = 12 * c.turns + dequeue_steps c.stage

-- the words that the stage names have numbers that fit
abbrev pub DequeueStageFits : DequeueStage → Type 0
DequeueStageFits (dequeue.LoadNext a) = a < MOST_NODES
DequeueStageFits (dequeue.FlushNext a y) = (a < MOST_NODES) × (y < MOST_NODES)
DequeueStageFits (dequeue.BackNext a y) = (a < MOST_NODES) × (y < MOST_NODES)
DequeueStageFits (dequeue.SwapTaker a y) = (a < MOST_NODES) × (y < MOST_NODES)
DequeueStageFits (dequeue.FlushTaker a y c) = (a < MOST_NODES) × (y < MOST_NODES) × (c < MOST_NODES)
DequeueStageFits (dequeue.BackTaker a y c) = (a < MOST_NODES) × (y < MOST_NODES) × (c < MOST_NODES)
DequeueStageFits (dequeue.StoreResult a y c) = (a < MOST_NODES) × (y < MOST_NODES) × (c < MOST_NODES)
DequeueStageFits (dequeue.FlushResult a y c) = (a < MOST_NODES) × (y < MOST_NODES) × (c < MOST_NODES)
DequeueStageFits (dequeue.BackResult a y c) = (a < MOST_NODES) × (y < MOST_NODES) × (c < MOST_NODES)
DequeueStageFits (dequeue.SwapHead a y c) = (a < MOST_NODES) × (y < MOST_NODES) × (c < MOST_NODES)
DequeueStageFits (dequeue.LoadValue y) = y < MOST_NODES
DequeueStageFits _ = Unit {0}

-- the words of the call have numbers that fit
abbrev pub DequeueFits : Dequeue → Type 0
DequeueFits c = (c.process < MOST_NODES) × (c.operation < MOST_NODES) × DequeueStageFits c.stage

-- ---- recovery of process p, of the operation i that it announced

-- the access of each stage
abbrev pub recover_access_at : ℕ → ℕ → RecoverStage → Access ℕ
recover_access_at p i recover.LoadAnnounce = Load (announce_at p)
recover_access_at p i recover.FlushAnnounce = Flush (announce_at p)
recover_access_at p i recover.BackAnnounce = Back
recover_access_at p i recover.LoadTail = Load TAIL
recover_access_at p i (recover.FindNode a) = Load (next_at a)
recover_access_at p i (recover.FlushNext a) = Flush (next_at a)
recover_access_at p i (recover.BackNext a) = Back
recover_access_at p i recover.LoadLinked = Load (linked_at i)
recover_access_at p i recover.LoadHead = Load HEAD
recover_access_at p i (recover.FindNext a) = Load (next_at a)
recover_access_at p i (recover.LoadTaker a y) = Load (taker_at y)
recover_access_at p i (recover.FlushTaker a y) = Flush (taker_at y)
recover_access_at p i (recover.BackTaker a y) = Back
recover_access_at p i recover.LoadResult = Load (result_at i)
recover_access_at p i recover.FlushEmpty = Flush (result_at i)
recover_access_at p i recover.BackEmpty = Back
recover_access_at p i (recover.LoadValue y) = Load (value_at y)
recover_access_at p i (recover.Done f) = Nothing
recover_access_at p i recover.Torn = Nothing

-- the access of the next step
abbrev pub recover_access : Recover → Access ℕ
recover_access c = recover_access_at c.process (c.announced / 2) c.stage

-- what was announced decides where to look
abbrev pub by_kind : ℕ → RecoverStage
by_kind word = if word == 0 then recover.Done found.Nothing else if word % 2 == 0 then recover.LoadTail else recover.LoadHead

-- the walk for the node i, at the node a, meets the end, or i, or another node
abbrev pub found_next : ℕ → ℕ → ℕ → ℕ → RecoverStage
found_next i turns a word = if word == 0 then recover.LoadLinked else if word == i then recover.FlushNext a else if turns == 0 then recover.Torn else if nat_lt word MOST_NODES then recover.FindNode word else recover.Torn

-- the walk for a claim, at the node a, meets the end, or a node
abbrev pub found_claim : ℕ → ℕ → RecoverStage
found_claim a word = if word == 0 then recover.LoadResult else if nat_lt word MOST_NODES then recover.LoadTaker a word else recover.Torn

-- the node y is taken by none, or by i, or by another
abbrev pub found_taker : ℕ → ℕ → ℕ → ℕ → ℕ → RecoverStage
found_taker i turns a y word = if word == 0 then recover.LoadResult else if word == i then recover.FlushTaker a y else if turns == 0 then recover.Torn else recover.FindNext y

-- the result of a dequeue: none, EMPTY, or a node
abbrev pub found_result : ℕ → RecoverStage
found_result word = if word == 0 then recover.Done found.NotDequeued else if word == EMPTY then recover.FlushEmpty else if nat_lt word MOST_NODES then recover.LoadValue word else recover.Torn

-- the announcement is loaded
abbrev pub found_announced : ℕ → RecoverStage
found_announced word = if nat_lt word 33554432 then recover.FlushAnnounce else recover.Torn

-- the tail names this node
abbrev pub found_tail : ℕ → RecoverStage
found_tail word = if nat_lt word MOST_NODES then recover.FindNode word else recover.Torn

-- the head names this node
abbrev pub found_head : ℕ → RecoverStage
found_head word = if nat_lt word MOST_NODES then recover.FindNext word else recover.Torn

-- the evidence of an enqueue says whether it is linked
abbrev pub found_linked : ℕ → RecoverStage
found_linked word = if word == 0 then recover.Done found.NotEnqueued else recover.Done found.WasEnqueued

-- what comes after each stage, by the word that was seen
abbrev pub recover_stage : ℕ → ℕ → RecoverStage → ℕ → RecoverStage
recover_stage u turns recover.LoadAnnounce word = found_announced word
recover_stage u turns recover.FlushAnnounce word = recover.BackAnnounce
recover_stage u turns recover.BackAnnounce word = by_kind u
recover_stage u turns recover.LoadTail word = found_tail word
recover_stage u turns (recover.FindNode a) word = found_next (u / 2) turns a word
recover_stage u turns (recover.FlushNext a) word = recover.BackNext a
recover_stage u turns (recover.BackNext a) word = recover.Done found.WasEnqueued
recover_stage u turns recover.LoadLinked word = found_linked word
recover_stage u turns recover.LoadHead word = found_head word
recover_stage u turns (recover.FindNext a) word = found_claim a word
recover_stage u turns (recover.LoadTaker a y) word = found_taker (u / 2) turns a y word
recover_stage u turns (recover.FlushTaker a y) word = recover.BackTaker a y
recover_stage u turns (recover.BackTaker a y) word = recover.LoadValue y
recover_stage u turns recover.LoadResult word = found_result word
recover_stage u turns recover.FlushEmpty word = recover.BackEmpty
recover_stage u turns recover.BackEmpty word = recover.Done found.Empty
recover_stage u turns (recover.LoadValue y) word = recover.Done (found.Got word)
recover_stage u turns (recover.Done f) word = recover.Done f
recover_stage u turns recover.Torn word = recover.Torn

-- a node that was looked at ends a turn
abbrev pub recover_turns : RecoverStage → ℕ → ℕ
recover_turns (recover.FindNode a) turns = turns - 1
recover_turns (recover.LoadTaker a y) turns = turns - 1
recover_turns _ turns = turns

-- what was announced, once it is loaded
abbrev pub recover_announced : RecoverStage → ℕ → ℕ → ℕ
recover_announced recover.LoadAnnounce u word = if nat_lt word 33554432 then word else u
recover_announced _ u word = u

-- the call after a step that answered this word
abbrev pub recover_next : Recover → ℕ → Recover
recover_next c word = record c { stage = recover_stage c.announced c.turns c.stage word; turns = recover_turns c.stage c.turns; announced = recover_announced c.stage c.announced word }

-- a step is left
abbrev pub RecoverGoes : RecoverStage → Type 0
RecoverGoes (recover.Done f) = ⊥
RecoverGoes recover.Torn = ⊥
RecoverGoes _ = Unit {0}

-- how many steps are left at most, if the walk ends here
abbrev pub recover_steps : RecoverStage → ℕ
recover_steps recover.LoadAnnounce = 12
recover_steps recover.FlushAnnounce = 11
recover_steps recover.BackAnnounce = 10
recover_steps recover.LoadTail = 9
recover_steps (recover.FindNode a) = 8
recover_steps (recover.FlushNext a) = 2
recover_steps (recover.BackNext a) = 1
recover_steps recover.LoadLinked = 1
recover_steps recover.LoadHead = 9
recover_steps (recover.FindNext a) = 8
recover_steps (recover.LoadTaker a y) = 7
recover_steps (recover.FlushTaker a y) = 3
recover_steps (recover.BackTaker a y) = 2
recover_steps recover.LoadResult = 3
recover_steps recover.FlushEmpty = 2
recover_steps recover.BackEmpty = 1
recover_steps (recover.LoadValue y) = 1
recover_steps (recover.Done f) = 0
recover_steps recover.Torn = 0

-- how many steps are left at most
abbrev pub recover_rank : Recover → ℕ
recover_rank c = 2 * c.turns + recover_steps c.stage

-- the words that the stage names have numbers that fit
abbrev pub RecoverStageFits : RecoverStage → Type 0
RecoverStageFits (recover.FindNode a) = a < MOST_NODES
RecoverStageFits (recover.FlushNext a) = a < MOST_NODES
RecoverStageFits (recover.BackNext a) = a < MOST_NODES
RecoverStageFits (recover.FindNext a) = a < MOST_NODES
RecoverStageFits (recover.LoadTaker a y) = (a < MOST_NODES) × (y < MOST_NODES)
RecoverStageFits (recover.FlushTaker a y) = (a < MOST_NODES) × (y < MOST_NODES)
RecoverStageFits (recover.BackTaker a y) = (a < MOST_NODES) × (y < MOST_NODES)
RecoverStageFits (recover.LoadValue y) = y < MOST_NODES
RecoverStageFits _ = Unit {0}

-- the words of the call have numbers that fit
abbrev pub RecoverFits : Recover → Type 0
RecoverFits c = (c.process < MOST_NODES) × (c.announced < 33554432) × RecoverStageFits c.stage

-- ---- calls that may begin, among n processes

-- an enqueue of the value x, before its first step
abbrev pub first_enqueue : ℕ → ℕ → ℕ → ℕ → Enqueue
first_enqueue n p i x = record { process = p; operation = i; value = x; turns = nodes n; stage = enqueue.StoreValue }

-- a dequeue, before its first step
abbrev pub first_dequeue : ℕ → ℕ → ℕ → Dequeue
first_dequeue n p i = record { process = p; operation = i; turns = nodes n; stage = dequeue.StoreAnnounce }

-- a recovery, before its first step
abbrev pub first_recovery : ℕ → ℕ → Recover
first_recovery n p = record { process = p; announced = 0; turns = nodes n; stage = recover.LoadAnnounce }
