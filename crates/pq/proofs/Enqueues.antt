-- An enqueue keeps the queue sound, and tells the truth.
use Rattle.std.proofs.Common.{ℕ, suc, ◌≡◌, ◌≢◌, ◌⊎◌, ◌+◌, ◌*◌, ◌<◌, ◌≤◌, ◌==◌, refl, sym, ap, subst, ◌∙◌, inl, inr, arith, le_refl, le_trans, List, [], if◌then◌else◌, nat_lt, eq-eqb, ne_eqb}
use mathlib.Core.Logic.{dite}
use native.Mathlib.Decide.{ℕ_discrete}
use Rattle.ds_words.specs.declared.access.BufferEntry.{BufferEntry}
use Rattle.ds_words.specs.Memory.{Memory, SameMemory, Performs}
use Rattle.pm_base.specs.Structures.{In, Serves, Goes, KindBegins, AreCalls}
use Rattle.pm_base.proofs.Puts.{put_here, put_else}
use Rattle.pq.specs.Places.{Belongs, nodes, next_at, value_at, linked_at, announce_at}
use Rattle.pq.specs.Calls.{enqueue_access_at, enqueue_stage, enqueue_turns, help_enqueue, EnqueueGoes}
use Rattle.pq.specs.History.{Log, History, Has, HasNot, HasKept, added, kept_to, marked_to, linking, with_links, Side, Words, words_of, Both, Spent, Fresh}
use Rattle.pq.specs.Sound.{IsLog, IsSound}
use Rattle.pq.specs.Knows.{IsNode, IsLink, IsReady, KnowsEnqueue, Knows, IsInTime, EnqueueInTime, InTime, tail_place, buffer_at, enqueue_buffer, entry}
use Rattle.pq.specs.Queue.{LeavesOut, IsTrueResponse, enqueue_then, step_then, EnqueueEnds, enqueue_doing, enqueue_says, MayEnqueue, enqueues, queue}
use Rattle.pq.specs.declared.places.TheConstants.{MOST_NODES}
use Rattle.pq.specs.declared.enqueue.Enqueue.{Enqueue}
use Rattle.pq.specs.declared.enqueue.EnqueueStage.{EnqueueStage}
use Rattle.pq.specs.declared.enqueue.EnqueueStage.TheVariants as enqueue
use Rattle.pq.specs.declared.calls.Doing.{Doing}
use Rattle.pq.specs.declared.calls.Doing.TheVariants.{Idle, Enqueueing, Dequeueing, Recovering, Stopped, Torn}
use Rattle.pq.specs.declared.calls.Ended.{Ended}
use Rattle.pq.specs.declared.calls.Response.{Response}
use Rattle.pq.proofs.Numbers.{one_process, belongs_above, belongs_below, half_even}
use Rattle.pq.proofs.Logs.{place_of, log_fits, kept_at, node_at, pos_is, Extends, extends_same, extends_kept, extends_marked, extends_added}
use Rattle.pq.proofs.Sides.{stored, Persisted}
use Rattle.pq.proofs.Sound.{sound_persisted, sound_links_kept, sound_links_marked, sound_announced, sound_valued, sound_linked, sound_tail, sound_linking, is_last}
use Rattle.pq.proofs.Later.{Later, later_persisted, later_logs, later_announced, later_valued, later_linked, enqueue_stays, node_marked}
use Rattle.pq.proofs.Moves.{KindMoves, Queue, moved, Move, goes_on, one_back, back_persists, flushed_one, has_room, has_first, next_stored, value_stored, linked_stored, announce_stored, tail_stored}
use Rattle.pq.proofs.Acts.{if_true, if_false, less_true, loaded, flushed, backed, put_to}

-- a fresh operation is not in the list
pub fresh_none : (most p i : ℕ) (w : Words) (h : History) → IsSound most w h → Belongs p i → Fresh w.announce p i → HasNot h.links i
fresh_none most p i w h s mine f has =
    let r = place_of h.links i has in
    let spent : Spent w.announce p i = subst (Spent w.announce p) r.2 (s.spent_links p r.0 r.1 (subst (Belongs p) (sym r.2) mine)) in
    let x : 2 * i ≤ w.announce.now p = spent.0 in
    let y : w.announce.now p < 2 * i = f.0 in
    omega (arith, x, y)

-- an announcement of the operation spends it
pub spent_by : (w : Words) (p i u : ℕ) → 2 * i ≤ u → Both w.announce p u → Spent w.announce p i
spent_by w p i u up b = (subst (λ (z : ℕ). 2 * i ≤ z) (sym b.0) up, subst (λ (z : ℕ). 2 * i ≤ z) (sym b.1) up)

-- the nodes that the tail and the head name
pub tail_node : (most : ℕ) (w : Words) (h : History) → IsSound most w h → IsNode h.links (w.tail.now 0) h.links.count
tail_node most w h s =
    let o = s.tail (w.tail.now 0) (inl refl) in
    let up = le_trans o.1 (le_trans s.links.marks s.links.keeps) in
    node_at most h.links o.0 (w.tail.now 0) h.links.count s.links up up o.2

pub head_node : (most : ℕ) (w : Words) (h : History) → IsSound most w h → IsNode h.links (w.head.now 0) h.links.count
head_node most w h s =
    let o = s.head (w.head.now 0) (inl refl) in
    let up = le_trans o.1 (le_trans s.claims.marks (le_trans s.claims.keeps (le_trans s.follows s.links.keeps))) in
    node_at most h.links o.0 (w.head.now 0) h.links.count s.links up up o.2

abbrev call : ℕ → ℕ → ℕ → ℕ → EnqueueStage → Enqueue
call p i x t s = record { process = p; operation = i; value = x; turns = t; stage = s }

doing_is : (c : Enqueue) (s : EnqueueStage) → EnqueueGoes s → enqueue_doing c s ≡ Enqueueing c
doing_is c enqueue.StoreValue go = refl
doing_is c enqueue.FlushValue go = refl
doing_is c enqueue.BackValue go = refl
doing_is c enqueue.StoreAnnounce go = refl
doing_is c enqueue.FlushAnnounce go = refl
doing_is c enqueue.BackAnnounce go = refl
doing_is c enqueue.LoadTail go = refl
doing_is c (enqueue.LoadNext a) go = refl
doing_is c (enqueue.SwapNext a) go = refl
doing_is c (enqueue.FlushNext a y) go = refl
doing_is c (enqueue.BackNext a y) go = refl
doing_is c (enqueue.StoreLinked a y) go = refl
doing_is c (enqueue.FlushLinked a y) go = refl
doing_is c (enqueue.BackLinked a y) go = refl
doing_is c (enqueue.SwapTail a y) go = refl
doing_is c enqueue.Done go = absurd go
doing_is c enqueue.Torn go = absurd go

leaves_out : (p i x t j : ℕ) (s : EnqueueStage) → i ≢ j → LeavesOut j (enqueue_doing (call p i x t s) s)
leaves_out p i x t j enqueue.StoreValue ne = ne
leaves_out p i x t j enqueue.FlushValue ne = ne
leaves_out p i x t j enqueue.BackValue ne = ne
leaves_out p i x t j enqueue.StoreAnnounce ne = ne
leaves_out p i x t j enqueue.FlushAnnounce ne = ne
leaves_out p i x t j enqueue.BackAnnounce ne = ne
leaves_out p i x t j enqueue.LoadTail ne = ne
leaves_out p i x t j (enqueue.LoadNext a) ne = ne
leaves_out p i x t j (enqueue.SwapNext a) ne = ne
leaves_out p i x t j (enqueue.FlushNext a y) ne = ne
leaves_out p i x t j (enqueue.BackNext a y) ne = ne
leaves_out p i x t j (enqueue.StoreLinked a y) ne = ne
leaves_out p i x t j (enqueue.FlushLinked a y) ne = ne
leaves_out p i x t j (enqueue.BackLinked a y) ne = ne
leaves_out p i x t j (enqueue.SwapTail a y) ne = ne
leaves_out p i x t j enqueue.Done ne = tt
leaves_out p i x t j enqueue.Torn ne = tt

module _ (n : ℕ) (w : Queue) (p i x t : ℕ) (m2 : Memory ℕ) (answer : ℕ) (few : n < 16384) (low : p < n) (mine : Belongs p i) (sound : IsSound (nodes n) (words_of w.memory) w.hidden) where
  abbrev m : Memory ℕ
  m = w.memory

  abbrev v : Words
  v = words_of w.memory

  abbrev h : History
  h = w.hidden

  abbrev most : ℕ
  most = nodes n

  -- the process comes to this stage, with this history
  abbrev Reaches : ℕ → EnqueueStage → History → Type 0
  Reaches u s g = Move n w p m2 (enqueue_doing (call p i x u s) s) (enqueue_says (call p i x u s) s) g

  apart : (q j : ℕ) → q ≢ p → Belongs q j → j ≢ i
  apart q j ne b same = ne (one_process q p i (subst (Belongs q) same b) mine)

  above : i ≢ 0
  above z = (let a = belongs_above p i mine in omega (arith, a, z))

  below : i < nodes n
  below = belongs_below n p i mine low

  fits : (k : ℕ) → k < nodes n → k < MOST_NODES
  fits k l = omega (arith, l, few)

  suc_apart : p ≢ suc p
  suc_apart e = omega (arith, e)

  module _ (stage : EnqueueStage) (at : w.situation p ≡ Enqueueing (call p i x t stage)) where
    leaves : (u : ℕ) (s : EnqueueStage) (j : ℕ) → Belongs p j → Spent v.announce p j → LeavesOut j (w.situation p) → (j ≢ i) × LeavesOut j (enqueue_doing (call p i x u s) s)
    leaves u s j b sp out =
        let ne : i ≢ j = subst (LeavesOut j) at out in
        ((λ e. ne (sym e)), leaves_out p i x u j s ne)

  -- what is known of the others stays so for the process itself, where words are written back
  kept_knowledge : (g : History) (stage : EnqueueStage) → Persisted v (words_of m2) → Extends h.links g.links 0 → Extends h.claims g.claims 0 → g.value ≡ h.value → g.empty ≡ h.empty → KnowsEnqueue v h p i x stage → KnowsEnqueue (words_of m2) g p i x stage
  kept_knowledge g stage e l c val em k = enqueue_stays most 0 (suc p) v h (words_of m2) g sound (later_persisted 0 (suc p) v (words_of m2) h g e l c val em) p suc_apart i mine above x stage k

  ready_next : (next taker tail head linked : Side) → IsReady v p i x → IsReady (record { next = next; taker = taker; value = v.value; linked = linked; result = v.result; announce = v.announce; tail = tail; head = head }) p i x
  ready_next next taker tail head linked r = record { announce = r.announce; value = r.value }

  -- a node is seen after the tail
  seen : (a : ℕ) → (at : w.situation p ≡ Enqueueing (call p i x t (enqueue.LoadNext a)) ⊎ (w.situation p ≡ Enqueueing (call p i x t (enqueue.SwapNext a)))) → IsReady v p i x → HasNot h.links i → IsNode h.links a h.links.marked → m.buffer p ≡ [] → answer ≡ v.next.now a → answer ≢ 0 → SameMemory m m2 → IsInTime (h.links.pos a) (tail_place v h) most t
      → Reaches t (help_enqueue a answer) h
  seen a at r none node free is nz same time =
      let up = node.within in
      let c1 = sound.links.marks in
      let c2 = sound.links.keeps in
      let real : a < nodes n = subst (λ (z : ℕ). z < nodes n) node.node (sound.links.real (h.links.pos a) (omega (arith, up, c1, c2))) in
      let o = sound.next.only a answer real (inl (sym is)) nz in
      let k : ℕ = o.0 in
      let lk : k < h.links.count = o.1 in
      let pos : h.links.pos a ≡ k = pos_is most h.links k a sound.links (omega (arith, lk)) (sym o.2) in
      let link : IsLink h.links a answer h.links.count = record { node = node.node; link = ap (λ z. h.links.at (suc z)) pos ∙ sym o.3; within = omega (arith, pos, lk) } in
      let low_answer : answer < nodes n = subst (λ (z : ℕ). z < nodes n) (sym o.3) (sound.links.real (suc k) (omega (arith, lk))) in
      let lv : (j : ℕ) → Belongs p j → Spent v.announce p j → LeavesOut j (w.situation p) → (j ≢ i) × LeavesOut j (Enqueueing (call p i x t (enqueue.FlushNext a answer))) = elim at [
        | inl e ↦ leaves (enqueue.LoadNext a) e t (enqueue.FlushNext a answer)
        | inr e ↦ leaves (enqueue.SwapNext a) e t (enqueue.FlushNext a answer)
      ] in
      subst (λ (s : EnqueueStage). Reaches t s h) (if_true (nat_lt answer MOST_NODES) _ _ (less_true answer MOST_NODES (fits answer low_answer)))
      (loaded n w p m2 _ _ i sound apart lv same free (refl, mine, (r, inr none, node, link)) (λ u none2. absurd none2) time)

  -- the tail names the node after a
  next_place : (a y : ℕ) → IsLink h.links a y h.links.marked → tail_place (record v { tail = stored v.tail 0 y }) h ≡ suc (h.links.pos a)
  next_place a y link =
      let lw = link.within in
      let c = le_trans sound.links.marks sound.links.keeps in
      ap h.links.pos (put_here v.tail.now 0 y 0 refl) ∙ pos_is most h.links (suc (h.links.pos a)) y sound.links (omega (arith, lw, c)) link.link

  -- the tail is moved, or another process moved it
  tail_moves : (a y : ℕ) (s2 : EnqueueStage) (u : ℕ) → w.situation p ≡ Enqueueing (call p i x t (enqueue.SwapTail a y)) → KnowsEnqueue v h p i x (enqueue.SwapTail a y) → Performs (queue.class_in n) (enqueue_access_at p i x (enqueue.SwapTail a y)) p m m2 answer
      → m.buffer p ≡ buffer_at p (enqueue_doing (call p i x u s2) s2) → ((z : Words) → IsReady z p i x → Knows z h p (enqueue_doing (call p i x u s2) s2)) → ((z : Words) (returned : Response) → In (enqueue_says (call p i x u s2) s2) returned → IsTrueResponse z h p (enqueue_doing (call p i x u s2) s2) returned) → h.links.pos a ≤ tail_place v h → ((z : Words) → suc (h.links.pos a) ≤ tail_place z h → InTime most z h (enqueue_doing (call p i x u s2) s2)) → Reaches u s2 h
  tail_moves a y s2 u at k perf free knows tells reached time = elim perf.1 [
    | inl hit ↦ put_to n w p m2 _ _ i sound apart (leaves (enqueue.SwapTail a y) at u s2) _ _ (record v { tail = stored v.tail 0 y }) h hit.1 (tail_stored m m2 0 y hit.1)
        (sound_tail most v h (suc (h.links.pos a)) y sound (let b = k.3.within in omega (arith, b)) (sym k.3.link))
        (later_logs i p v h h v.next v.taker (stored v.tail 0 y) v.head (extends_same h.links i) (extends_same h.claims i) (λ j has. refl) (λ j inside. inside)) free
        (knows (record v { tail = stored v.tail 0 y }) (record { announce = k.0.announce; value = k.0.value })) (tells (record v { tail = stored v.tail 0 y })) (time (record v { tail = stored v.tail 0 y }) (omega (arith, next_place a y k.3))) (let e : tail_place v h ≡ h.links.pos a = ap h.links.pos (sym perf.0 ∙ hit.0) in let f = next_place a y k.3 in omega (arith, e, f)) (le_refl _)
    | inr miss ↦ loaded n w p m2 _ _ i sound apart (leaves (enqueue.SwapTail a y) at u s2) miss.1 free (knows v k.0) (tells v) (time v (dite (ℕ_discrete (tail_place v h) (h.links.pos a))
        (λ same. absurd (miss.0 (perf.0 ∙ (sym (tail_node most v h sound).node ∙ (ap h.links.at same ∙ k.3.node)))))
        (λ ne. omega (arith, ne, reached))))
  ]

  moves : (stage : EnqueueStage) → w.situation p ≡ Enqueueing (call p i x t stage) → EnqueueGoes stage → KnowsEnqueue v h p i x stage → EnqueueInTime most h.links.pos (tail_place v h) t stage → m.buffer p ≡ enqueue_buffer p i x stage → Performs (queue.class_in n) (enqueue_access_at p i x stage) p m m2 answer
      → Reaches (enqueue_turns stage t) (enqueue_stage i t stage answer) (enqueue_then h v i x stage)
  moves enqueue.StoreValue at go k time free perf =
      let none = fresh_none most p i v h sound mine k in
      put_to n w p m2 _ _ i sound apart (leaves enqueue.StoreValue at t enqueue.FlushValue) _ _ _ h perf.1 (value_stored m m2 i x perf.1) (sound_valued most v h i x sound none)
      (later_valued most i p v h (extends_same h.links i) (extends_same h.claims i) i x mine) free (refl, mine, (k, put_here v.value.now i x i refl)) (λ u none2. absurd none2) time (le_refl _) (le_refl _)
  moves enqueue.FlushValue at go k time free perf =
      flushed n w p m2 _ _ i sound apart (leaves enqueue.FlushValue at t enqueue.BackValue) _ perf.1 (flushed_one p (value_at i) x m m2 free k.1 perf.1) (refl, mine, k) (λ u none. absurd none) time
  moves enqueue.BackValue at go k time free perf =
      let b = one_back p m m2 (entry (value_at i) x) free perf.1 in
      let e = back_persists p (value_at i) x m m2 k.1 b in
      let k2 = kept_knowledge h enqueue.BackValue e (extends_same h.links 0) (extends_same h.claims 0) refl refl k in
      backed n w p m2 _ _ i sound apart (leaves enqueue.BackValue at t enqueue.StoreAnnounce) _ x h b e (sound_persisted most v (words_of m2) h sound e) (extends_same h.links i) (extends_same h.claims i) refl refl refl
      (refl, mine, (k2.0, (k2.1, b.there))) (λ u none. absurd none) refl time
  moves enqueue.StoreAnnounce at go k time free perf =
      let none = fresh_none most p i v h sound mine k.0 in
      let up : v.announce.now p ≤ 2 * i = (let a = k.0.0 in omega (arith, a)) in
      put_to n w p m2 _ _ i sound apart (leaves enqueue.StoreAnnounce at t enqueue.FlushAnnounce) _ _ _ h perf.1 (announce_stored m m2 p (2 * i) perf.1) (sound_announced most v h p (2 * i) sound up (subst (Belongs p) (sym (half_even i)) mine))
      (later_announced most i p v h (extends_same h.links i) (extends_same h.claims i) (2 * i) up) free (refl, mine, (put_here v.announce.now p (2 * i) p refl, k.1, none)) (λ u none2. absurd none2) time (le_refl _) (le_refl _)
  moves enqueue.FlushAnnounce at go k time free perf =
      flushed n w p m2 _ _ i sound apart (leaves enqueue.FlushAnnounce at t enqueue.BackAnnounce) _ perf.1 (flushed_one p (announce_at p) (2 * i) m m2 free k.0 perf.1) (refl, mine, k) (λ u none. absurd none) time
  moves enqueue.BackAnnounce at go k time free perf =
      let b = one_back p m m2 (entry (announce_at p) (2 * i)) free perf.1 in
      let e = back_persists p (announce_at p) (2 * i) m m2 k.0 b in
      let k2 = kept_knowledge h enqueue.BackAnnounce e (extends_same h.links 0) (extends_same h.claims 0) refl refl k in
      backed n w p m2 _ _ i sound apart (leaves enqueue.BackAnnounce at t enqueue.LoadTail) _ (2 * i) h b e (sound_persisted most v (words_of m2) h sound e) (extends_same h.links i) (extends_same h.claims i) refl refl refl
      (refl, mine, (record { announce = (k2.0, b.there); value = k2.1 }, k2.2)) (λ u none. absurd none) refl (omega (arith, time))
  moves enqueue.LoadTail at go k time free perf =
      let same_place : h.links.pos answer ≡ tail_place v h = ap h.links.pos perf.0 in
      let o = sound.tail answer (inl (sym perf.0)) in
      let up = o.1 in
      let c1 = sound.links.marks in
      let c2 = sound.links.keeps in
      let under : o.0 ≤ h.links.count = omega (arith, up, c1, c2) in
      let node : IsNode h.links answer h.links.marked = node_at most h.links o.0 answer h.links.marked sound.links under up o.2 in
      let real : answer < nodes n = subst (λ (z : ℕ). z < nodes n) (sym o.2) (sound.links.real o.0 under) in
      subst (λ (s : EnqueueStage). Reaches t s h) (if_true (nat_lt answer MOST_NODES) (enqueue.LoadNext answer) enqueue.Torn (less_true answer MOST_NODES (fits answer real)))
      (loaded n w p m2 _ _ i sound apart (leaves enqueue.LoadTail at t (enqueue.LoadNext answer)) perf.1 free (refl, mine, (k.0, k.1, node)) (λ u none. absurd none) (record { reached = omega (arith, same_place); enough = omega (arith, same_place, time) }))
  moves (enqueue.LoadNext a) at go k time free perf = dite (ℕ_discrete answer 0)
      (λ z. subst (λ (s : EnqueueStage). Reaches t s h) (if_true (answer == 0) (enqueue.SwapNext a) (help_enqueue a answer) (eq-eqb answer 0 z))
      (loaded n w p m2 _ _ i sound apart (leaves (enqueue.LoadNext a) at t (enqueue.SwapNext a)) perf.1 free (refl, mine, k) (λ u none. absurd none) time))
      (λ nz. subst (λ (s : EnqueueStage). Reaches t s h) (if_false (answer == 0) (enqueue.SwapNext a) (help_enqueue a answer) (ne_eqb answer 0 nz))
      (seen a (inl at) k.0 k.1 k.2 free perf.0 nz perf.1 time))
  moves (enqueue.SwapNext a) at go k time free perf = elim perf.1 [
    | inl hit ↦ (
        let zero_now : v.next.now a ≡ 0 = sym perf.0 ∙ hit.0 in
        let spent = spent_by v p i (2 * i) (le_refl _) k.0.announce in
        let s2 = sound_linking most v h p a i x sound k.2 zero_now k.1 above below mine k.0.value spent in
        let e = extends_added most h.links i sound.links k.1 above in
        let last : h.links.pos a ≡ h.links.count = is_last most v h a h.links.marked sound (le_trans sound.links.marks sound.links.keeps) k.2 zero_now in
        let later : Later i p v h (record v { next = stored v.next a i }) (linking h i x) = later_logs i p v h (linking h i x) (stored v.next a i) v.taker v.tail v.head e (extends_same h.claims i)
        (λ j has. put_else h.value i x j (λ same. k.1 (subst (Has h.links) same has))) (λ j inside. inside) in
        let node : IsNode (added h.links i) a h.links.marked = node_marked most i p v h (record v { next = stored v.next a i }) (linking h i x) sound later a k.2 in
        let pos : (added h.links i).pos a ≡ h.links.count = e.pos a k.2.node (let b = k.2.within in let c = le_trans sound.links.marks sound.links.keeps in omega (arith, b, c)) ∙ last in
        let link : IsLink (added h.links i) a i (suc h.links.count) = record { node = node.node; link = put_here h.links.at (suc h.links.count) i (suc ((added h.links i).pos a)) (ap suc pos); within = omega (arith, pos) } in
        let where_tail = tail_node most v h sound in
        let where_head = head_node most v h sound in
        let same_a : (added h.links i).pos a ≡ h.links.pos a = e.pos a k.2.node (le_trans k.2.within (le_trans sound.links.marks sound.links.keeps)) in
        let same_tail : (added h.links i).pos (v.tail.now 0) ≡ h.links.pos (v.tail.now 0) = e.pos (v.tail.now 0) where_tail.node where_tail.within in
        let same_head : (added h.links i).pos (v.head.now 0) ≡ h.links.pos (v.head.now 0) = e.pos (v.head.now 0) where_head.node where_head.within in
        let x1 = time.reached in
        let x2 = time.enough in
        let time2 : IsInTime ((added h.links i).pos a) ((added h.links i).pos (v.tail.now 0)) most t = record { reached = omega (arith, x1, same_a, same_tail); enough = omega (arith, x2, same_a) } in
        let tails : h.links.pos (v.tail.now 0) ≤ (added h.links i).pos (v.tail.now 0) = omega (arith, same_tail) in
        let heads : h.links.pos (v.head.now 0) ≤ (added h.links i).pos (v.head.now 0) = omega (arith, same_head) in
        subst (λ (z : EnqueueStage × History). Reaches t z.0 z.1) (λ j. (if_true (answer == 0) (enqueue.FlushNext a i) (help_enqueue a answer) (eq-eqb answer 0 hit.0) j, if_true (v.next.now a == 0) (linking h i x) h (eq-eqb (v.next.now a) 0 zero_now) j))
        (put_to n w p m2 _ _ i sound apart (leaves (enqueue.SwapNext a) at t (enqueue.FlushNext a i)) _ _ _ (linking h i x) hit.1 (next_stored m m2 a i hit.1) s2 later free
        (refl, mine, (record { announce = k.0.announce; value = k.0.value }, inl refl, node, link)) (λ u none. absurd none) time2 tails heads))
    | inr miss ↦ (
        let nz : v.next.now a ≢ 0 = λ z. miss.0 (perf.0 ∙ z) in
        subst (λ (z : EnqueueStage × History). Reaches t z.0 z.1) (λ j. (if_false (answer == 0) (enqueue.FlushNext a i) (help_enqueue a answer) (ne_eqb answer 0 miss.0) j, if_false (v.next.now a == 0) (linking h i x) h (ne_eqb (v.next.now a) 0 nz) j))
        (seen a (inr at) k.0 k.1 k.2 free perf.0 miss.0 miss.1 time))
  ]
  moves (enqueue.FlushNext a y) at go k time free perf =
      let is : v.next.now a ≡ y = ap v.next.now (sym k.3.node) ∙ (sound.next.cached (h.links.pos a) k.3.within ∙ k.3.link) in
      flushed n w p m2 _ _ i sound apart (leaves (enqueue.FlushNext a y) at t (enqueue.BackNext a y)) _ perf.1 (flushed_one p (next_at a) y m m2 free is perf.1) (refl, mine, k) (λ u none. absurd none) time
  moves (enqueue.BackNext a y) at go k time free perf =
      let is : v.next.now a ≡ y = ap v.next.now (sym k.3.node) ∙ (sound.next.cached (h.links.pos a) k.3.within ∙ k.3.link) in
      let b = one_back p m m2 (entry (next_at a) y) free perf.1 in
      let e = back_persists p (next_at a) y m m2 is b in
      let g : History = with_links h (kept_to h.links (suc (h.links.pos a))) in
      let there : (words_of m2).next.kept (h.links.at (h.links.pos a)) ≡ h.links.at (suc (h.links.pos a)) = ap (words_of m2).next.kept k.3.node ∙ (b.there ∙ sym k.3.link) in
      let s2 = sound_links_kept most (words_of m2) h (h.links.pos a) (sound_persisted most v (words_of m2) h sound e) k.3.within there in
      let k2 = kept_knowledge g (enqueue.BackNext a y) e (extends_kept h.links (suc (h.links.pos a)) 0) (extends_same h.claims 0) refl refl k in
      backed n w p m2 _ _ i sound apart (leaves (enqueue.BackNext a y) at t (enqueue.StoreLinked a y)) _ y g b e s2 (extends_kept h.links (suc (h.links.pos a)) i) (extends_same h.claims i) refl refl refl
      (refl, mine, (k2.0, k2.1, k2.2, record { node = k2.3.node; link = k2.3.link; within = omega arith })) (λ u none. absurd none) refl time
  moves (enqueue.StoreLinked a y) at go k time free perf =
      put_to n w p m2 _ _ i sound apart (leaves (enqueue.StoreLinked a y) at t (enqueue.FlushLinked a y)) _ _ _ h perf.1 (linked_stored m m2 y 1 perf.1) (sound_linked most v h (h.links.pos a) y sound k.3.within (sym k.3.link))
      (later_linked most i p v h (extends_same h.links i) (extends_same h.claims i) y) free (refl, mine, (record { announce = k.0.announce; value = k.0.value }, k.1, k.2, k.3, put_here v.linked.now y 1 y refl)) (λ u none. absurd none) time (le_refl _) (le_refl _)
  moves (enqueue.FlushLinked a y) at go k time free perf =
      flushed n w p m2 _ _ i sound apart (leaves (enqueue.FlushLinked a y) at t (enqueue.BackLinked a y)) _ perf.1 (flushed_one p (linked_at y) 1 m m2 free k.4 perf.1) (refl, mine, k) (λ u none. absurd none) time
  moves (enqueue.BackLinked a y) at go k time free perf =
      let b = one_back p m m2 (entry (linked_at y) 1) free perf.1 in
      let e = back_persists p (linked_at y) 1 m m2 k.4 b in
      let g : History = with_links h (marked_to h.links (suc (h.links.pos a))) in
      let k1 = kept_knowledge h (enqueue.BackLinked a y) e (extends_same h.links 0) (extends_same h.claims 0) refl refl k in
      let both : Both (words_of m2).linked (h.links.at (suc (h.links.pos a))) 1 = subst (λ (z : ℕ). Both (words_of m2).linked z 1) (sym k.3.link) (k1.4, b.there) in
      let s2 = sound_links_marked most (words_of m2) h (h.links.pos a) (sound_persisted most v (words_of m2) h sound e) k.3.within k.2.within both in
      let k2 = kept_knowledge g (enqueue.BackLinked a y) e (extends_marked h.links (suc (h.links.pos a)) 0) (extends_same h.claims 0) refl refl k in
      backed n w p m2 _ _ i sound apart (leaves (enqueue.BackLinked a y) at t (enqueue.SwapTail a y)) _ 1 g b e s2 (extends_marked h.links (suc (h.links.pos a)) i) (extends_same h.claims i) refl refl refl
      (refl, mine, (k2.0, k2.1, k2.2, record { node = k2.3.node; link = k2.3.link; within = omega arith })) (λ u none. absurd none) refl time
  moves (enqueue.SwapTail a y) at go k time free perf = dite (ℕ_discrete y i)
      (λ own.
      let lw = k.3.within in
      let c1 = sound.links.marks in
      let c2 = sound.links.keeps in
      let link : h.links.at (suc (h.links.pos a)) ≡ i = k.3.link ∙ own in
      let kept : HasKept h.links i = subst (HasKept h.links) link (kept_at most h.links (h.links.pos a) sound.links (omega (arith, lw, c1))) in
      let val : h.value i ≡ x = sym (subst (λ (z : ℕ). Both v.value z (h.value z)) link (sound.value (h.links.pos a) (omega (arith, lw, c1, c2)))).0 ∙ k.0.value.0 in
      subst (λ (s : EnqueueStage). Reaches (enqueue_turns (enqueue.SwapTail a y) t) s h) (if_true (y == i) enqueue.Done (if t == 0 then enqueue.Torn else enqueue.LoadTail) (eq-eqb y i own))
      (tail_moves a y enqueue.Done (enqueue_turns (enqueue.SwapTail a y) t) at k perf free (λ z r. r.announce)
      (λ z returned inside. elim inside [
        | inl e ↦ subst (IsTrueResponse z h p (Idle (2 * i))) e (kept, val)
        | inr none ↦ absurd none
      ]) time.reached (λ z up. tt)))
      (λ ne.
      let none : HasNot h.links i = elim k.1 [
        | inl same ↦ absurd (ne same)
        | inr none ↦ none
      ] in
      subst (λ (s : EnqueueStage). Reaches (enqueue_turns (enqueue.SwapTail a y) t) s h) (if_false (y == i) enqueue.Done (if t == 0 then enqueue.Torn else enqueue.LoadTail) (ne_eqb y i ne)) (dite (ℕ_discrete t 0)
      (λ over. absurd (let x = time.enough in let c1 = k.3.within in let c2 = le_trans sound.links.marks sound.links.keeps in let c3 = log_fits most h.links sound.links in omega (arith, x, over, c1, c2, c3)))
      (λ more. subst (λ (s : EnqueueStage). Reaches (enqueue_turns (enqueue.SwapTail a y) t) s h) (if_false (t == 0) enqueue.Torn enqueue.LoadTail (ne_eqb t 0 more))
      (tail_moves a y enqueue.LoadTail (enqueue_turns (enqueue.SwapTail a y) t) at k perf free (λ z r. (refl, mine, (r, none))) (λ z returned none2. absurd none2) time.reached (λ z up. (let x = time.enough in omega (arith, x, up, more)))))))
  moves enqueue.Done at go k time free perf = absurd go
  moves enqueue.Torn at go k time free perf = absurd go

-- ---- what it is served

pub node_real : (most a m : ℕ) (log : Log) → IsLog most log → m ≤ log.count → IsNode log a m → a < most
node_real most a m log l up n = subst (λ (z : ℕ). z < most) n.node (l.real (log.pos a) (le_trans n.within up))

pub link_real : (most a y m : ℕ) (log : Log) → IsLog most log → m ≤ log.count → IsLink log a y m → (a < most) × (y < most)
link_real most a y m log l up n =
    let b = n.within in (
      subst (λ (z : ℕ). z < most) n.node (l.real (log.pos a) (omega (arith, b, up))),
      subst (λ (z : ℕ). z < most) n.link (l.real (suc (log.pos a)) (omega (arith, b, up))),
    )

pub place_fits : (most a kind : ℕ) → a < most → kind < 8 → 8 * a + kind < 8 * most
place_fits most a kind l k = omega (arith, l, k)

pub process_fits : (n p : ℕ) → p < n → 8 * p + 5 < 8 * nodes n
process_fits n p l = omega (arith, l)

pub anchor_fits : (n k : ℕ) → k < 8 → k < 8 * nodes n
anchor_fits n k l = omega (arith, l)

served : (n p i x : ℕ) (v : Words) (h : History) (b : List (BufferEntry ℕ)) (s : EnqueueStage) → IsSound (nodes n) v h → p < n → i < nodes n → EnqueueGoes s → KnowsEnqueue v h p i x s → b ≡ enqueue_buffer p i x s → Serves (8 * nodes n) (enqueue_access_at p i x s) b
served n p i x v h b enqueue.StoreValue sound low real go k is = place_fits (nodes n) i 2 real (omega arith)
served n p i x v h b enqueue.FlushValue sound low real go k is = (place_fits (nodes n) i 2 real (omega arith), has_room b is)
served n p i x v h b enqueue.BackValue sound low real go k is = has_first (8 * nodes n) (value_at i) x b (place_fits (nodes n) i 2 real (omega arith)) is
served n p i x v h b enqueue.StoreAnnounce sound low real go k is = process_fits n p low
served n p i x v h b enqueue.FlushAnnounce sound low real go k is = (process_fits n p low, has_room b is)
served n p i x v h b enqueue.BackAnnounce sound low real go k is = has_first (8 * nodes n) (announce_at p) (2 * i) b (process_fits n p low) is
served n p i x v h b enqueue.LoadTail sound low real go k is = anchor_fits n 6 (omega arith)
served n p i x v h b (enqueue.LoadNext a) sound low real go k is = place_fits (nodes n) a 0 (node_real (nodes n) a _ h.links sound.links (le_trans sound.links.marks sound.links.keeps) k.2) (omega arith)
served n p i x v h b (enqueue.SwapNext a) sound low real go k is = place_fits (nodes n) a 0 (node_real (nodes n) a _ h.links sound.links (le_trans sound.links.marks sound.links.keeps) k.2) (omega arith)
served n p i x v h b (enqueue.FlushNext a y) sound low real go k is = (place_fits (nodes n) a 0 (link_real (nodes n) a y _ h.links sound.links (le_refl _) k.3).0 (omega arith), has_room b is)
served n p i x v h b (enqueue.BackNext a y) sound low real go k is = has_first (8 * nodes n) (next_at a) y b (place_fits (nodes n) a 0 (link_real (nodes n) a y _ h.links sound.links (le_refl _) k.3).0 (omega arith)) is
served n p i x v h b (enqueue.StoreLinked a y) sound low real go k is = place_fits (nodes n) y 3 (link_real (nodes n) a y _ h.links sound.links sound.links.keeps k.3).1 (omega arith)
served n p i x v h b (enqueue.FlushLinked a y) sound low real go k is = (place_fits (nodes n) y 3 (link_real (nodes n) a y _ h.links sound.links sound.links.keeps k.3).1 (omega arith), has_room b is)
served n p i x v h b (enqueue.BackLinked a y) sound low real go k is = has_first (8 * nodes n) (linked_at y) 1 b (place_fits (nodes n) y 3 (link_real (nodes n) a y _ h.links sound.links sound.links.keeps k.3).1 (omega arith)) is
served n p i x v h b (enqueue.SwapTail a y) sound low real go k is = anchor_fits n 6 (omega arith)
served n p i x v h b enqueue.Done sound low real go k is = absurd go
served n p i x v h b enqueue.Torn sound low real go k is = absurd go

-- ---- the calls

-- the process is in this call
stands : (n : ℕ) (w : Queue) (c : Enqueue) → queue.sound n w → c.process < n → w.situation c.process ≡ enqueue_doing c c.stage → EnqueueGoes c.stage
    → (w.situation c.process ≡ Enqueueing c) × KnowsEnqueue (words_of w.memory) w.hidden c.process c.operation c.value c.stage × (w.memory.buffer c.process ≡ enqueue_buffer c.process c.operation c.value c.stage)
    × EnqueueInTime (nodes n) w.hidden.links.pos (tail_place (words_of w.memory) w.hidden) c.turns c.stage
stands n w c sound low at go =
    let is : w.situation c.process ≡ Enqueueing c = at ∙ doing_is c c.stage go in
    let s = sound.1 c.process low in
    let k : Knows (words_of w.memory) w.hidden c.process (Enqueueing c) = subst (Knows (words_of w.memory) w.hidden c.process) is s.0 in
    (is, k.2, s.1 ∙ ap (buffer_at c.process) is, subst (InTime (nodes n) (words_of w.memory) w.hidden) is s.2)

-- where it may begin, its number is fresh, and nothing is under way
free_to : (n : ℕ) (v : Words) (h : History) (p : ℕ) (now : Doing) (c : Enqueue) → Knows v h p now → MayEnqueue n now c → Fresh v.announce p c.operation × (c.stage ≡ enqueue.StoreValue) × (buffer_at p now ≡ []) × (nodes n ≤ c.turns)
free_to n v h p (Idle u) c k may = ((let a = k.0 in let b = may.0 in omega (arith, a, b), let a = k.1 in let b = may.0 in omega (arith, a, b)), may.1, refl, may.2)
free_to n v h p (Enqueueing d) c k may = absurd may
free_to n v h p (Dequeueing d) c k may = absurd may
free_to n v h p (Recovering d) c k may = absurd may
free_to n v h p Stopped c k may = absurd may
free_to n v h p Torn c k may = absurd may

pub enqueue_begins : (n : ℕ) → KindBegins queue n enqueues
enqueue_begins n w c sound low fits go may =
    let p : ℕ = c.process in
    let i : ℕ = c.operation in
    let f = free_to n (words_of w.memory) w.hidden p (w.situation p) c (sound.1 p low).0 may in
    let free : w.memory.buffer p ≡ [] = (sound.1 p low).1 ∙ f.2 in
    let same : SameMemory w.memory w.memory = record { cached = λ r. refl; persisted = λ r. refl; buffer = λ q. refl } in
    let d : Move n w p w.memory (Enqueueing c) [] w.hidden = loaded n w p w.memory (Enqueueing c) [] i sound.0
    (λ q j ne b e. ne (one_process q p i (subst (Belongs q) e b) fits.2))
    (λ j b sp out. let ne : j ≢ i = λ e. (let a : 2 * j ≤ (words_of w.memory).announce.now p = sp.0 in let b2 : (words_of w.memory).announce.now p < 2 * i = f.0.0 in omega (arith, a, b2, e)) in (ne, (λ e. ne (sym e))))
    same (free ∙ subst (λ (s : EnqueueStage). [] ≡ enqueue_buffer p i c.value s) (sym f.1) refl)
    (refl, fits.2, subst (KnowsEnqueue (words_of w.memory) w.hidden p i c.value) (sym f.1) f.0) (λ t none. absurd none) (subst (EnqueueInTime (nodes n) w.hidden.links.pos (tail_place (words_of w.memory) w.hidden) c.turns) (sym f.1) f.3) in
    let g = goes_on n w p w.memory (Enqueueing c) [] w.hidden sound low d in
    subst (λ (z : Doing). Goes queue n w (moved w w.memory p z w.hidden)) (sym (doing_is c c.stage go)) (record { sound = g.sound; keeps = g.keeps })

pub enqueue_moves : (n : ℕ) → KindMoves n enqueues
enqueue_moves n w c m2 answer sound low at fits go perf =
    let k = stands n w c sound low at go in
    let d = moves n w c.process c.operation c.value c.turns m2 answer fits.0 low fits.2 sound.0 c.stage k.0 go k.1 k.3 k.2 perf in
    let then_is : enqueue_then w.hidden (words_of w.memory) c.operation c.value c.stage ≡ step_then w.hidden (words_of w.memory) (w.situation c.process) = ap (step_then w.hidden (words_of w.memory)) (sym k.0) in
    subst (λ (z : History). Move n w c.process m2 (enqueues.doing (enqueues.next c answer)) (enqueues.says (enqueues.next c answer)) z) then_is d

apart_at : (s : EnqueueStage) (end : Ended) → EnqueueGoes s → EnqueueEnds s end → ⊥
apart_at enqueue.Done end go over = go
apart_at enqueue.Torn end go over = go
apart_at enqueue.StoreValue end go over = over
apart_at enqueue.FlushValue end go over = over
apart_at enqueue.BackValue end go over = over
apart_at enqueue.StoreAnnounce end go over = over
apart_at enqueue.FlushAnnounce end go over = over
apart_at enqueue.BackAnnounce end go over = over
apart_at enqueue.LoadTail end go over = over
apart_at (enqueue.LoadNext a) end go over = over
apart_at (enqueue.SwapNext a) end go over = over
apart_at (enqueue.FlushNext a y) end go over = over
apart_at (enqueue.BackNext a y) end go over = over
apart_at (enqueue.StoreLinked a y) end go over = over
apart_at (enqueue.FlushLinked a y) end go over = over
apart_at (enqueue.BackLinked a y) end go over = over
apart_at (enqueue.SwapTail a y) end go over = over

pub enqueues_hold : (n : ℕ) → AreCalls queue n enqueues
enqueues_hold n = record {
  begins = λ w c sound low fits go may. (
    inl (record { call = c; fits = fits; goes = go; own = refl; may = may; lands = refl }),
    (sound.1 c.process low).1 ∙ (free_to n (words_of w.memory) w.hidden c.process (w.situation c.process) c (sound.1 c.process low).0 may).2,
  );
  serves = λ w c sound low at fits go. let k = stands n w c sound low at go in served n c.process c.operation c.value (words_of w.memory) w.hidden (w.memory.buffer c.process) c.stage sound.0 low (belongs_below n c.process c.operation fits.2 low) go k.1 k.2;
  steps = λ c answer fits go. inl (record { call = c; fits = fits; goes = go; own = refl; at = refl; asks = refl; lands = refl; tells = refl });
  process = λ c answer. refl;
  apart = λ c end go over. apart_at c.stage end go over;
}
