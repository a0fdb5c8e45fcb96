-- A dequeue keeps the queue sound, and tells the truth.
use Rattle.std.proofs.Common.{ℕ, suc, ◌≡◌, ◌≢◌, ◌+◌, ◌*◌, ◌<◌, ◌≤◌, ◌==◌, refl, sym, ap, subst, ◌∙◌, inl, inr, arith, le_refl, le_trans, List, [], if◌then◌else◌, nat_lt, eq-eqb, ne_eqb}
use mathlib.Core.Logic.{dite}
use native.Mathlib.Decide.{ℕ_discrete}
use Rattle.ds_words.specs.declared.access.BufferEntry.{BufferEntry}
use Rattle.ds_words.specs.Memory.{Memory, SameMemory, Performs}
use Rattle.pm_base.specs.Structures.{In, Serves, Goes, KindBegins, AreCalls}
use Rattle.pm_base.proofs.Puts.{put_here}
use Rattle.pq.specs.Places.{Belongs, nodes, next_at, taker_at, result_at, announce_at}
use Rattle.pq.specs.Calls.{dequeue_access_at, dequeue_stage, dequeue_turns, DequeueGoes}
use Rattle.pq.specs.History.{History, Has, HasKept, kept_to, marked_to, claiming, emptying, with_links, with_claims, Side, Words, words_of, Both, Spent, Fresh}
use Rattle.pq.specs.Sound.{IsSound}
use Rattle.pq.specs.Knows.{IsNode, IsLink, IsClaim, IsTaken, IsUnclaimed, IsOwn, KnowsDequeue, Knows, DequeueInTime, InTime, head_place, buffer_at, dequeue_buffer, entry}
use Rattle.pq.specs.Queue.{LeavesOut, IsTrueResponse, dequeue_then, step_then, DequeueEnds, dequeue_doing, dequeue_says, MayDequeue, dequeues, queue}
use Rattle.pq.specs.declared.places.TheConstants.{MOST_NODES, EMPTY}
use Rattle.pq.specs.declared.dequeue.Dequeue.{Dequeue}
use Rattle.pq.specs.declared.dequeue.DequeueStage.{DequeueStage}
use Rattle.pq.specs.declared.dequeue.DequeueStage.TheVariants as dequeue
use Rattle.pq.specs.declared.calls.Doing.{Doing}
use Rattle.pq.specs.declared.calls.Doing.TheVariants.{Idle, Enqueueing, Dequeueing, Recovering, Stopped, Torn}
use Rattle.pq.specs.declared.calls.Ended.{Ended}
use Rattle.pq.specs.declared.calls.Response.{Response}
use Rattle.pq.proofs.Numbers.{one_process, belongs_above, belongs_below, half_odd}
use Rattle.pq.proofs.Logs.{log_fits, place_of, has_at, kept_has, kept_at, node_at, pos_is, one_place, Extends, extends_same, extends_kept, extends_marked, extends_added}
use Rattle.pq.proofs.Sides.{stored, both_stored, Persisted}
use Rattle.pq.proofs.Sound.{sound_persisted, sound_links_kept, sound_claims_kept, sound_claims_marked, sound_announced, sound_emptied, sound_emptying, sound_resulted, sound_head, sound_claiming}
use Rattle.pq.proofs.Later.{Later, later_persisted, later_logs, later_announced, later_resulted, later_emptied, dequeue_stays}
use Rattle.pq.proofs.Moves.{KindMoves, Queue, moved, Move, goes_on, same_words, one_back, back_persists, flushed_one, has_room, has_first, taker_stored, result_stored, announce_stored, head_stored}
use Rattle.pq.proofs.Acts.{if_true, if_false, less_true, loaded, flushed, backed, put_to}
use Rattle.pq.proofs.Enqueues.{head_node, spent_by, node_real, link_real, place_fits, process_fits, anchor_fits}
use Rattle.pq.proofs.Recoveries.{says_empty, claim_real_node, claim_real_taker, taken_real}

-- a fresh dequeue took nothing, and has no result
fresh_unclaimed : (most p i : ℕ) (w : Words) (h : History) → IsSound most w h → Belongs p i → i < most → Fresh w.announce p i → IsUnclaimed w h i
fresh_unclaimed most p i w h s mine real f =
    let y : w.announce.now p < 2 * i = f.0 in
    let clash : Spent w.announce p i → ⊥ = λ spent. (let x : 2 * i ≤ w.announce.now p = spent.0 in omega (arith, x, y)) in
    record {
      claims = λ has. (let r = place_of h.claims i has in clash (subst (Spent w.announce p) r.2 (s.spent_claims p r.0 r.1 (subst (Belongs p) (sym r.2) mine))));
      result = (
        dite (ℕ_discrete (w.result.now i) 0) (λ z. z) (λ nz. absurd (clash (s.spent_result p i (w.result.now i) real (inl refl) nz mine))),
        dite (ℕ_discrete (w.result.kept i) 0) (λ z. z) (λ nz. absurd (clash (s.spent_result p i (w.result.kept i) real (inr refl) nz mine))),
      );
    }

abbrev call : ℕ → ℕ → ℕ → DequeueStage → Dequeue
call p i t s = record { process = p; operation = i; turns = t; stage = s }

doing_is : (c : Dequeue) (s : DequeueStage) → DequeueGoes s → dequeue_doing c s ≡ Dequeueing c
doing_is c dequeue.StoreAnnounce go = refl
doing_is c dequeue.FlushAnnounce go = refl
doing_is c dequeue.BackAnnounce go = refl
doing_is c dequeue.LoadHead go = refl
doing_is c (dequeue.LoadNext a) go = refl
doing_is c dequeue.StoreEmpty go = refl
doing_is c dequeue.FlushEmpty go = refl
doing_is c dequeue.BackEmpty go = refl
doing_is c (dequeue.FlushNext a y) go = refl
doing_is c (dequeue.BackNext a y) go = refl
doing_is c (dequeue.SwapTaker a y) go = refl
doing_is c (dequeue.FlushTaker a y d) go = refl
doing_is c (dequeue.BackTaker a y d) go = refl
doing_is c (dequeue.StoreResult a y d) go = refl
doing_is c (dequeue.FlushResult a y d) go = refl
doing_is c (dequeue.BackResult a y d) go = refl
doing_is c (dequeue.SwapHead a y d) go = refl
doing_is c (dequeue.LoadValue y) go = refl
doing_is c dequeue.DoneEmpty go = absurd go
doing_is c (dequeue.Done x) go = absurd go
doing_is c dequeue.Torn go = absurd go

leaves_out : (p i t j : ℕ) (s : DequeueStage) → i ≢ j → LeavesOut j (dequeue_doing (call p i t s) s)
leaves_out p i t j dequeue.StoreAnnounce ne = ne
leaves_out p i t j dequeue.FlushAnnounce ne = ne
leaves_out p i t j dequeue.BackAnnounce ne = ne
leaves_out p i t j dequeue.LoadHead ne = ne
leaves_out p i t j (dequeue.LoadNext a) ne = ne
leaves_out p i t j dequeue.StoreEmpty ne = ne
leaves_out p i t j dequeue.FlushEmpty ne = ne
leaves_out p i t j dequeue.BackEmpty ne = ne
leaves_out p i t j (dequeue.FlushNext a y) ne = ne
leaves_out p i t j (dequeue.BackNext a y) ne = ne
leaves_out p i t j (dequeue.SwapTaker a y) ne = ne
leaves_out p i t j (dequeue.FlushTaker a y d) ne = ne
leaves_out p i t j (dequeue.BackTaker a y d) ne = ne
leaves_out p i t j (dequeue.StoreResult a y d) ne = ne
leaves_out p i t j (dequeue.FlushResult a y d) ne = ne
leaves_out p i t j (dequeue.BackResult a y d) ne = ne
leaves_out p i t j (dequeue.SwapHead a y d) ne = ne
leaves_out p i t j (dequeue.LoadValue y) ne = ne
leaves_out p i t j dequeue.DoneEmpty ne = tt
leaves_out p i t j (dequeue.Done x) ne = tt
leaves_out p i t j dequeue.Torn ne = tt

module _ (n : ℕ) (w : Queue) (p i t : ℕ) (m2 : Memory ℕ) (answer : ℕ) (few : n < 16384) (low : p < n) (mine : Belongs p i) (sound : IsSound (nodes n) (words_of w.memory) w.hidden) where
  abbrev m : Memory ℕ
  m = w.memory

  abbrev v : Words
  v = words_of w.memory

  abbrev h : History
  h = w.hidden

  abbrev most : ℕ
  most = nodes n

  -- the process comes to this stage, with this history
  abbrev Reaches : ℕ → DequeueStage → History → Type 0
  Reaches u s g = Move n w p m2 (dequeue_doing (call p i u s) s) (dequeue_says (call p i u s) s) g

  apart : (q j : ℕ) → q ≢ p → Belongs q j → j ≢ i
  apart q j ne b same = ne (one_process q p i (subst (Belongs q) same b) mine)

  above : i ≢ 0
  above z = (let a = belongs_above p i mine in omega (arith, a, z))

  below : i < nodes n
  below = belongs_below n p i mine low

  fits : (k : ℕ) → k < nodes n → k < MOST_NODES
  fits k l = omega (arith, l, few)

  suc_apart : p ≢ suc p
  suc_apart e = omega (arith, e)

  claims_links : h.claims.count ≤ h.links.count
  claims_links = le_trans sound.follows sound.links.keeps

  marked_links : h.claims.marked ≤ h.links.count
  marked_links = le_trans sound.claims.marks (le_trans sound.claims.keeps claims_links)

  leaves : (stage : DequeueStage) → w.situation p ≡ Dequeueing (call p i t stage) → (u : ℕ) (s : DequeueStage) (j : ℕ) → Belongs p j → Spent v.announce p j → LeavesOut j (w.situation p) → (j ≢ i) × LeavesOut j (dequeue_doing (call p i u s) s)
  leaves stage at u s j b sp out =
      let ne : i ≢ j = subst (LeavesOut j) at out in
      ((λ e. ne (sym e)), leaves_out p i u j s ne)

  kept_knowledge : (g : History) (stage : DequeueStage) → Persisted v (words_of m2) → Extends h.links g.links 0 → Extends h.claims g.claims 0 → g.value ≡ h.value → g.empty ≡ h.empty → KnowsDequeue v h p i stage → KnowsDequeue (words_of m2) g p i stage
  kept_knowledge g stage e l c val em k = dequeue_stays most 0 (suc p) v h (words_of m2) g sound (later_persisted 0 (suc p) v (words_of m2) h g e l c val em) p suc_apart i mine above stage k

  -- the node that a load of the link of a node finds
  found_link : (a bound : ℕ) → bound ≤ h.links.count → IsNode h.links a bound → answer ≡ v.next.now a → answer ≢ 0 → IsLink h.links a answer h.links.count
  found_link a bound up node is nz =
      let real = node_real most a bound h.links sound.links up node in
      let o = sound.next.only a answer real (inl (sym is)) nz in
      let lk = o.1 in
      let pos : h.links.pos a ≡ o.0 = pos_is most h.links o.0 a sound.links (omega (arith, lk)) (sym o.2) in
      record { node = node.node; link = ap (λ z. h.links.at (suc z)) pos ∙ sym o.3; within = omega (arith, pos, lk) }

  -- the result of another's claim leaves this one without
  still_own : (a y d : ℕ) → IsClaim h a y d h.claims.kept → IsOwn v h i d → IsOwn (record v { result = stored v.result d y }) h i d
  still_own a y d claim own = elim own [
    | inl same ↦ inl same
    | inr free ↦ inr (
        let lw = claim.within in
        let c2 = sound.claims.keeps in
        let has : Has h.claims d = subst (Has h.claims) claim.claim (has_at most h.claims (h.links.pos a) sound.claims (omega (arith, lw, c2))) in
        record { claims = free.claims; result = both_stored v.result d y i 0 (λ same. free.claims (subst (Has h.claims) (sym same) has)) free.result })
  ]

  -- the head names the node after a
  next_place : (a y d : ℕ) → IsClaim h a y d h.claims.marked → head_place (record v { head = stored v.head 0 y }) h ≡ suc (h.links.pos a)
  next_place a y d claim =
      let lw = claim.within in
      let c1 = sound.claims.marks in
      let c2 = sound.claims.keeps in
      let c3 = claims_links in
      ap h.links.pos (put_here v.head.now 0 y 0 refl) ∙ pos_is most h.links (suc (h.links.pos a)) y sound.links (omega (arith, lw, c1, c2, c3)) claim.link

  -- the head is moved, or another process moved it
  head_moves : (a y d : ℕ) (s2 : DequeueStage) (u : ℕ) → w.situation p ≡ Dequeueing (call p i t (dequeue.SwapHead a y d)) → KnowsDequeue v h p i (dequeue.SwapHead a y d) → Performs (queue.class_in n) (dequeue_access_at p i (dequeue.SwapHead a y d)) p m m2 answer
      → m.buffer p ≡ buffer_at p (dequeue_doing (call p i u s2) s2) → ((z : Words) → z.announce ≡ v.announce → z.result ≡ v.result → Knows z h p (dequeue_doing (call p i u s2) s2)) → ((z : Words) (returned : Response) → In (dequeue_says (call p i u s2) s2) returned → IsTrueResponse z h p (dequeue_doing (call p i u s2) s2) returned) → h.links.pos a ≤ head_place v h → ((z : Words) → suc (h.links.pos a) ≤ head_place z h → InTime most z h (dequeue_doing (call p i u s2) s2)) → Reaches u s2 h
  head_moves a y d s2 u at k perf free knows tells reached time = elim perf.1 [
    | inl hit ↦ put_to n w p m2 _ _ i sound apart (leaves (dequeue.SwapHead a y d) at u s2) _ _ (record v { head = stored v.head 0 y }) h hit.1 (head_stored m m2 0 y hit.1)
        (sound_head most v h (suc (h.links.pos a)) y sound (let b = k.3.within in omega (arith, b)) (sym k.3.link))
        (later_logs i p v h h v.next v.taker v.tail (stored v.head 0 y) (extends_same h.links i) (extends_same h.claims i) (λ j has. refl) (λ j inside. inside)) free
        (knows (record v { head = stored v.head 0 y }) refl refl) (tells (record v { head = stored v.head 0 y })) (time (record v { head = stored v.head 0 y }) (omega (arith, next_place a y d k.3))) (le_refl _) (let e : head_place v h ≡ h.links.pos a = ap h.links.pos (sym perf.0 ∙ hit.0) in let f = next_place a y d k.3 in omega (arith, e, f))
    | inr miss ↦ loaded n w p m2 _ _ i sound apart (leaves (dequeue.SwapHead a y d) at u s2) miss.1 free (knows v refl refl) (tells v) (time v (dite (ℕ_discrete (head_place v h) (h.links.pos a))
        (λ same. absurd (miss.0 (perf.0 ∙ (sym (head_node most v h sound).node ∙ (ap h.links.at same ∙ k.3.node)))))
        (λ ne. omega (arith, ne, reached))))
  ]

  moves : (stage : DequeueStage) → w.situation p ≡ Dequeueing (call p i t stage) → DequeueGoes stage → KnowsDequeue v h p i stage → DequeueInTime most h.links.pos (head_place v h) t stage → m.buffer p ≡ dequeue_buffer p i stage → Performs (queue.class_in n) (dequeue_access_at p i stage) p m m2 answer
      → Reaches (dequeue_turns stage t) (dequeue_stage i t stage answer) (dequeue_then h v i stage)
  moves dequeue.StoreAnnounce at go k time free perf =
      let clear = fresh_unclaimed most p i v h sound mine below k in
      let up : v.announce.now p ≤ 2 * i + 1 = (let a = k.0 in omega (arith, a)) in
      put_to n w p m2 _ _ i sound apart (leaves dequeue.StoreAnnounce at t dequeue.FlushAnnounce) _ _ _ h perf.1 (announce_stored m m2 p (2 * i + 1) perf.1) (sound_announced most v h p (2 * i + 1) sound up (subst (Belongs p) (sym (half_odd i)) mine))
      (later_announced most i p v h (extends_same h.links i) (extends_same h.claims i) (2 * i + 1) up) free (refl, mine, (put_here v.announce.now p (2 * i + 1) p refl, record { claims = clear.claims; result = clear.result })) (λ u none2. absurd none2) time (le_refl _) (le_refl _)
  moves dequeue.FlushAnnounce at go k time free perf =
      flushed n w p m2 _ _ i sound apart (leaves dequeue.FlushAnnounce at t dequeue.BackAnnounce) _ perf.1 (flushed_one p (announce_at p) (2 * i + 1) m m2 free k.0 perf.1) (refl, mine, k) (λ u none. absurd none) time
  moves dequeue.BackAnnounce at go k time free perf =
      let b = one_back p m m2 (entry (announce_at p) (2 * i + 1)) free perf.1 in
      let e = back_persists p (announce_at p) (2 * i + 1) m m2 k.0 b in
      let k2 = kept_knowledge h dequeue.BackAnnounce e (extends_same h.links 0) (extends_same h.claims 0) refl refl k in
      backed n w p m2 _ _ i sound apart (leaves dequeue.BackAnnounce at t dequeue.LoadHead) _ (2 * i + 1) h b e (sound_persisted most v (words_of m2) h sound e) (extends_same h.links i) (extends_same h.claims i) refl refl refl
      (refl, mine, ((k2.0, b.there), k2.1)) (λ u none. absurd none) refl (omega (arith, time))
  moves dequeue.LoadHead at go k time free perf =
      let same_place : h.links.pos answer ≡ head_place v h = ap h.links.pos perf.0 in
      let o = sound.head answer (inl (sym perf.0)) in
      let up = o.1 in
      let c1 = marked_links in
      let under : o.0 ≤ h.links.count = omega (arith, up, c1) in
      let node : IsNode h.links answer h.claims.marked = node_at most h.links o.0 answer h.claims.marked sound.links under up o.2 in
      subst (λ (s : DequeueStage). Reaches t s h) (if_true (nat_lt answer MOST_NODES) (dequeue.LoadNext answer) dequeue.Torn (less_true answer MOST_NODES (fits answer (node_real most answer _ h.links sound.links c1 node))))
      (loaded n w p m2 _ _ i sound apart (leaves dequeue.LoadHead at t (dequeue.LoadNext answer)) perf.1 free (refl, mine, (k.0, k.1, node)) (λ u none. absurd none) (record { reached = omega (arith, same_place); enough = omega (arith, same_place, time) }))
  moves (dequeue.LoadNext a) at go k time free perf = dite (ℕ_discrete answer 0)
      (λ z.
      let found : Reaches t dequeue.StoreEmpty (emptying h i) = record {
        operation = i;
        words = v;
        is = same_words m m2 perf.1.cached perf.1.persisted;
        sound = sound_emptying most v h i sound;
        later = later_logs i p v h (emptying h i) v.next v.taker v.tail v.head (extends_same h.links i) (extends_same h.claims i) (λ j has. refl) (λ j inside. inr inside);
        others = λ q ne. perf.1.buffer q;
        mine = perf.1.buffer p ∙ free;
        knows = (refl, mine, (k.0, record { claims = k.1.claims; result = k.1.result }, inl refl));
        apart = apart;
        leaves = leaves (dequeue.LoadNext a) at t dequeue.StoreEmpty;
        tells = λ u none. absurd none;
        time = tt;
        tails = le_refl _;
        heads = le_refl _;
      } in
      subst (λ (y : DequeueStage × History). Reaches t y.0 y.1) (λ j. (if_true (answer == 0) dequeue.StoreEmpty (if nat_lt answer MOST_NODES then dequeue.FlushNext a answer else dequeue.Torn) (eq-eqb answer 0 z) j, if_true (v.next.now a == 0) (emptying h i) h (eq-eqb (v.next.now a) 0 (sym perf.0 ∙ z)) j)) found)
      (λ nz.
      let link = found_link a h.claims.marked marked_links k.2 perf.0 nz in
      let real = (link_real most a answer _ h.links sound.links (le_refl _) link).1 in
      subst (λ (y : DequeueStage × History). Reaches t y.0 y.1) (λ j. (if_false (answer == 0) dequeue.StoreEmpty (if nat_lt answer MOST_NODES then dequeue.FlushNext a answer else dequeue.Torn) (ne_eqb answer 0 nz) j, if_false (v.next.now a == 0) (emptying h i) h (ne_eqb (v.next.now a) 0 (λ z. nz (perf.0 ∙ z))) j))
      (subst (λ (s : DequeueStage). Reaches t s h) (if_true (nat_lt answer MOST_NODES) (dequeue.FlushNext a answer) dequeue.Torn (less_true answer MOST_NODES (fits answer real)))
      (loaded n w p m2 _ _ i sound apart (leaves (dequeue.LoadNext a) at t (dequeue.FlushNext a answer)) perf.1 free (refl, mine, (k.0, k.1, k.2, link)) (λ u none. absurd none) time)))
  moves dequeue.StoreEmpty at go k time free perf =
      put_to n w p m2 _ _ i sound apart (leaves dequeue.StoreEmpty at t dequeue.FlushEmpty) _ _ _ h perf.1 (result_stored m m2 i EMPTY perf.1) (sound_emptied most v h p i sound k.1.claims k.1.result.1 k.2 mine (spent_by v p i (2 * i + 1) (omega arith) k.0))
      (later_emptied most i p v h (extends_same h.links i) (extends_same h.claims i) k.1.result) free (refl, mine, (k.0, put_here v.result.now i EMPTY i refl)) (λ u none. absurd none) time (le_refl _) (le_refl _)
  moves dequeue.FlushEmpty at go k time free perf =
      flushed n w p m2 _ _ i sound apart (leaves dequeue.FlushEmpty at t dequeue.BackEmpty) _ perf.1 (flushed_one p (result_at i) EMPTY m m2 free k.1 perf.1) (refl, mine, k) (λ u none. absurd none) time
  moves dequeue.BackEmpty at go k time free perf =
      let b = one_back p m m2 (entry (result_at i) EMPTY) free perf.1 in
      let e = back_persists p (result_at i) EMPTY m m2 k.1 b in
      let found = says_empty n v h i few sound below k.1 in
      let k2 = kept_knowledge h dequeue.BackEmpty e (extends_same h.links 0) (extends_same h.claims 0) refl refl k in
      backed n w p m2 _ _ i sound apart (leaves dequeue.BackEmpty at t dequeue.DoneEmpty) _ EMPTY h b e (sound_persisted most v (words_of m2) h sound e) (extends_same h.links i) (extends_same h.claims i) refl refl refl
      k2.0 (λ returned inside. elim inside [
        | inl said ↦ subst (IsTrueResponse (words_of m2) h p (Idle (2 * i + 1))) said (record { none = found.0; mine = mine; spent = spent_by (words_of m2) p i (2 * i + 1) (omega arith) k2.0; leaves = tt }, found.1, (k2.1, b.there))
        | inr none ↦ absurd none
      ]) refl time
  moves (dequeue.FlushNext a y) at go k time free perf =
      let is : v.next.now a ≡ y = ap v.next.now (sym k.3.node) ∙ (sound.next.cached (h.links.pos a) k.3.within ∙ k.3.link) in
      flushed n w p m2 _ _ i sound apart (leaves (dequeue.FlushNext a y) at t (dequeue.BackNext a y)) _ perf.1 (flushed_one p (next_at a) y m m2 free is perf.1) (refl, mine, k) (λ u none. absurd none) time
  moves (dequeue.BackNext a y) at go k time free perf =
      let is : v.next.now a ≡ y = ap v.next.now (sym k.3.node) ∙ (sound.next.cached (h.links.pos a) k.3.within ∙ k.3.link) in
      let b = one_back p m m2 (entry (next_at a) y) free perf.1 in
      let e = back_persists p (next_at a) y m m2 is b in
      let g : History = with_links h (kept_to h.links (suc (h.links.pos a))) in
      let there : (words_of m2).next.kept (h.links.at (h.links.pos a)) ≡ h.links.at (suc (h.links.pos a)) = ap (words_of m2).next.kept k.3.node ∙ (b.there ∙ sym k.3.link) in
      let s2 = sound_links_kept most (words_of m2) h (h.links.pos a) (sound_persisted most v (words_of m2) h sound e) k.3.within there in
      let k2 = kept_knowledge g (dequeue.BackNext a y) e (extends_kept h.links (suc (h.links.pos a)) 0) (extends_same h.claims 0) refl refl k in
      backed n w p m2 _ _ i sound apart (leaves (dequeue.BackNext a y) at t (dequeue.SwapTaker a y)) _ y g b e s2 (extends_kept h.links (suc (h.links.pos a)) i) (extends_same h.claims i) refl refl refl
      (refl, mine, (k2.0, k2.1, k2.2, record { node = k2.3.node; link = k2.3.link; within = omega arith })) (λ u none. absurd none) refl time
  moves (dequeue.SwapTaker a y) at go k time free perf = elim perf.1 [
    | inl hit ↦ (
        let zero_now : v.taker.now y ≡ 0 = sym perf.0 ∙ hit.0 in
        let c = sound_claiming most v h p a y i sound k.2 k.3 zero_now k.1.claims k.1.result above below mine (spent_by v p i (2 * i + 1) (omega arith) k.0) in
        let last : h.links.pos a ≡ h.claims.count = c.0 in
        let e = extends_added most h.claims i sound.claims k.1.claims above in
        let later : Later i p v h (record v { taker = stored v.taker y i }) (claiming h i) = later_logs i p v h (claiming h i) v.next (stored v.taker y i) v.tail v.head (extends_same h.links i) e (λ j has. refl) (λ j inside. inside) in
        let claim : IsClaim (claiming h i) a y i (suc h.claims.count) = record { node = k.3.node; link = k.3.link; claim = put_here h.claims.at (suc h.claims.count) i (suc (h.links.pos a)) (ap suc last); within = omega (arith, last) } in
        subst (λ (z : DequeueStage × History). Reaches t z.0 z.1) (λ j. (if_true (answer == 0) (dequeue.FlushTaker a y i) (if nat_lt answer MOST_NODES then dequeue.FlushTaker a y answer else dequeue.Torn) (eq-eqb answer 0 hit.0) j, if_true (v.taker.now y == 0) (claiming h i) h (eq-eqb (v.taker.now y) 0 zero_now) j))
        (put_to n w p m2 _ _ i sound apart (leaves (dequeue.SwapTaker a y) at t (dequeue.FlushTaker a y i)) _ _ _ (claiming h i) hit.1 (taker_stored m m2 y i hit.1) c.1 later free
        (refl, mine, (k.0, inl refl, k.2, claim)) (λ u none. absurd none) time (le_refl _) (le_refl _)))
    | inr miss ↦ (
        let nz : v.taker.now y ≢ 0 = λ z. miss.0 (perf.0 ∙ z) in
        let real = (link_real most a y _ h.links sound.links sound.links.keeps k.3).1 in
        let o = sound.taker.only y answer real (inl (sym perf.0)) miss.0 in
        let lk = o.1 in
        let cl = claims_links in
        let lw = k.3.within in
        let lk2 = sound.links.keeps in
        let place : suc o.0 ≡ suc (h.links.pos a) = one_place most h.links (suc o.0) (suc (h.links.pos a)) sound.links (omega (arith, lk, cl)) (omega (arith, lw, lk2)) (sym o.2 ∙ sym k.3.link) in
        let claim : IsClaim h a y answer h.claims.count = record { node = k.3.node; link = k.3.link; claim = ap h.claims.at (sym place) ∙ sym o.3; within = omega (arith, place, lk) } in
        subst (λ (z : DequeueStage × History). Reaches t z.0 z.1) (λ j. (if_false (answer == 0) (dequeue.FlushTaker a y i) (if nat_lt answer MOST_NODES then dequeue.FlushTaker a y answer else dequeue.Torn) (ne_eqb answer 0 miss.0) j, if_false (v.taker.now y == 0) (claiming h i) h (ne_eqb (v.taker.now y) 0 nz) j))
        (subst (λ (s : DequeueStage). Reaches t s h) (if_true (nat_lt answer MOST_NODES) (dequeue.FlushTaker a y answer) dequeue.Torn (less_true answer MOST_NODES (fits answer (claim_real_taker n v h a y answer _ sound (le_refl _) claim))))
        (loaded n w p m2 _ _ i sound apart (leaves (dequeue.SwapTaker a y) at t (dequeue.FlushTaker a y answer)) miss.1 free (refl, mine, (k.0, inr k.1, k.2, claim)) (λ u none. absurd none) time)))
  ]
  moves (dequeue.FlushTaker a y d) at go k time free perf =
      let is : v.taker.now y ≡ d = ap v.taker.now (sym k.3.link) ∙ (sound.taker.cached (h.links.pos a) k.3.within ∙ k.3.claim) in
      flushed n w p m2 _ _ i sound apart (leaves (dequeue.FlushTaker a y d) at t (dequeue.BackTaker a y d)) _ perf.1 (flushed_one p (taker_at y) d m m2 free is perf.1) (refl, mine, k) (λ u none. absurd none) time
  moves (dequeue.BackTaker a y d) at go k time free perf =
      let is : v.taker.now y ≡ d = ap v.taker.now (sym k.3.link) ∙ (sound.taker.cached (h.links.pos a) k.3.within ∙ k.3.claim) in
      let b = one_back p m m2 (entry (taker_at y) d) free perf.1 in
      let e = back_persists p (taker_at y) d m m2 is b in
      let g : History = with_claims h (kept_to h.claims (suc (h.links.pos a))) in
      let there : (words_of m2).taker.kept (h.links.at (suc (h.links.pos a))) ≡ h.claims.at (suc (h.links.pos a)) = ap (words_of m2).taker.kept k.3.link ∙ (b.there ∙ sym k.3.claim) in
      let s2 = sound_claims_kept most (words_of m2) h (h.links.pos a) (sound_persisted most v (words_of m2) h sound e) k.3.within there in
      let k2 = kept_knowledge g (dequeue.BackTaker a y d) e (extends_same h.links 0) (extends_kept h.claims (suc (h.links.pos a)) 0) refl refl k in
      backed n w p m2 _ _ i sound apart (leaves (dequeue.BackTaker a y d) at t (dequeue.StoreResult a y d)) _ d g b e s2 (extends_same h.links i) (extends_kept h.claims (suc (h.links.pos a)) i) refl refl refl
      (refl, mine, (k2.0, k2.1, k2.2, record { node = k2.3.node; link = k2.3.link; claim = k2.3.claim; within = omega arith })) (λ u none. absurd none) refl time
  moves (dequeue.StoreResult a y d) at go k time free perf =
      put_to n w p m2 _ _ i sound apart (leaves (dequeue.StoreResult a y d) at t (dequeue.FlushResult a y d)) _ _ _ h perf.1 (result_stored m m2 d y perf.1) (sound_resulted most v h (h.links.pos a) d y sound k.3.within (sym k.3.claim) (sym k.3.link))
      (later_resulted most i p v h (extends_same h.links i) (extends_same h.claims i) (h.links.pos a) d y sound k.3.within (sym k.3.claim) (sym k.3.link)) free
      (refl, mine, (k.0, still_own a y d k.3 k.1, k.2, k.3, put_here v.result.now d y d refl)) (λ u none. absurd none) time (le_refl _) (le_refl _)
  moves (dequeue.FlushResult a y d) at go k time free perf =
      flushed n w p m2 _ _ i sound apart (leaves (dequeue.FlushResult a y d) at t (dequeue.BackResult a y d)) _ perf.1 (flushed_one p (result_at d) y m m2 free k.4 perf.1) (refl, mine, k) (λ u none. absurd none) time
  moves (dequeue.BackResult a y d) at go k time free perf =
      let b = one_back p m m2 (entry (result_at d) y) free perf.1 in
      let e = back_persists p (result_at d) y m m2 k.4 b in
      let g : History = with_claims h (marked_to h.claims (suc (h.links.pos a))) in
      let k1 = kept_knowledge h (dequeue.BackResult a y d) e (extends_same h.links 0) (extends_same h.claims 0) refl refl k in
      let both : Both (words_of m2).result (h.claims.at (suc (h.links.pos a))) (h.links.at (suc (h.links.pos a))) = subst (λ (z : ℕ × ℕ). Both (words_of m2).result z.0 z.1) (λ j. (sym k.3.claim j, sym k.3.link j)) (k1.4, b.there) in
      let s2 = sound_claims_marked most (words_of m2) h (h.links.pos a) (sound_persisted most v (words_of m2) h sound e) k.3.within k.2.within both in
      let k2 = kept_knowledge g (dequeue.BackResult a y d) e (extends_same h.links 0) (extends_marked h.claims (suc (h.links.pos a)) 0) refl refl k in
      backed n w p m2 _ _ i sound apart (leaves (dequeue.BackResult a y d) at t (dequeue.SwapHead a y d)) _ y g b e s2 (extends_same h.links i) (extends_marked h.claims (suc (h.links.pos a)) i) refl refl refl
      (refl, mine, (k2.0, k2.1, k2.2, record { node = k2.3.node; link = k2.3.link; claim = k2.3.claim; within = omega arith })) (λ u none. absurd none) refl time
  moves (dequeue.SwapHead a y d) at go k time free perf = dite (ℕ_discrete d i)
      (λ own.
      let lw = k.3.within in
      let c1 = sound.claims.marks in
      let c2 = sound.claims.keeps in
      let claim : h.claims.at (suc (h.links.pos a)) ≡ i = k.3.claim ∙ own in
      let kept : HasKept h.claims i = subst (HasKept h.claims) claim (kept_at most h.claims (h.links.pos a) sound.claims (omega (arith, lw, c1))) in
      let pos : h.claims.pos i ≡ suc (h.links.pos a) = pos_is most h.claims (suc (h.links.pos a)) i sound.claims (omega (arith, lw, c1, c2)) claim in
      let taken : IsTaken h i y = record { kept = kept; node = ap h.links.at pos ∙ k.3.link } in
      subst (λ (s : DequeueStage). Reaches (dequeue_turns (dequeue.SwapHead a y d) t) s h) (if_true (d == i) (dequeue.LoadValue y) (if t == 0 then dequeue.Torn else dequeue.LoadHead) (eq-eqb d i own))
      (head_moves a y d (dequeue.LoadValue y) (dequeue_turns (dequeue.SwapHead a y d) t) at k perf free (λ z an re. (refl, mine, (subst (λ (s : Side). Both s p (2 * i + 1)) (sym an) k.0, taken))) (λ z returned none. absurd none) time.reached (λ z up. tt)))
      (λ ne.
      let clear : IsUnclaimed v h i = elim k.1 [
        | inl same ↦ absurd (ne same)
        | inr clear ↦ clear
      ] in
      subst (λ (s : DequeueStage). Reaches (dequeue_turns (dequeue.SwapHead a y d) t) s h) (if_false (d == i) (dequeue.LoadValue y) (if t == 0 then dequeue.Torn else dequeue.LoadHead) (ne_eqb d i ne)) (dite (ℕ_discrete t 0)
      (λ over. absurd (let x = time.enough in let c1 = k.3.within in let c2 = marked_links in let c3 = log_fits most h.links sound.links in omega (arith, x, over, c1, c2, c3)))
      (λ more. subst (λ (s : DequeueStage). Reaches (dequeue_turns (dequeue.SwapHead a y d) t) s h) (if_false (t == 0) dequeue.Torn dequeue.LoadHead (ne_eqb t 0 more))
      (head_moves a y d dequeue.LoadHead (dequeue_turns (dequeue.SwapHead a y d) t) at k perf free (λ z an re. (refl, mine, (subst (λ (s : Side). Both s p (2 * i + 1)) (sym an) k.0, record { claims = clear.claims; result = subst (λ (s : Side). Both s i 0) (sym re) clear.result }))) (λ z returned none2. absurd none2) time.reached (λ z up. (let x = time.enough in omega (arith, x, up, more)))))))
  moves (dequeue.LoadValue y) at go k time free perf =
      let kept = k.1.kept in
      let r = place_of h.claims i (kept_has most h.claims i sound.claims kept) in
      let under = r.1 in
      let cl = claims_links in
      let node : h.links.at (suc r.0) ≡ y = ap h.links.at (sym r.3) ∙ k.1.node in
      let both : Both v.value y (h.value y) = subst (λ (z : ℕ). Both v.value z (h.value z)) node (sound.value r.0 (omega (arith, under, cl))) in
      loaded n w p m2 _ _ i sound apart (leaves (dequeue.LoadValue y) at t (dequeue.Done answer)) perf.1 free k.0 (λ returned inside. elim inside [
        | inl said ↦ subst (IsTrueResponse v h p (Idle (2 * i + 1))) said (kept, ap h.value k.1.node ∙ (sym both.0 ∙ sym perf.0))
        | inr none ↦ absurd none
      ]) time
  moves dequeue.DoneEmpty at go k time free perf = absurd go
  moves (dequeue.Done x) at go k time free perf = absurd go
  moves dequeue.Torn at go k time free perf = absurd go

-- ---- what it is served

served : (n p i : ℕ) (v : Words) (h : History) (b : List (BufferEntry ℕ)) (s : DequeueStage) → IsSound (nodes n) v h → p < n → i < nodes n → DequeueGoes s → KnowsDequeue v h p i s → b ≡ dequeue_buffer p i s → Serves (8 * nodes n) (dequeue_access_at p i s) b
served n p i v h b dequeue.StoreAnnounce sound low real go k is = process_fits n p low
served n p i v h b dequeue.FlushAnnounce sound low real go k is = (process_fits n p low, has_room b is)
served n p i v h b dequeue.BackAnnounce sound low real go k is = has_first (8 * nodes n) (announce_at p) (2 * i + 1) b (process_fits n p low) is
served n p i v h b dequeue.LoadHead sound low real go k is = anchor_fits n 7 (omega arith)
served n p i v h b (dequeue.LoadNext a) sound low real go k is = place_fits (nodes n) a 0 (node_real (nodes n) a _ h.links sound.links (le_trans sound.claims.marks (le_trans sound.claims.keeps (le_trans sound.follows sound.links.keeps))) k.2) (omega arith)
served n p i v h b dequeue.StoreEmpty sound low real go k is = place_fits (nodes n) i 4 real (omega arith)
served n p i v h b dequeue.FlushEmpty sound low real go k is = (place_fits (nodes n) i 4 real (omega arith), has_room b is)
served n p i v h b dequeue.BackEmpty sound low real go k is = has_first (8 * nodes n) (result_at i) EMPTY b (place_fits (nodes n) i 4 real (omega arith)) is
served n p i v h b (dequeue.FlushNext a y) sound low real go k is = (place_fits (nodes n) a 0 (link_real (nodes n) a y _ h.links sound.links (le_refl _) k.3).0 (omega arith), has_room b is)
served n p i v h b (dequeue.BackNext a y) sound low real go k is = has_first (8 * nodes n) (next_at a) y b (place_fits (nodes n) a 0 (link_real (nodes n) a y _ h.links sound.links (le_refl _) k.3).0 (omega arith)) is
served n p i v h b (dequeue.SwapTaker a y) sound low real go k is = place_fits (nodes n) y 1 (link_real (nodes n) a y _ h.links sound.links sound.links.keeps k.3).1 (omega arith)
served n p i v h b (dequeue.FlushTaker a y d) sound low real go k is = (place_fits (nodes n) y 1 (claim_real_node n v h a y d _ sound (le_refl _) k.3) (omega arith), has_room b is)
served n p i v h b (dequeue.BackTaker a y d) sound low real go k is = has_first (8 * nodes n) (taker_at y) d b (place_fits (nodes n) y 1 (claim_real_node n v h a y d _ sound (le_refl _) k.3) (omega arith)) is
served n p i v h b (dequeue.StoreResult a y d) sound low real go k is = place_fits (nodes n) d 4 (claim_real_taker n v h a y d _ sound sound.claims.keeps k.3) (omega arith)
served n p i v h b (dequeue.FlushResult a y d) sound low real go k is = (place_fits (nodes n) d 4 (claim_real_taker n v h a y d _ sound sound.claims.keeps k.3) (omega arith), has_room b is)
served n p i v h b (dequeue.BackResult a y d) sound low real go k is = has_first (8 * nodes n) (result_at d) y b (place_fits (nodes n) d 4 (claim_real_taker n v h a y d _ sound sound.claims.keeps k.3) (omega arith)) is
served n p i v h b (dequeue.SwapHead a y d) sound low real go k is = anchor_fits n 7 (omega arith)
served n p i v h b (dequeue.LoadValue y) sound low real go k is = place_fits (nodes n) y 2 (taken_real n v h i y sound k.1) (omega arith)
served n p i v h b dequeue.DoneEmpty sound low real go k is = absurd go
served n p i v h b (dequeue.Done x) sound low real go k is = absurd go
served n p i v h b dequeue.Torn sound low real go k is = absurd go

-- ---- the calls

-- the process is in this call
stands : (n : ℕ) (w : Queue) (c : Dequeue) → queue.sound n w → c.process < n → w.situation c.process ≡ dequeue_doing c c.stage → DequeueGoes c.stage
    → (w.situation c.process ≡ Dequeueing c) × KnowsDequeue (words_of w.memory) w.hidden c.process c.operation c.stage × (w.memory.buffer c.process ≡ dequeue_buffer c.process c.operation c.stage)
    × DequeueInTime (nodes n) w.hidden.links.pos (head_place (words_of w.memory) w.hidden) c.turns c.stage
stands n w c sound low at go =
    let is : w.situation c.process ≡ Dequeueing c = at ∙ doing_is c c.stage go in
    let s = sound.1 c.process low in
    let k : Knows (words_of w.memory) w.hidden c.process (Dequeueing c) = subst (Knows (words_of w.memory) w.hidden c.process) is s.0 in
    (is, k.2, s.1 ∙ ap (buffer_at c.process) is, subst (InTime (nodes n) (words_of w.memory) w.hidden) is s.2)

-- where it may begin, its number is fresh, and nothing is under way
free_to : (n : ℕ) (v : Words) (h : History) (p : ℕ) (now : Doing) (c : Dequeue) → Knows v h p now → MayDequeue n now c → Fresh v.announce p c.operation × (c.stage ≡ dequeue.StoreAnnounce) × (buffer_at p now ≡ []) × (nodes n ≤ c.turns)
free_to n v h p (Idle u) c k may = ((let a = k.0 in let b = may.0 in omega (arith, a, b), let a = k.1 in let b = may.0 in omega (arith, a, b)), may.1, refl, may.2)
free_to n v h p (Enqueueing d) c k may = absurd may
free_to n v h p (Dequeueing d) c k may = absurd may
free_to n v h p (Recovering d) c k may = absurd may
free_to n v h p Stopped c k may = absurd may
free_to n v h p Torn c k may = absurd may

pub dequeue_begins : (n : ℕ) → KindBegins queue n dequeues
dequeue_begins n w c sound low fits go may =
    let p : ℕ = c.process in
    let i : ℕ = c.operation in
    let f = free_to n (words_of w.memory) w.hidden p (w.situation p) c (sound.1 p low).0 may in
    let free : w.memory.buffer p ≡ [] = (sound.1 p low).1 ∙ f.2 in
    let same : SameMemory w.memory w.memory = record { cached = λ r. refl; persisted = λ r. refl; buffer = λ q. refl } in
    let d : Move n w p w.memory (Dequeueing c) [] w.hidden = loaded n w p w.memory (Dequeueing c) [] i sound.0
    (λ q j ne b e. ne (one_process q p i (subst (Belongs q) e b) fits.2))
    (λ j b sp out. let ne : j ≢ i = λ e. (let a : 2 * j ≤ (words_of w.memory).announce.now p = sp.0 in let b2 : (words_of w.memory).announce.now p < 2 * i = f.0.0 in omega (arith, a, b2, e)) in (ne, (λ e. ne (sym e))))
    same (free ∙ subst (λ (s : DequeueStage). [] ≡ dequeue_buffer p i s) (sym f.1) refl)
    (refl, fits.2, subst (KnowsDequeue (words_of w.memory) w.hidden p i) (sym f.1) f.0) (λ t none. absurd none) (subst (DequeueInTime (nodes n) w.hidden.links.pos (head_place (words_of w.memory) w.hidden) c.turns) (sym f.1) f.3) in
    let g = goes_on n w p w.memory (Dequeueing c) [] w.hidden sound low d in
    subst (λ (z : Doing). Goes queue n w (moved w w.memory p z w.hidden)) (sym (doing_is c c.stage go)) (record { sound = g.sound; keeps = g.keeps })

pub dequeue_moves : (n : ℕ) → KindMoves n dequeues
dequeue_moves n w c m2 answer sound low at fits go perf =
    let k = stands n w c sound low at go in
    let d = moves n w c.process c.operation c.turns m2 answer fits.0 low fits.2 sound.0 c.stage k.0 go k.1 k.3 k.2 perf in
    let then_is : dequeue_then w.hidden (words_of w.memory) c.operation c.stage ≡ step_then w.hidden (words_of w.memory) (w.situation c.process) = ap (step_then w.hidden (words_of w.memory)) (sym k.0) in
    subst (λ (z : History). Move n w c.process m2 (dequeues.doing (dequeues.next c answer)) (dequeues.says (dequeues.next c answer)) z) then_is d

apart_at : (s : DequeueStage) (end : Ended) → DequeueGoes s → DequeueEnds s end → ⊥
apart_at dequeue.DoneEmpty end go over = go
apart_at (dequeue.Done x) end go over = go
apart_at dequeue.Torn end go over = go
apart_at dequeue.StoreAnnounce end go over = over
apart_at dequeue.FlushAnnounce end go over = over
apart_at dequeue.BackAnnounce end go over = over
apart_at dequeue.LoadHead end go over = over
apart_at (dequeue.LoadNext a) end go over = over
apart_at dequeue.StoreEmpty end go over = over
apart_at dequeue.FlushEmpty end go over = over
apart_at dequeue.BackEmpty end go over = over
apart_at (dequeue.FlushNext a y) end go over = over
apart_at (dequeue.BackNext a y) end go over = over
apart_at (dequeue.SwapTaker a y) end go over = over
apart_at (dequeue.FlushTaker a y d) end go over = over
apart_at (dequeue.BackTaker a y d) end go over = over
apart_at (dequeue.StoreResult a y d) end go over = over
apart_at (dequeue.FlushResult a y d) end go over = over
apart_at (dequeue.BackResult a y d) end go over = over
apart_at (dequeue.SwapHead a y d) end go over = over
apart_at (dequeue.LoadValue y) end go over = over

pub dequeues_hold : (n : ℕ) → AreCalls queue n dequeues
dequeues_hold n = record {
  begins = λ w c sound low fits go may. (
    inr (inl (record { call = c; fits = fits; goes = go; own = refl; may = may; lands = refl })),
    (sound.1 c.process low).1 ∙ (free_to n (words_of w.memory) w.hidden c.process (w.situation c.process) c (sound.1 c.process low).0 may).2,
  );
  serves = λ w c sound low at fits go. let k = stands n w c sound low at go in served n c.process c.operation (words_of w.memory) w.hidden (w.memory.buffer c.process) c.stage sound.0 low (belongs_below n c.process c.operation fits.2 low) go k.1 k.2;
  steps = λ c answer fits go. inr (inl (record { call = c; fits = fits; goes = go; own = refl; at = refl; asks = refl; lands = refl; tells = refl }));
  process = λ c answer. refl;
  apart = λ c end go over. apart_at c.stage end go over;
}
