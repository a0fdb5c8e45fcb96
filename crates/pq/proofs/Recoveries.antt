-- A recovery keeps the queue sound, and tells the truth.
use Rattle.std.proofs.Common.{ℕ, suc, ◌≡◌, ◌≢◌, ◌*◌, ◌/◌, ◌%◌, ◌<◌, ◌≤◌, ◌==◌, refl, sym, ap, subst, ◌∙◌, inl, inr, arith, le_refl, le_trans, List, [], ◌∷◌, if◌then◌else◌, nat_lt, eq-eqb, ne_eqb}
use mathlib.Core.Logic.{dite}
use native.Mathlib.Decide.{ℕ_discrete}
use Rattle.ds_words.specs.declared.access.BufferEntry.{BufferEntry}
use Rattle.ds_words.specs.Memory.{Memory, SameMemory, Performs}
use Rattle.pm_base.specs.Structures.{In, Serves, Goes, KindBegins, AreCalls}
use Rattle.pq.specs.Places.{Belongs, nodes, next_at, taker_at, result_at, announce_at}
use Rattle.pq.specs.Calls.{recover_access_at, recover_stage, recover_turns, recover_announced, RecoverGoes}
use Rattle.pq.specs.History.{Log, History, HasNot, HasKept, kept_to, with_links, with_claims, Words, words_of, Both, Spent}
use Rattle.pq.specs.Sound.{IsLog, IsSound}
use Rattle.pq.specs.Knows.{IsNode, IsLink, IsClaim, IsTaken, IsPassed, KnowsRecovery, Knows, RecoverInTime, InTime, buffer_at, recover_buffer, entry}
use Rattle.pq.specs.Queue.{IsOut, LeavesOut, IsTrueResponse, recover_then, step_then, RecoverEnds, recover_doing, recover_says, MayRecover, recoveries, queue}
use Rattle.pq.specs.declared.places.TheConstants.{MOST_NODES, EMPTY}
use Rattle.pq.specs.declared.recover.Recover.{Recover}
use Rattle.pq.specs.declared.recover.RecoverStage.{RecoverStage}
use Rattle.pq.specs.declared.recover.RecoverStage.TheVariants as recover
use Rattle.pq.specs.declared.recover.Found.TheVariants as found
use Rattle.pq.specs.declared.calls.Doing.{Doing}
use Rattle.pq.specs.declared.calls.Doing.TheVariants.{Idle, Enqueueing, Dequeueing, Recovering, Stopped, Torn}
use Rattle.pq.specs.declared.calls.Ended.{Ended}
use Rattle.pq.specs.declared.calls.Response.{Response}
use Rattle.pq.specs.declared.calls.Response.TheVariants.{Got, Empty, WasEnqueued, NotEnqueued, NotDequeued}
use Rattle.pq.proofs.Numbers.{belongs_above, belongs_below}
use Rattle.pq.proofs.Logs.{log_fits, place_of, kept_has, kept_at, node_at, pos_is, at_real, one_place, Extends, extends_same, extends_kept}
use Rattle.pq.proofs.Sides.{Persisted}
use Rattle.pq.proofs.Sound.{sound_persisted, sound_links_kept, sound_claims_kept, is_last}
use Rattle.pq.proofs.Later.{later_persisted, recovery_stays}
use Rattle.pq.proofs.Moves.{KindMoves, Queue, moved, Move, goes_on, one_back, back_persists, flushed_one, has_room, has_first}
use Rattle.pq.proofs.Acts.{if_true, if_false, less_true, loaded, flushed, backed}
use Rattle.pq.proofs.Enqueues.{spent_by, node_real, link_real, place_fits, process_fits, anchor_fits}

-- a result EMPTY says that the dequeue took nothing, and found the queue empty
pub says_empty : (n : ℕ) (v : Words) (h : History) (i : ℕ) → n < 16384 → IsSound (nodes n) v h → i < nodes n → v.result.now i ≡ EMPTY → HasNot h.claims i × In h.empty i
says_empty n v h i few sound real is = elim (sound.result_only i EMPTY real (inl is) (λ z. omega (arith, z))) [
  | inl r ↦ (r.1, r.2)
  | inr r ↦ (
      let under = r.1 in
      let c1 = sound.claims.keeps in
      let c2 = sound.follows in
      let c3 = sound.links.keeps in
      let low = sound.links.real (suc r.0) (omega (arith, under, c1, c2, c3)) in
      let same = r.3 in
      absurd (omega (arith, low, same, few)))
]

abbrev call : ℕ → ℕ → ℕ → RecoverStage → Recover
call p u t s = record { process = p; announced = u; turns = t; stage = s }

doing_is : (c : Recover) (s : RecoverStage) → RecoverGoes s → recover_doing c s ≡ Recovering c
doing_is c recover.LoadAnnounce go = refl
doing_is c recover.FlushAnnounce go = refl
doing_is c recover.BackAnnounce go = refl
doing_is c recover.LoadTail go = refl
doing_is c (recover.FindNode a) go = refl
doing_is c (recover.FlushNext a) go = refl
doing_is c (recover.BackNext a) go = refl
doing_is c recover.LoadLinked go = refl
doing_is c recover.LoadHead go = refl
doing_is c (recover.FindNext a) go = refl
doing_is c (recover.LoadTaker a y) go = refl
doing_is c (recover.FlushTaker a y) go = refl
doing_is c (recover.BackTaker a y) go = refl
doing_is c recover.LoadResult go = refl
doing_is c recover.FlushEmpty go = refl
doing_is c recover.BackEmpty go = refl
doing_is c (recover.LoadValue y) go = refl
doing_is c (recover.Done f) go = absurd go
doing_is c recover.Torn go = absurd go

leaves_out : (p u t j : ℕ) (s : RecoverStage) → LeavesOut j (recover_doing (call p u t s) s)
leaves_out p u t j recover.LoadAnnounce = tt
leaves_out p u t j recover.FlushAnnounce = tt
leaves_out p u t j recover.BackAnnounce = tt
leaves_out p u t j recover.LoadTail = tt
leaves_out p u t j (recover.FindNode a) = tt
leaves_out p u t j (recover.FlushNext a) = tt
leaves_out p u t j (recover.BackNext a) = tt
leaves_out p u t j recover.LoadLinked = tt
leaves_out p u t j recover.LoadHead = tt
leaves_out p u t j (recover.FindNext a) = tt
leaves_out p u t j (recover.LoadTaker a y) = tt
leaves_out p u t j (recover.FlushTaker a y) = tt
leaves_out p u t j (recover.BackTaker a y) = tt
leaves_out p u t j recover.LoadResult = tt
leaves_out p u t j recover.FlushEmpty = tt
leaves_out p u t j recover.BackEmpty = tt
leaves_out p u t j (recover.LoadValue y) = tt
leaves_out p u t j (recover.Done f) = tt
leaves_out p u t j recover.Torn = tt

module _ (n : ℕ) (w : Queue) (p u t : ℕ) (m2 : Memory ℕ) (answer : ℕ) (few : n < 16384) (low : p < n) (sound : IsSound (nodes n) (words_of w.memory) w.hidden) where
  abbrev m : Memory ℕ
  m = w.memory

  abbrev v : Words
  v = words_of w.memory

  abbrev h : History
  h = w.hidden

  abbrev most : ℕ
  most = nodes n

  -- the operation that was announced
  abbrev i : ℕ
  i = u / 2

  -- the process comes to this stage, with this history
  abbrev Reaches : ℕ → ℕ → RecoverStage → History → Type 0
  Reaches x y s g = Move n w p m2 (recover_doing (call p x y s) s) (recover_says (call p x y s) s) g

  apart : (q j : ℕ) → q ≢ p → Belongs q j → j ≢ 0
  apart q j ne b z = (let a = belongs_above q j b in omega (arith, a, z))

  fits : (k : ℕ) → k < nodes n → k < MOST_NODES
  fits k l = omega (arith, l, few)

  suc_apart : p ≢ suc p
  suc_apart e = omega (arith, e)

  leaves : (x y : ℕ) (s : RecoverStage) (j : ℕ) → Belongs p j → Spent v.announce p j → LeavesOut j (w.situation p) → (j ≢ 0) × LeavesOut j (recover_doing (call p x y s) s)
  leaves x y s j b sp out = ((λ z. (let a = belongs_above p j b in omega (arith, a, z))), leaves_out p x y j s)

  kept_knowledge : (g : History) (stage : RecoverStage) → Persisted v (words_of m2) → Extends h.links g.links 0 → Extends h.claims g.claims 0 → g.value ≡ h.value → g.empty ≡ h.empty → KnowsRecovery v h p u stage → KnowsRecovery (words_of m2) g p u stage
  kept_knowledge g stage e l c val em k = recovery_stays most 0 (suc p) v h (words_of m2) g sound (later_persisted 0 (suc p) v (words_of m2) h g e l c val em) p suc_apart (λ j b z. (let a = belongs_above p j b in omega (arith, a, z))) u stage k

  claims_links : h.claims.count ≤ h.links.count
  claims_links = le_trans sound.follows sound.links.keeps

  -- a step that changes no word
  sees : (x y : ℕ) (s : RecoverStage) → SameMemory m m2 → m.buffer p ≡ buffer_at p (recover_doing (call p x y s) s) → Knows v h p (recover_doing (call p x y s) s) → ((returned : Response) → In (recover_says (call p x y s) s) returned → IsTrueResponse v h p (recover_doing (call p x y s) s) returned) → InTime most v h (recover_doing (call p x y s) s) → Reaches x y s h
  sees x y s same free knows tells time = loaded n w p m2 _ _ 0 sound apart (leaves x y s) same free knows tells time

  -- one thing is answered
  one : (z : Words) (g : History) (now : Doing) (says : Response) → IsTrueResponse z g p now says → (returned : Response) → In (says ∷ []) returned → IsTrueResponse z g p now returned
  one z g now says true_answered returned inside = elim inside [
    | inl e ↦ subst (IsTrueResponse z g p now) e true_answered
    | inr none ↦ absurd none
  ]

  -- the node that a load of the link of a node finds
  found_link : (a bound : ℕ) → bound ≤ h.links.count → IsNode h.links a bound → answer ≡ v.next.now a → answer ≢ 0 → IsLink h.links a answer h.links.count
  found_link a bound up node is nz =
      let real = node_real most a bound h.links sound.links up node in
      let o = sound.next.only a answer real (inl (sym is)) nz in
      let lk = o.1 in
      let pos : h.links.pos a ≡ o.0 = pos_is most h.links o.0 a sound.links (omega (arith, lk)) (sym o.2) in
      record { node = node.node; link = ap (λ z. h.links.at (suc z)) pos ∙ sym o.3; within = omega (arith, pos, lk) }

  -- the next place is passed, where another operation stands there
  pass_on : (log : Log) (k : ℕ) → IsLog most log → k < log.count → log.at (suc k) ≢ i → IsPassed log i k → IsPassed log i (suc k)
  pass_on log k l lk ne passed has up = dite (ℕ_discrete (log.pos i) (suc k))
      (λ same. absurd (ne (ap log.at (sym same) ∙ has.there)))
      (λ other. passed has (omega (arith, up, other)))

  moves : (stage : RecoverStage) → w.situation p ≡ Recovering (call p u t stage) → RecoverGoes stage → KnowsRecovery v h p u stage → RecoverInTime most h.links.pos t stage → m.buffer p ≡ recover_buffer p u stage → Performs (queue.class_in n) (recover_access_at p (u / 2) stage) p m m2 answer
      → Reaches (recover_announced stage u answer) (recover_turns stage t) (recover_stage u t stage answer) (recover_then h stage)
  moves recover.LoadAnnounce at go k time free perf =
      let small : answer < 33554432 = dite (ℕ_discrete answer 0)
      (λ z. omega (arith, z))
      (λ nz. let b = (sound.announced p answer (omega (arith, low)) (inl (sym perf.0)) nz).1 in omega (arith, b, low, few)) in
      let test = less_true answer 33554432 small in
      subst (λ (z : ℕ × RecoverStage). Reaches z.0 t z.1 h) (λ j. (if_true (nat_lt answer 33554432) answer u test j, if_true (nat_lt answer 33554432) recover.FlushAnnounce recover.Torn test j))
      (sees answer t recover.FlushAnnounce perf.1 free (refl, sym perf.0) (λ returned none. absurd none) time)
  moves recover.FlushAnnounce at go k time free perf =
      flushed n w p m2 _ _ 0 sound apart (leaves u t recover.BackAnnounce) _ perf.1 (flushed_one p (announce_at p) u m m2 free k perf.1) (refl, k) (λ returned none. absurd none) time
  moves recover.BackAnnounce at go k time free perf =
      let b = one_back p m m2 (entry (announce_at p) u) free perf.1 in
      let e = back_persists p (announce_at p) u m m2 k b in
      let k2 : (words_of m2).announce.now p ≡ u = kept_knowledge h recover.BackAnnounce e (extends_same h.links 0) (extends_same h.claims 0) refl refl k in
      let both : Both (words_of m2).announce p u = (k2, b.there) in
      let s2 = sound_persisted most v (words_of m2) h sound e in
      let to : (s : RecoverStage) → [] ≡ buffer_at p (recover_doing (call p u t s) s) → Knows (words_of m2) h p (recover_doing (call p u t s) s) → ((returned : Response) → In (recover_says (call p u t s) s) returned → IsTrueResponse (words_of m2) h p (recover_doing (call p u t s) s) returned) → InTime most v h (recover_doing (call p u t s) s) → Reaches u t s h =
      λ s mine knows tells time2. backed n w p m2 _ _ 0 sound apart (leaves u t s) _ u h b e s2 (extends_same h.links 0) (extends_same h.claims 0) refl refl mine knows tells refl time2 in
      dite (ℕ_discrete u 0)
      (λ z. subst (λ (s : RecoverStage). Reaches u t s h) (if_true (u == 0) (recover.Done found.Nothing) (if u % 2 == 0 then recover.LoadTail else recover.LoadHead) (eq-eqb u 0 z)) (to (recover.Done found.Nothing) refl both (λ returned none. absurd none) tt))
      (λ nz.
      let mine = s2.announced p u (omega (arith, low)) (inl k2) nz in
      subst (λ (s : RecoverStage). Reaches u t s h) (if_false (u == 0) (recover.Done found.Nothing) (if u % 2 == 0 then recover.LoadTail else recover.LoadHead) (ne_eqb u 0 nz)) (dite (ℕ_discrete (u % 2) 0)
      (λ z. subst (λ (s : RecoverStage). Reaches u t s h) (if_true (u % 2 == 0) recover.LoadTail recover.LoadHead (eq-eqb (u % 2) 0 z)) (to recover.LoadTail refl (refl, (both, mine)) (λ returned none. absurd none) time))
      (λ odd. subst (λ (s : RecoverStage). Reaches u t s h) (if_false (u % 2 == 0) recover.LoadTail recover.LoadHead (ne_eqb (u % 2) 0 odd)) (to recover.LoadHead refl (refl, (both, mine)) (λ returned none. absurd none) time))))
  moves recover.LoadTail at go k time free perf =
      let o = sound.tail answer (inl (sym perf.0)) in
      let up = o.1 in
      let c1 = sound.links.marks in
      let c2 = sound.links.keeps in
      let under : o.0 ≤ h.links.count = omega (arith, up, c1, c2) in
      let node : IsNode h.links answer h.links.count = node_at most h.links o.0 answer h.links.count sound.links under under o.2 in
      let pos : h.links.pos answer ≡ o.0 = pos_is most h.links o.0 answer sound.links under (sym o.2) in
      subst (λ (s : RecoverStage). Reaches u t s h) (if_true (nat_lt answer MOST_NODES) (recover.FindNode answer) recover.Torn (less_true answer MOST_NODES (fits answer (node_real most answer _ h.links sound.links (le_refl _) node))))
      (sees u t (recover.FindNode answer) perf.1 free (refl, (k.0, k.1, node, (λ has z. omega (arith, z, pos, up)))) (λ returned none. absurd none) (omega (arith, time)))
  moves (recover.FindNode a) at go k time free perf = dite (ℕ_discrete answer 0)
      (λ z.
      let last : h.links.pos a ≡ h.links.count = is_last most v h a h.links.count sound (le_refl _) k.2 (sym perf.0 ∙ z) in
      subst (λ (s : RecoverStage). Reaches u (recover_turns (recover.FindNode a) t) s h) (if_true (answer == 0) recover.LoadLinked _ (eq-eqb answer 0 z))
      (sees u (recover_turns (recover.FindNode a) t) recover.LoadLinked perf.1 free (refl, (k.0, k.1, (λ has. k.3 has (let b = has.within in omega (arith, b, last))))) (λ returned none. absurd none) tt))
      (λ nz.
      let link = found_link a h.links.count (le_refl _) k.2 perf.0 nz in
      let lw = link.within in
      subst (λ (s : RecoverStage). Reaches u (recover_turns (recover.FindNode a) t) s h) (if_false (answer == 0) recover.LoadLinked _ (ne_eqb answer 0 nz)) (dite (ℕ_discrete answer i)
      (λ own. subst (λ (s : RecoverStage). Reaches u (recover_turns (recover.FindNode a) t) s h) (if_true (answer == i) (recover.FlushNext a) _ (eq-eqb answer i own))
      (sees u (recover_turns (recover.FindNode a) t) (recover.FlushNext a) perf.1 free (refl, (k.0, k.1, record { node = link.node; link = link.link ∙ own; within = link.within })) (λ returned none. absurd none) tt))
      (λ ne. subst (λ (s : RecoverStage). Reaches u (recover_turns (recover.FindNode a) t) s h) (if_false (answer == i) (recover.FlushNext a) _ (ne_eqb answer i ne)) (dite (ℕ_discrete t 0)
      (λ over. absurd (let c1 = log_fits most h.links sound.links in omega (arith, time, over, lw, c1)))
      (λ more.
      let pos : h.links.pos answer ≡ suc (h.links.pos a) = pos_is most h.links (suc (h.links.pos a)) answer sound.links (omega (arith, lw)) link.link in
      let node : IsNode h.links answer h.links.count = node_at most h.links (suc (h.links.pos a)) answer h.links.count sound.links (omega (arith, lw)) (omega (arith, lw)) (sym link.link) in
      let passed : IsPassed h.links i (h.links.pos answer) = subst (IsPassed h.links i) (sym pos) (pass_on h.links (h.links.pos a) sound.links lw (λ e. ne (sym link.link ∙ e)) k.3) in
      subst (λ (s : RecoverStage). Reaches u (recover_turns (recover.FindNode a) t) s h) (if_false (t == 0) recover.Torn _ (ne_eqb t 0 more))
      (subst (λ (s : RecoverStage). Reaches u (recover_turns (recover.FindNode a) t) s h) (if_true (nat_lt answer MOST_NODES) (recover.FindNode answer) recover.Torn (less_true answer MOST_NODES (fits answer (node_real most answer _ h.links sound.links (le_refl _) node))))
      (sees u (recover_turns (recover.FindNode a) t) (recover.FindNode answer) perf.1 free (refl, (k.0, k.1, node, passed)) (λ returned none. absurd none) (omega (arith, time, pos, more)))))))))
  moves (recover.FlushNext a) at go k time free perf =
      let is : v.next.now a ≡ i = ap v.next.now (sym k.2.node) ∙ (sound.next.cached (h.links.pos a) k.2.within ∙ k.2.link) in
      flushed n w p m2 _ _ 0 sound apart (leaves u t (recover.BackNext a)) _ perf.1 (flushed_one p (next_at a) i m m2 free is perf.1) (refl, k) (λ returned none. absurd none) tt
  moves (recover.BackNext a) at go k time free perf =
      let is : v.next.now a ≡ i = ap v.next.now (sym k.2.node) ∙ (sound.next.cached (h.links.pos a) k.2.within ∙ k.2.link) in
      let b = one_back p m m2 (entry (next_at a) i) free perf.1 in
      let e = back_persists p (next_at a) i m m2 is b in
      let g : History = with_links h (kept_to h.links (suc (h.links.pos a))) in
      let there : (words_of m2).next.kept (h.links.at (h.links.pos a)) ≡ h.links.at (suc (h.links.pos a)) = ap (words_of m2).next.kept k.2.node ∙ (b.there ∙ sym k.2.link) in
      let s2 = sound_links_kept most (words_of m2) h (h.links.pos a) (sound_persisted most v (words_of m2) h sound e) k.2.within there in
      let k2 = kept_knowledge g (recover.BackNext a) e (extends_kept h.links (suc (h.links.pos a)) 0) (extends_same h.claims 0) refl refl k in
      let kept : HasKept g.links i = subst (HasKept g.links) k.2.link (kept_at most g.links (h.links.pos a) s2.links (omega arith)) in
      backed n w p m2 _ _ 0 sound apart (leaves u t (recover.Done found.WasEnqueued)) _ i g b e s2 (extends_kept h.links (suc (h.links.pos a)) 0) (extends_same h.claims 0) refl refl refl k2.0 (one (words_of m2) g (Idle u) (WasEnqueued i) kept) refl tt
  moves recover.LoadLinked at go k time free perf = dite (ℕ_discrete answer 0)
      (λ z.
      let none : HasNot h.links i = λ has.
      let r = place_of h.links i has in
      let up = k.2 has in
      let pos = r.3 in
      let both : Both v.linked i 1 = subst (λ (y : ℕ). Both v.linked y 1) r.2 (sound.linked r.0 (omega (arith, up, pos))) in
      let bad : 1 ≡ 0 = sym both.0 ∙ (sym perf.0 ∙ z) in omega (arith, bad) in
      let out : IsOut v h.links p i (Idle u) = record { none = none; mine = k.1; spent = spent_by v p i u (omega arith) k.0; leaves = tt } in
      subst (λ (s : RecoverStage). Reaches u t s h) (if_true (answer == 0) (recover.Done found.NotEnqueued) (recover.Done found.WasEnqueued) (eq-eqb answer 0 z))
      (sees u t (recover.Done found.NotEnqueued) perf.1 free k.0 (one v h (Idle u) (NotEnqueued i) out) tt))
      (λ nz.
      let r = sound.linked_only i answer (belongs_below n p i k.1 low) (inl (sym perf.0)) nz in
      let kept : HasKept h.links i = subst (HasKept h.links) (sym r.2) (kept_at most h.links r.0 sound.links r.1) in
      subst (λ (s : RecoverStage). Reaches u t s h) (if_false (answer == 0) (recover.Done found.NotEnqueued) (recover.Done found.WasEnqueued) (ne_eqb answer 0 nz))
      (sees u t (recover.Done found.WasEnqueued) perf.1 free k.0 (one v h (Idle u) (WasEnqueued i) kept) tt))
  moves recover.LoadHead at go k time free perf =
      let o = sound.head answer (inl (sym perf.0)) in
      let up = o.1 in
      let c1 = sound.claims.marks in
      let c2 = sound.claims.keeps in
      let cl = claims_links in
      let under : o.0 ≤ h.links.count = omega (arith, up, c1, c2, cl) in
      let node : IsNode h.links answer h.claims.count = node_at most h.links o.0 answer h.claims.count sound.links under (omega (arith, up, c1, c2)) o.2 in
      let pos : h.links.pos answer ≡ o.0 = pos_is most h.links o.0 answer sound.links under (sym o.2) in
      subst (λ (s : RecoverStage). Reaches u t s h) (if_true (nat_lt answer MOST_NODES) (recover.FindNext answer) recover.Torn (less_true answer MOST_NODES (fits answer (node_real most answer _ h.links sound.links cl node))))
      (sees u t (recover.FindNext answer) perf.1 free (refl, (k.0, k.1, node, (λ has z. omega (arith, z, pos, up)))) (λ returned none. absurd none) (omega (arith, time)))
  moves (recover.FindNext a) at go k time free perf = dite (ℕ_discrete answer 0)
      (λ z.
      let cl = claims_links in
      let last : h.links.pos a ≡ h.links.count = is_last most v h a h.claims.count sound cl k.2 (sym perf.0 ∙ z) in
      subst (λ (s : RecoverStage). Reaches u t s h) (if_true (answer == 0) recover.LoadResult _ (eq-eqb answer 0 z))
      (sees u t recover.LoadResult perf.1 free (refl, (k.0, k.1, (λ has. k.3 has (let b = has.within in omega (arith, b, last, cl))))) (λ returned none. absurd none) tt))
      (λ nz.
      let link = found_link a h.claims.count claims_links k.2 perf.0 nz in
      let real = (link_real most a answer _ h.links sound.links (le_refl _) link).1 in
      subst (λ (s : RecoverStage). Reaches u t s h) (if_false (answer == 0) recover.LoadResult _ (ne_eqb answer 0 nz))
      (subst (λ (s : RecoverStage). Reaches u t s h) (if_true (nat_lt answer MOST_NODES) (recover.LoadTaker a answer) recover.Torn (less_true answer MOST_NODES (fits answer real)))
      (sees u t (recover.LoadTaker a answer) perf.1 free (refl, (k.0, k.1, k.2, k.3, link)) (λ returned none. absurd none) time)))
  moves (recover.LoadTaker a y) at go k time free perf = dite (ℕ_discrete answer 0)
      (λ z.
      let over : h.claims.count ≤ h.links.pos a = dite (ℕ_discrete (h.links.pos a) h.claims.count)
      (λ same. omega (arith, same))
      (λ ne.
      let up = k.2.within in
      let under : h.links.pos a < h.claims.count = omega (arith, up, ne) in
      absurd (at_real most h.claims (h.links.pos a) sound.claims under (sym (sound.taker.cached (h.links.pos a) under) ∙ (ap v.taker.now k.4.link ∙ (sym perf.0 ∙ z))))) in
      subst (λ (s : RecoverStage). Reaches u (recover_turns (recover.LoadTaker a y) t) s h) (if_true (answer == 0) recover.LoadResult _ (eq-eqb answer 0 z))
      (sees u (recover_turns (recover.LoadTaker a y) t) recover.LoadResult perf.1 free (refl, (k.0, k.1, (λ has. k.3 has (let b = has.within in omega (arith, b, over))))) (λ returned none. absurd none) tt))
      (λ nz.
      let real = (link_real most a y _ h.links sound.links (le_refl _) k.4).1 in
      let o = sound.taker.only y answer real (inl (sym perf.0)) nz in
      let lk = o.1 in
      let cl = claims_links in
      let lw = k.4.within in
      let place : suc o.0 ≡ suc (h.links.pos a) = one_place most h.links (suc o.0) (suc (h.links.pos a)) sound.links (omega (arith, lk, cl)) (omega (arith, lw)) (sym o.2 ∙ sym k.4.link) in
      let claim : h.claims.at (suc (h.links.pos a)) ≡ answer = ap h.claims.at (sym place) ∙ sym o.3 in
      let within : h.links.pos a < h.claims.count = omega (arith, place, lk) in
      subst (λ (s : RecoverStage). Reaches u (recover_turns (recover.LoadTaker a y) t) s h) (if_false (answer == 0) recover.LoadResult _ (ne_eqb answer 0 nz)) (dite (ℕ_discrete answer i)
      (λ own. subst (λ (s : RecoverStage). Reaches u (recover_turns (recover.LoadTaker a y) t) s h) (if_true (answer == i) (recover.FlushTaker a y) _ (eq-eqb answer i own))
      (sees u (recover_turns (recover.LoadTaker a y) t) (recover.FlushTaker a y) perf.1 free (refl, (k.0, k.1, record { node = k.4.node; link = k.4.link; claim = claim ∙ own; within = within })) (λ returned none. absurd none) tt))
      (λ ne. subst (λ (s : RecoverStage). Reaches u (recover_turns (recover.LoadTaker a y) t) s h) (if_false (answer == i) (recover.FlushTaker a y) _ (ne_eqb answer i ne)) (dite (ℕ_discrete t 0)
      (λ over. absurd (let c1 = log_fits most h.links sound.links in omega (arith, time, over, lw, c1)))
      (λ more.
      let pos : h.links.pos y ≡ suc (h.links.pos a) = pos_is most h.links (suc (h.links.pos a)) y sound.links (omega (arith, lw)) k.4.link in
      let node : IsNode h.links y h.claims.count = node_at most h.links (suc (h.links.pos a)) y h.claims.count sound.links (omega (arith, lw)) (omega (arith, within)) (sym k.4.link) in
      let passed : IsPassed h.claims i (h.links.pos y) = subst (IsPassed h.claims i) (sym pos) (pass_on h.claims (h.links.pos a) sound.claims within (λ e. ne (sym claim ∙ e)) k.3) in
      subst (λ (s : RecoverStage). Reaches u (recover_turns (recover.LoadTaker a y) t) s h) (if_false (t == 0) recover.Torn _ (ne_eqb t 0 more))
      (sees u (recover_turns (recover.LoadTaker a y) t) (recover.FindNext y) perf.1 free (refl, (k.0, k.1, node, passed)) (λ returned none. absurd none) (omega (arith, time, pos, more))))))))
  moves (recover.FlushTaker a y) at go k time free perf =
      let is : v.taker.now y ≡ i = ap v.taker.now (sym k.2.link) ∙ (sound.taker.cached (h.links.pos a) k.2.within ∙ k.2.claim) in
      flushed n w p m2 _ _ 0 sound apart (leaves u t (recover.BackTaker a y)) _ perf.1 (flushed_one p (taker_at y) i m m2 free is perf.1) (refl, k) (λ returned none. absurd none) tt
  moves (recover.BackTaker a y) at go k time free perf =
      let is : v.taker.now y ≡ i = ap v.taker.now (sym k.2.link) ∙ (sound.taker.cached (h.links.pos a) k.2.within ∙ k.2.claim) in
      let b = one_back p m m2 (entry (taker_at y) i) free perf.1 in
      let e = back_persists p (taker_at y) i m m2 is b in
      let g : History = with_claims h (kept_to h.claims (suc (h.links.pos a))) in
      let there : (words_of m2).taker.kept (h.links.at (suc (h.links.pos a))) ≡ h.claims.at (suc (h.links.pos a)) = ap (words_of m2).taker.kept k.2.link ∙ (b.there ∙ sym k.2.claim) in
      let s2 = sound_claims_kept most (words_of m2) h (h.links.pos a) (sound_persisted most v (words_of m2) h sound e) k.2.within there in
      let k2 = kept_knowledge g (recover.BackTaker a y) e (extends_same h.links 0) (extends_kept h.claims (suc (h.links.pos a)) 0) refl refl k in
      let kept : HasKept g.claims i = subst (HasKept g.claims) k.2.claim (kept_at most g.claims (h.links.pos a) s2.claims (omega arith)) in
      let lw = k.2.within in
      let pos : h.claims.pos i ≡ suc (h.links.pos a) = pos_is most h.claims (suc (h.links.pos a)) i sound.claims (omega (arith, lw)) k.2.claim in
      let taken : IsTaken g i y = record { kept = kept; node = ap h.links.at pos ∙ k.2.link } in
      backed n w p m2 _ _ 0 sound apart (leaves u t (recover.LoadValue y)) _ i g b e s2 (extends_same h.links 0) (extends_kept h.claims (suc (h.links.pos a)) 0) refl refl refl (refl, (k2.0, k2.1, taken)) (λ returned none. absurd none) refl tt
  moves recover.LoadResult at go k time free perf = dite (ℕ_discrete answer 0)
      (λ z.
      let none : HasNot h.claims i = λ has.
      let r = place_of h.claims i has in
      let up = k.2 has in
      let pos = r.3 in
      let under = r.1 in
      let cl = claims_links in
      let both : Both v.result i (h.links.at (suc r.0)) = subst (λ (y : ℕ). Both v.result y (h.links.at (suc r.0))) r.2 (sound.result r.0 (omega (arith, up, pos))) in
      at_real most h.links r.0 sound.links (omega (arith, under, cl)) (sym both.0 ∙ (sym perf.0 ∙ z)) in
      let clean : v.result.kept i ≡ 0 = dite (ℕ_discrete (v.result.kept i) 0) (λ y. y) (λ nz. absurd (nz (sym (sound.result_kept i (belongs_below n p i k.1 low) nz) ∙ (sym perf.0 ∙ z)))) in
      let out : IsOut v h.claims p i (Idle u) = record { none = none; mine = k.1; spent = spent_by v p i u (omega arith) k.0; leaves = tt } in
      subst (λ (s : RecoverStage). Reaches u t s h) (if_true (answer == 0) (recover.Done found.NotDequeued) _ (eq-eqb answer 0 z))
      (sees u t (recover.Done found.NotDequeued) perf.1 free k.0 (one v h (Idle u) (NotDequeued i) (out, (sym perf.0 ∙ z, clean))) tt))
      (λ nz. subst (λ (s : RecoverStage). Reaches u t s h) (if_false (answer == 0) (recover.Done found.NotDequeued) _ (ne_eqb answer 0 nz)) (elim (sound.result_only i answer (belongs_below n p i k.1 low) (inl (sym perf.0)) nz) [
        | inl r ↦ subst (λ (s : RecoverStage). Reaches u t s h) (if_true (answer == EMPTY) recover.FlushEmpty _ (eq-eqb answer EMPTY r.0))
            (sees u t recover.FlushEmpty perf.1 free (refl, (k.0, k.1, sym perf.0 ∙ r.0)) (λ returned none. absurd none) tt)
        | inr r ↦ (
            let under = r.1 in
            let c2 = sound.claims.keeps in
            let cl = claims_links in
            let real : answer < nodes n = subst (λ (y : ℕ). y < nodes n) (sym r.3) (sound.links.real (suc r.0) (omega (arith, under, c2, cl))) in
            let kept : HasKept h.claims i = subst (HasKept h.claims) (sym r.2) (kept_at most h.claims r.0 sound.claims r.1) in
            let pos : h.claims.pos i ≡ suc r.0 = pos_is most h.claims (suc r.0) i sound.claims (omega (arith, under, c2)) (sym r.2) in
            let taken : IsTaken h i answer = record { kept = kept; node = ap h.links.at pos ∙ sym r.3 } in
            subst (λ (s : RecoverStage). Reaches u t s h) (if_false (answer == EMPTY) recover.FlushEmpty _ (ne_eqb answer EMPTY (λ z. omega (arith, z, real, few))))
            (subst (λ (s : RecoverStage). Reaches u t s h) (if_true (nat_lt answer MOST_NODES) (recover.LoadValue answer) recover.Torn (less_true answer MOST_NODES (fits answer real)))
            (sees u t (recover.LoadValue answer) perf.1 free (refl, (k.0, k.1, taken)) (λ returned none. absurd none) tt)))
      ]))
  moves recover.FlushEmpty at go k time free perf =
      flushed n w p m2 _ _ 0 sound apart (leaves u t recover.BackEmpty) _ perf.1 (flushed_one p (result_at i) EMPTY m m2 free k.2 perf.1) (refl, k) (λ returned none. absurd none) tt
  moves recover.BackEmpty at go k time free perf =
      let b = one_back p m m2 (entry (result_at i) EMPTY) free perf.1 in
      let e = back_persists p (result_at i) EMPTY m m2 k.2 b in
      let nothing = says_empty n v h i few sound (belongs_below n p i k.1 low) k.2 in
      let k2 = kept_knowledge h recover.BackEmpty e (extends_same h.links 0) (extends_same h.claims 0) refl refl k in
      backed n w p m2 _ _ 0 sound apart (leaves u t (recover.Done found.Empty)) _ EMPTY h b e (sound_persisted most v (words_of m2) h sound e) (extends_same h.links 0) (extends_same h.claims 0) refl refl refl k2.0 (one (words_of m2) h (Idle u) (Empty i) (record { none = nothing.0; mine = k2.1; spent = spent_by (words_of m2) p i u (omega arith) k2.0; leaves = tt }, nothing.1, (k2.2, b.there))) refl tt
  moves (recover.LoadValue y) at go k time free perf =
      let kept = k.2.kept in
      let r = place_of h.claims i (kept_has most h.claims i sound.claims kept) in
      let under = r.1 in
      let cl = claims_links in
      let node : h.links.at (suc r.0) ≡ y = ap h.links.at (sym r.3) ∙ k.2.node in
      let both : Both v.value y (h.value y) = subst (λ (z : ℕ). Both v.value z (h.value z)) node (sound.value r.0 (omega (arith, under, cl))) in
      sees u t (recover.Done (found.Got answer)) perf.1 free k.0 (one v h (Idle u) (Got i answer) (kept, ap h.value k.2.node ∙ (sym both.0 ∙ sym perf.0))) tt
  moves (recover.Done f) at go k time free perf = absurd go
  moves recover.Torn at go k time free perf = absurd go

-- ---- what it is served

pub claim_real_node : (n : ℕ) (v : Words) (h : History) (a y d m : ℕ) → IsSound (nodes n) v h → m ≤ h.claims.count → IsClaim h a y d m → y < nodes n
claim_real_node n v h a y d m sound up k =
    let lw = k.within in
    let c1 = sound.follows in
    let c2 = sound.links.keeps in
    subst (λ (z : ℕ). z < nodes n) k.link (sound.links.real (suc (h.links.pos a)) (omega (arith, lw, up, c1, c2)))

pub claim_real_taker : (n : ℕ) (v : Words) (h : History) (a y d m : ℕ) → IsSound (nodes n) v h → m ≤ h.claims.count → IsClaim h a y d m → d < nodes n
claim_real_taker n v h a y d m sound up k =
    let lw = k.within in
    subst (λ (z : ℕ). z < nodes n) k.claim (sound.claims.real (suc (h.links.pos a)) (omega (arith, lw, up)))

pub taken_real : (n : ℕ) (v : Words) (h : History) (j y : ℕ) → IsSound (nodes n) v h → IsTaken h j y → y < nodes n
taken_real n v h j y sound k =
    let b = k.kept.within in
    let c1 = sound.follows in
    let c2 = sound.links.keeps in
    let c3 = sound.claims.keeps in
    subst (λ (z : ℕ). z < nodes n) k.node (sound.links.real (h.claims.pos j) (omega (arith, b, c1, c2, c3)))

served : (n p u : ℕ) (v : Words) (h : History) (b : List (BufferEntry ℕ)) (s : RecoverStage) → IsSound (nodes n) v h → p < n → RecoverGoes s → KnowsRecovery v h p u s → b ≡ recover_buffer p u s → Serves (8 * nodes n) (recover_access_at p (u / 2) s) b
served n p u v h b recover.LoadAnnounce sound low go k is = process_fits n p low
served n p u v h b recover.FlushAnnounce sound low go k is = (process_fits n p low, has_room b is)
served n p u v h b recover.BackAnnounce sound low go k is = has_first (8 * nodes n) (announce_at p) u b (process_fits n p low) is
served n p u v h b recover.LoadTail sound low go k is = anchor_fits n 6 (omega arith)
served n p u v h b (recover.FindNode a) sound low go k is = place_fits (nodes n) a 0 (node_real (nodes n) a _ h.links sound.links (le_refl _) k.2) (omega arith)
served n p u v h b (recover.FlushNext a) sound low go k is = (place_fits (nodes n) a 0 (link_real (nodes n) a (u / 2) _ h.links sound.links (le_refl _) k.2).0 (omega arith), has_room b is)
served n p u v h b (recover.BackNext a) sound low go k is = has_first (8 * nodes n) (next_at a) (u / 2) b (place_fits (nodes n) a 0 (link_real (nodes n) a (u / 2) _ h.links sound.links (le_refl _) k.2).0 (omega arith)) is
served n p u v h b recover.LoadLinked sound low go k is = place_fits (nodes n) (u / 2) 3 (belongs_below n p (u / 2) k.1 low) (omega arith)
served n p u v h b recover.LoadHead sound low go k is = anchor_fits n 7 (omega arith)
served n p u v h b (recover.FindNext a) sound low go k is = place_fits (nodes n) a 0 (node_real (nodes n) a _ h.links sound.links (le_trans sound.follows sound.links.keeps) k.2) (omega arith)
served n p u v h b (recover.LoadTaker a y) sound low go k is = place_fits (nodes n) y 1 (link_real (nodes n) a y _ h.links sound.links (le_refl _) k.4).1 (omega arith)
served n p u v h b (recover.FlushTaker a y) sound low go k is = (place_fits (nodes n) y 1 (claim_real_node n v h a y (u / 2) _ sound (le_refl _) k.2) (omega arith), has_room b is)
served n p u v h b (recover.BackTaker a y) sound low go k is = has_first (8 * nodes n) (taker_at y) (u / 2) b (place_fits (nodes n) y 1 (claim_real_node n v h a y (u / 2) _ sound (le_refl _) k.2) (omega arith)) is
served n p u v h b recover.LoadResult sound low go k is = place_fits (nodes n) (u / 2) 4 (belongs_below n p (u / 2) k.1 low) (omega arith)
served n p u v h b recover.FlushEmpty sound low go k is = (place_fits (nodes n) (u / 2) 4 (belongs_below n p (u / 2) k.1 low) (omega arith), has_room b is)
served n p u v h b recover.BackEmpty sound low go k is = has_first (8 * nodes n) (result_at (u / 2)) EMPTY b (place_fits (nodes n) (u / 2) 4 (belongs_below n p (u / 2) k.1 low) (omega arith)) is
served n p u v h b (recover.LoadValue y) sound low go k is = place_fits (nodes n) y 2 (taken_real n v h (u / 2) y sound k.2) (omega arith)
served n p u v h b (recover.Done f) sound low go k is = absurd go
served n p u v h b recover.Torn sound low go k is = absurd go

-- ---- the calls

-- the process is in this call
stands : (n : ℕ) (w : Queue) (c : Recover) → queue.sound n w → c.process < n → w.situation c.process ≡ recover_doing c c.stage → RecoverGoes c.stage
    → (w.situation c.process ≡ Recovering c) × KnowsRecovery (words_of w.memory) w.hidden c.process c.announced c.stage × (w.memory.buffer c.process ≡ recover_buffer c.process c.announced c.stage)
    × RecoverInTime (nodes n) w.hidden.links.pos c.turns c.stage
stands n w c sound low at go =
    let is : w.situation c.process ≡ Recovering c = at ∙ doing_is c c.stage go in
    let s = sound.1 c.process low in
    let k : Knows (words_of w.memory) w.hidden c.process (Recovering c) = subst (Knows (words_of w.memory) w.hidden c.process) is s.0 in
    (is, k.1, s.1 ∙ ap (buffer_at c.process) is, subst (InTime (nodes n) (words_of w.memory) w.hidden) is s.2)

free_to : (n p : ℕ) (now : Doing) (c : Recover) → MayRecover n now c → (c.stage ≡ recover.LoadAnnounce) × (buffer_at p now ≡ []) × (nodes n ≤ c.turns)
free_to n p (Idle u) c may = absurd may
free_to n p (Enqueueing d) c may = absurd may
free_to n p (Dequeueing d) c may = absurd may
free_to n p (Recovering d) c may = absurd may
free_to n p Stopped c may = (may.0, refl, may.1)
free_to n p Torn c may = absurd may

pub recover_begins : (n : ℕ) → KindBegins queue n recoveries
recover_begins n w c sound low fits go may =
    let p : ℕ = c.process in
    let f = free_to n p (w.situation p) c may in
    let free : w.memory.buffer p ≡ [] = (sound.1 p low).1 ∙ f.1 in
    let same : SameMemory w.memory w.memory = record { cached = λ r. refl; persisted = λ r. refl; buffer = λ q. refl } in
    let d : Move n w p w.memory (Recovering c) [] w.hidden = loaded n w p w.memory (Recovering c) [] 0 sound.0
    (λ q j ne b z. (let a = belongs_above q j b in omega (arith, a, z)))
    (λ j b sp out. ((λ z. (let a = belongs_above p j b in omega (arith, a, z))), tt))
    same (free ∙ subst (λ (s : RecoverStage). [] ≡ recover_buffer p c.announced s) (sym f.0) refl)
    (refl, subst (KnowsRecovery (words_of w.memory) w.hidden p c.announced) (sym f.0) tt) (λ t none. absurd none) (subst (RecoverInTime (nodes n) w.hidden.links.pos c.turns) (sym f.0) f.2) in
    let g = goes_on n w p w.memory (Recovering c) [] w.hidden sound low d in
    subst (λ (z : Doing). Goes queue n w (moved w w.memory p z w.hidden)) (sym (doing_is c c.stage go)) (record { sound = g.sound; keeps = g.keeps })

pub recover_moves : (n : ℕ) → KindMoves n recoveries
recover_moves n w c m2 answer sound low at fits go perf =
    let k = stands n w c sound low at go in
    let d = moves n w c.process c.announced c.turns m2 answer fits.0 low sound.0 c.stage k.0 go k.1 k.3 k.2 perf in
    let then_is : recover_then w.hidden c.stage ≡ step_then w.hidden (words_of w.memory) (w.situation c.process) = ap (step_then w.hidden (words_of w.memory)) (sym k.0) in
    subst (λ (z : History). Move n w c.process m2 (recoveries.doing (recoveries.next c answer)) (recoveries.says (recoveries.next c answer)) z) then_is d

apart_at : (s : RecoverStage) (end : Ended) → RecoverGoes s → RecoverEnds s end → ⊥
apart_at (recover.Done f) end go over = go
apart_at recover.Torn end go over = go
apart_at recover.LoadAnnounce end go over = over
apart_at recover.FlushAnnounce end go over = over
apart_at recover.BackAnnounce end go over = over
apart_at recover.LoadTail end go over = over
apart_at (recover.FindNode a) end go over = over
apart_at (recover.FlushNext a) end go over = over
apart_at (recover.BackNext a) end go over = over
apart_at recover.LoadLinked end go over = over
apart_at recover.LoadHead end go over = over
apart_at (recover.FindNext a) end go over = over
apart_at (recover.LoadTaker a y) end go over = over
apart_at (recover.FlushTaker a y) end go over = over
apart_at (recover.BackTaker a y) end go over = over
apart_at recover.LoadResult end go over = over
apart_at recover.FlushEmpty end go over = over
apart_at recover.BackEmpty end go over = over
apart_at (recover.LoadValue y) end go over = over

pub recoveries_hold : (n : ℕ) → AreCalls queue n recoveries
recoveries_hold n = record {
  begins = λ w c sound low fits go may. (
    inr (inr (record { call = c; fits = fits; goes = go; own = refl; may = may; lands = refl })),
    (sound.1 c.process low).1 ∙ (free_to n c.process (w.situation c.process) c may).1,
  );
  serves = λ w c sound low at fits go. let k = stands n w c sound low at go in served n c.process c.announced (words_of w.memory) w.hidden (w.memory.buffer c.process) c.stage sound.0 low go k.1 k.2;
  steps = λ c answer fits go. inr (inr (record { call = c; fits = fits; goes = go; own = refl; at = refl; asks = refl; lands = refl; tells = refl }));
  process = λ c answer. refl;
  apart = λ c end go over. apart_at c.stage end go over;
}
