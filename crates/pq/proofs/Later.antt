-- What a step of one process leaves to the others: what they know, and what was answered, stays true.
use Rattle.std.proofs.Common.{ℕ, ◌+◌, suc, ◌≡◌, ◌≢◌, ◌*◌, ◌/◌, ◌<◌, ◌≤◌, refl, sym, ap, subst, ◌∙◌, inl, inr, arith, le_refl, le_trans, List}
use mathlib.Core.Logic.{dite}
use native.Mathlib.Decide.{ℕ_discrete}
use Rattle.pm_base.specs.Structures.{In, put}
use Rattle.pm_base.proofs.Puts.{put_here, put_else}
use Rattle.pq.specs.Places.{Belongs}
use Rattle.pq.specs.History.{Log, History, Has, HasNot, Side, Words, Both, Spent, Fresh}
use Rattle.pq.specs.Sound.{IsSound}
use Rattle.pq.specs.Knows.{IsNode, IsLink, IsMine, IsReady, KnowsEnqueue, IsUnclaimed, IsClaim, IsTaken, IsOwn, KnowsDequeue, IsSettled, IsPassed, KnowsRecovery, Knows, IsInTime, EnqueueInTime, DequeueInTime, RecoverInTime, InTime, tail_place, head_place}
use Rattle.pq.specs.Queue.{LeavesOut, IsOut, IsTrueResponse}
use Rattle.pq.specs.declared.places.TheConstants.{EMPTY}
use Rattle.pq.specs.declared.enqueue.EnqueueStage.{EnqueueStage}
use Rattle.pq.specs.declared.enqueue.EnqueueStage.TheVariants as enqueue
use Rattle.pq.specs.declared.dequeue.DequeueStage.{DequeueStage}
use Rattle.pq.specs.declared.dequeue.DequeueStage.TheVariants as dequeue
use Rattle.pq.specs.declared.recover.RecoverStage.{RecoverStage}
use Rattle.pq.specs.declared.recover.RecoverStage.TheVariants as recover
use Rattle.pq.specs.declared.calls.Doing.{Doing}
use Rattle.pq.specs.declared.calls.Doing.TheVariants.{Idle, Enqueueing, Dequeueing, Recovering, Stopped, Torn}
use Rattle.pq.specs.declared.calls.Response.{Response}
use Rattle.pq.specs.declared.calls.Response.TheVariants.{Enqueued, Got, Empty, WasEnqueued, NotEnqueued, NotDequeued}
use Rattle.pq.proofs.Numbers.{one_process}
use Rattle.pq.proofs.Logs.{has_at, kept_has, Extends, kept_on, kept_pos, not_on, node_on, link_on, mine_on, settled_on, passed_on, one_place}
use Rattle.pq.proofs.Sides.{stored, both_stored, spent_on, On, on_same, on_stored, both_on, fresh_on, Persisted}
use Rattle.pq.proofs.Sound.{spent_stored}

-- a step of process p in the operation i
pub record Later (i p : ℕ) (w : Words) (h : History) (v : Words) (g : History) : Type 0 where
  pub links : Extends h.links g.links i
  pub claims : Extends h.claims g.claims i
  pub values : (j : ℕ) → Has h.links j → g.value j ≡ h.value j
  pub announce : (q : ℕ) → q ≢ p → On w.announce v.announce q
  pub spent : (q j : ℕ) → Spent w.announce q j → Spent v.announce q j
  pub value : (q j : ℕ) → q ≢ p → Belongs q j → On w.value v.value j
  pub empty : (j : ℕ) → In h.empty j → In g.empty j
  pub linked : (a : ℕ) → w.linked.now a ≡ 1 → v.linked.now a ≡ 1
  pub result : (o : ℕ) → w.result.now o ≢ 0 → v.result.now o ≡ w.result.now o
  pub results : (o u : ℕ) → u ≢ 0 → Both w.result o u → Both v.result o u
  pub unclaimed : (o : ℕ) → o ≢ i → HasNot h.claims o → Both w.result o 0 → Both v.result o 0

-- words are written back, and perhaps more of the logs is persisted
pub later_persisted : (i p : ℕ) (w v : Words) (h g : History) → Persisted w v → Extends h.links g.links i → Extends h.claims g.claims i → g.value ≡ h.value → g.empty ≡ h.empty → Later i p w h v g
later_persisted i p w v h g e l c val em = record {
  links = l;
  claims = c;
  values = λ j has. ap (λ (f : ℕ → ℕ). f j) val;
  announce = λ q ne. e.announce q;
  spent = λ q j s. spent_on w.announce v.announce q j (e.announce q) s;
  value = λ q j ne b. e.value j;
  empty = λ j s. subst (λ (l2 : List ℕ). In l2 j) (sym em) s;
  linked = λ a s. (e.linked a).0 ∙ s;
  result = λ o s. (e.result o).0;
  results = λ o u nz s. both_on w.result v.result o u (e.result o) s;
  unclaimed = λ o ne none s. both_on w.result v.result o 0 (e.result o) s;
}

-- a word of another kind is stored to
pub later_logs : (i p : ℕ) (w : Words) (h g : History) (next taker tail head : Side) → Extends h.links g.links i → Extends h.claims g.claims i → ((j : ℕ) → Has h.links j → g.value j ≡ h.value j) → ((j : ℕ) → In h.empty j → In g.empty j)
    → Later i p w h (record { next = next; taker = taker; value = w.value; linked = w.linked; result = w.result; announce = w.announce; tail = tail; head = head }) g
later_logs i p w h g next taker tail head l c val em = record {
  links = l;
  claims = c;
  values = val;
  announce = λ q ne. on_same w.announce q;
  spent = λ q j s. s;
  value = λ q j ne b. on_same w.value j;
  empty = em;
  linked = λ a s. s;
  result = λ o s. refl;
  results = λ o u nz s. s;
  unclaimed = λ o ne none s. s;
}

module _ (most : ℕ) (i p : ℕ) (w : Words) (h : History) (l : Extends h.links h.links i) (c : Extends h.claims h.claims i) where
  pub later_announced : (u : ℕ) → w.announce.now p ≤ u → Later i p w h (record w { announce = stored w.announce p u }) h
  later_announced u up = record {
    links = l;
    claims = c;
    values = λ j has. refl;
    announce = λ q ne. on_stored w.announce p u q ne;
    spent = λ q j s. spent_stored w.announce p u q j up s;
    value = λ q j ne b. on_same w.value j;
    empty = λ j s. s;
    linked = λ a s. s;
    result = λ o s. refl;
    results = λ o u2 nz s. s;
    unclaimed = λ o ne none s. s;
  }

  pub later_valued : (j x : ℕ) → Belongs p j → Later i p w h (record w { value = stored w.value j x }) h
  later_valued j x mine = record {
    links = l;
    claims = c;
    values = λ j2 has. refl;
    announce = λ q ne. on_same w.announce q;
    spent = λ q j2 s. s;
    value = λ q j2 ne b. on_stored w.value j x j2 (λ same. ne (one_process q p j (subst (Belongs q) same b) mine));
    empty = λ j2 s. s;
    linked = λ a s. s;
    result = λ o s. refl;
    results = λ o u2 nz s. s;
    unclaimed = λ o ne none s. s;
  }

  pub later_linked : (y : ℕ) → Later i p w h (record w { linked = stored w.linked y 1 }) h
  later_linked y = record {
    links = l;
    claims = c;
    values = λ j2 has. refl;
    announce = λ q ne. on_same w.announce q;
    spent = λ q j2 s. s;
    value = λ q j2 ne b. on_same w.value j2;
    empty = λ j2 s. s;
    linked = λ a s. dite (ℕ_discrete a y) (λ same. put_here w.linked.now y 1 a same) (λ ne. put_else w.linked.now y 1 a ne ∙ s);
    result = λ o s. refl;
    results = λ o u2 nz s. s;
    unclaimed = λ o ne none s. s;
  }

  -- the result of a claim that is persisted
  pub later_resulted : (k d y : ℕ) → IsSound most w h → k < h.claims.kept → d ≡ h.claims.at (suc k) → y ≡ h.links.at (suc k) → Later i p w h (record w { result = stored w.result d y }) h
  later_resulted k d y s low is it =
      let less = s.claims.keeps in
      let real : d < most = subst (λ (z : ℕ). z < most) (sym is) (s.claims.real (suc k) (omega (arith, low, less))) in
      let has : Has h.claims d = subst (Has h.claims) (sym is) (has_at most h.claims k s.claims (omega (arith, low, less))) in
      let same_as : w.result.now d ≢ 0 → y ≡ w.result.now d = λ nz. elim (s.result_only d (w.result.now d) real (inl refl) nz) [
        | inl e ↦ absurd (e.1 has)
        | inr r ↦ (
            let under = r.1 in
            let at : suc k ≡ suc r.0 = one_place most h.claims (suc k) (suc r.0) s.claims (omega (arith, low, less)) (omega (arith, under, less)) (sym is ∙ r.2) in
            it ∙ (ap h.links.at at ∙ sym r.3))
      ] in
      let now : (o : ℕ) → w.result.now o ≢ 0 → put w.result.now d y o ≡ w.result.now o = λ o nz. dite (ℕ_discrete o d)
      (λ same. put_here w.result.now d y o same ∙ (same_as (λ z. nz (ap w.result.now same ∙ z)) ∙ ap w.result.now (sym same)))
      (λ ne. put_else w.result.now d y o ne) in record {
        links = l;
        claims = c;
        values = λ j2 has2. refl;
        announce = λ q ne. on_same w.announce q;
        spent = λ q j2 s2. s2;
        value = λ q j2 ne b. on_same w.value j2;
        empty = λ j2 s2. s2;
        linked = λ a s2. s2;
        result = now;
        results = λ o u nz b. (now o (λ z. nz (sym b.0 ∙ z)) ∙ b.0, b.1);
        unclaimed = λ o ne none b. both_stored w.result d y o 0 (λ same. none (subst (Has h.claims) (sym same) has)) b;
      }

  pub later_emptied : Both w.result i 0 → Later i p w h (record w { result = stored w.result i EMPTY }) h
  later_emptied clean = record {
    links = l;
    claims = c;
    values = λ j2 has2. refl;
    announce = λ q ne. on_same w.announce q;
    spent = λ q j2 s2. s2;
    value = λ q j2 ne b. on_same w.value j2;
    empty = λ j2 s2. s2;
    linked = λ a s2. s2;
    result = λ o nz. put_else w.result.now i EMPTY o (λ same. nz (ap w.result.now same ∙ clean.0));
    results = λ o u nz b. both_stored w.result i EMPTY o u (λ same. nz (sym b.0 ∙ (ap w.result.now same ∙ clean.0))) b;
    unclaimed = λ o ne none b. both_stored w.result i EMPTY o 0 ne b;
  }

-- ---- what the others know

module _ (most i p : ℕ) (w : Words) (h : History) (v : Words) (g : History) (s : IsSound most w h) (t : Later i p w h v g) where
  marked_count : h.links.marked ≤ h.links.count
  marked_count = le_trans s.links.marks s.links.keeps

  claims_links : h.claims.count ≤ h.links.count
  claims_links = le_trans s.follows s.links.keeps

  claims_kept_links : h.claims.kept ≤ h.links.count
  claims_kept_links = le_trans s.claims.keeps claims_links

  claims_marked_links : h.claims.marked ≤ h.links.count
  claims_marked_links = le_trans s.claims.marks claims_kept_links

  pub node_marked : (a : ℕ) → IsNode h.links a h.links.marked → IsNode g.links a g.links.marked
  node_marked a n = node_on h.links g.links i a _ _ t.links marked_count t.links.marked n

  pub node_count : (a : ℕ) → IsNode h.links a h.links.count → IsNode g.links a g.links.count
  node_count a n = node_on h.links g.links i a _ _ t.links (le_refl _) t.links.count n

  pub node_claims_marked : (a : ℕ) → IsNode h.links a h.claims.marked → IsNode g.links a g.claims.marked
  node_claims_marked a n = node_on h.links g.links i a _ _ t.links claims_marked_links t.claims.marked n

  pub node_claims : (a : ℕ) → IsNode h.links a h.claims.count → IsNode g.links a g.claims.count
  node_claims a n = node_on h.links g.links i a _ _ t.links claims_links t.claims.count n

  pub link_count : (a y : ℕ) → IsLink h.links a y h.links.count → IsLink g.links a y g.links.count
  link_count a y n = link_on h.links g.links i a y _ _ t.links (le_refl _) t.links.count n

  pub link_kept : (a y : ℕ) → IsLink h.links a y h.links.kept → IsLink g.links a y g.links.kept
  link_kept a y n = link_on h.links g.links i a y _ _ t.links s.links.keeps t.links.kept n

  pub link_marked : (a y : ℕ) → IsLink h.links a y h.links.marked → IsLink g.links a y g.links.marked
  link_marked a y n = link_on h.links g.links i a y _ _ t.links marked_count t.links.marked n

  claim_on : (a y d m m2 : ℕ) → m ≤ h.claims.count → m ≤ m2 → IsClaim h a y d m → IsClaim g a y d m2
  claim_on a y d m m2 low up n =
      let lt = n.within in
      let x = link_on h.links g.links i a y m m2 t.links (le_trans low claims_links) up (record { node = n.node; link = n.link; within = n.within }) in
      let at : g.links.pos a ≡ h.links.pos a = t.links.pos a n.node (let b = le_trans low claims_links in omega (arith, b, lt)) in
      record { node = x.node; link = x.link; claim = ap (λ z. g.claims.at (suc z)) at ∙ (t.claims.at (suc (h.links.pos a)) (omega (arith, lt, low)) ∙ n.claim); within = x.within }

  pub claim_count : (a y d : ℕ) → IsClaim h a y d h.claims.count → IsClaim g a y d g.claims.count
  claim_count a y d n = claim_on a y d _ _ (le_refl _) t.claims.count n

  pub claim_kept : (a y d : ℕ) → IsClaim h a y d h.claims.kept → IsClaim g a y d g.claims.kept
  claim_kept a y d n = claim_on a y d _ _ s.claims.keeps t.claims.kept n

  pub claim_marked : (a y d : ℕ) → IsClaim h a y d h.claims.marked → IsClaim g a y d g.claims.marked
  claim_marked a y d n = claim_on a y d _ _ (le_trans s.claims.marks s.claims.keeps) t.claims.marked n

  pub taken_stays : (j y : ℕ) → IsTaken h j y → IsTaken g j y
  taken_stays j y n =
      let b = n.kept.within in
      let d = claims_kept_links in
      record {
        kept = kept_on most h.claims g.claims i j s.claims t.claims n.kept;
        node = ap g.links.at (kept_pos most h.claims g.claims i j s.claims t.claims n.kept) ∙ (t.links.at (h.claims.pos j) (le_trans b d) ∙ n.node);
      }

  pub unclaimed_stays : (j : ℕ) → j ≢ i → IsUnclaimed w h j → IsUnclaimed v g j
  unclaimed_stays j ne n = record { claims = not_on h.claims g.claims i j t.claims ne n.claims; result = t.unclaimed j ne n.claims n.result }

  pub own_stays : (j d : ℕ) → j ≢ i → IsOwn w h j d → IsOwn v g j d
  own_stays j d ne n = elim n [
    | inl same ↦ inl same
    | inr free ↦ inr (unclaimed_stays j ne free)
  ]

  -- the result of a claim is no 0
  pub claim_real : (a y d m : ℕ) → m ≤ h.claims.count → IsClaim h a y d m → w.result.now d ≡ y → w.result.now d ≢ 0
  claim_real a y d m low n is z =
      let lt = n.within in
      let b = claims_links in
      let at : h.links.pos (h.links.at (suc (h.links.pos a))) ≡ suc (h.links.pos a) = s.links.inverse (suc (h.links.pos a)) (omega (arith, lt, low, b)) in
      let zero_at : h.links.pos (h.links.at 0) ≡ 0 = s.links.inverse 0 (omega arith) in
      let same : h.links.pos (h.links.at (suc (h.links.pos a))) ≡ h.links.pos (h.links.at 0) = ap h.links.pos (n.link ∙ (sym is ∙ (z ∙ sym s.links.first))) in
      omega (arith, at, zero_at, same)

  module _ (q : ℕ) (other : q ≢ p) where
    fresh_stays : (j : ℕ) → Fresh w.announce q j → Fresh v.announce q j
    fresh_stays j n = fresh_on w.announce v.announce q j (t.announce q other) n

    announce_stays : (u : ℕ) → Both w.announce q u → Both v.announce q u
    announce_stays u n = both_on w.announce v.announce q u (t.announce q other) n

    announced_stays : (u : ℕ) → w.announce.now q ≡ u → v.announce.now q ≡ u
    announced_stays u n = (t.announce q other).0 ∙ n

    module _ (j : ℕ) (mine : Belongs q j) (ne : j ≢ i) where
      value_stays : (x : ℕ) → Both w.value j x → Both v.value j x
      value_stays x n = both_on w.value v.value j x (t.value q j other mine) n

      valued_stays : (x : ℕ) → w.value.now j ≡ x → v.value.now j ≡ x
      valued_stays x n = (t.value q j other mine).0 ∙ n

      ready_stays : (x : ℕ) → IsReady w q j x → IsReady v q j x
      ready_stays x n = record { announce = announce_stays (2 * j) n.announce; value = value_stays x n.value }

      none_stays : HasNot h.links j → HasNot g.links j
      none_stays n = not_on h.links g.links i j t.links ne n

      mine_stays : (y : ℕ) → IsMine h.links j y → IsMine g.links j y
      mine_stays y n = mine_on h.links g.links i j y t.links ne n

      pub enqueue_stays : (x : ℕ) (stage : EnqueueStage) → KnowsEnqueue w h q j x stage → KnowsEnqueue v g q j x stage
      enqueue_stays x enqueue.StoreValue k = fresh_stays j k
      enqueue_stays x enqueue.FlushValue k = (fresh_stays j k.0, valued_stays x k.1)
      enqueue_stays x enqueue.BackValue k = (fresh_stays j k.0, valued_stays x k.1)
      enqueue_stays x enqueue.StoreAnnounce k = (fresh_stays j k.0, value_stays x k.1)
      enqueue_stays x enqueue.FlushAnnounce k = (announced_stays _ k.0, value_stays x k.1, none_stays k.2)
      enqueue_stays x enqueue.BackAnnounce k = (announced_stays _ k.0, value_stays x k.1, none_stays k.2)
      enqueue_stays x enqueue.LoadTail k = (ready_stays x k.0, none_stays k.1)
      enqueue_stays x (enqueue.LoadNext a) k = (ready_stays x k.0, none_stays k.1, node_marked a k.2)
      enqueue_stays x (enqueue.SwapNext a) k = (ready_stays x k.0, none_stays k.1, node_marked a k.2)
      enqueue_stays x (enqueue.FlushNext a y) k = (ready_stays x k.0, mine_stays y k.1, node_marked a k.2, link_count a y k.3)
      enqueue_stays x (enqueue.BackNext a y) k = (ready_stays x k.0, mine_stays y k.1, node_marked a k.2, link_count a y k.3)
      enqueue_stays x (enqueue.StoreLinked a y) k = (ready_stays x k.0, mine_stays y k.1, node_marked a k.2, link_kept a y k.3)
      enqueue_stays x (enqueue.FlushLinked a y) k = (ready_stays x k.0, mine_stays y k.1, node_marked a k.2, link_kept a y k.3, t.linked y k.4)
      enqueue_stays x (enqueue.BackLinked a y) k = (ready_stays x k.0, mine_stays y k.1, node_marked a k.2, link_kept a y k.3, t.linked y k.4)
      enqueue_stays x (enqueue.SwapTail a y) k = (ready_stays x k.0, mine_stays y k.1, node_marked a k.2, link_marked a y k.3)
      enqueue_stays x enqueue.Done k = k
      enqueue_stays x enqueue.Torn k = k

      empty_stays : w.result.now j ≡ EMPTY → v.result.now j ≡ EMPTY
      empty_stays n = t.result j (λ z. absurd (let a : EMPTY ≡ 0 = sym n ∙ z in omega (arith, a))) ∙ n

      pub dequeue_stays : (stage : DequeueStage) → KnowsDequeue w h q j stage → KnowsDequeue v g q j stage
      dequeue_stays dequeue.StoreAnnounce k = fresh_stays j k
      dequeue_stays dequeue.FlushAnnounce k = (announced_stays _ k.0, unclaimed_stays j ne k.1)
      dequeue_stays dequeue.BackAnnounce k = (announced_stays _ k.0, unclaimed_stays j ne k.1)
      dequeue_stays dequeue.LoadHead k = (announce_stays _ k.0, unclaimed_stays j ne k.1)
      dequeue_stays (dequeue.LoadNext a) k = (announce_stays _ k.0, unclaimed_stays j ne k.1, node_claims_marked a k.2)
      dequeue_stays dequeue.StoreEmpty k = (announce_stays _ k.0, unclaimed_stays j ne k.1, t.empty j k.2)
      dequeue_stays dequeue.FlushEmpty k = (announce_stays _ k.0, empty_stays k.1)
      dequeue_stays dequeue.BackEmpty k = (announce_stays _ k.0, empty_stays k.1)
      dequeue_stays (dequeue.FlushNext a y) k = (announce_stays _ k.0, unclaimed_stays j ne k.1, node_claims_marked a k.2, link_count a y k.3)
      dequeue_stays (dequeue.BackNext a y) k = (announce_stays _ k.0, unclaimed_stays j ne k.1, node_claims_marked a k.2, link_count a y k.3)
      dequeue_stays (dequeue.SwapTaker a y) k = (announce_stays _ k.0, unclaimed_stays j ne k.1, node_claims_marked a k.2, link_kept a y k.3)
      dequeue_stays (dequeue.FlushTaker a y d) k = (announce_stays _ k.0, own_stays j d ne k.1, node_claims_marked a k.2, claim_count a y d k.3)
      dequeue_stays (dequeue.BackTaker a y d) k = (announce_stays _ k.0, own_stays j d ne k.1, node_claims_marked a k.2, claim_count a y d k.3)
      dequeue_stays (dequeue.StoreResult a y d) k = (announce_stays _ k.0, own_stays j d ne k.1, node_claims_marked a k.2, claim_kept a y d k.3)
      dequeue_stays (dequeue.FlushResult a y d) k = (announce_stays _ k.0, own_stays j d ne k.1, node_claims_marked a k.2, claim_kept a y d k.3, t.result d (claim_real a y d _ s.claims.keeps k.3 k.4) ∙ k.4)
      dequeue_stays (dequeue.BackResult a y d) k = (announce_stays _ k.0, own_stays j d ne k.1, node_claims_marked a k.2, claim_kept a y d k.3, t.result d (claim_real a y d _ s.claims.keeps k.3 k.4) ∙ k.4)
      dequeue_stays (dequeue.SwapHead a y d) k = (announce_stays _ k.0, own_stays j d ne k.1, node_claims_marked a k.2, claim_marked a y d k.3)
      dequeue_stays (dequeue.LoadValue y) k = (announce_stays _ k.0, taken_stays j y k.1)
      dequeue_stays dequeue.DoneEmpty k = k
      dequeue_stays (dequeue.Done x) k = k
      dequeue_stays dequeue.Torn k = k

    module _ (apart : (j : ℕ) → Belongs q j → j ≢ i) where
      links_settled : (j : ℕ) → Belongs q j → IsSettled h.links j → IsSettled g.links j
      links_settled j b n = settled_on h.links g.links i j t.links (apart j b) n

      claims_settled : (j : ℕ) → Belongs q j → IsSettled h.claims j → IsSettled g.claims j
      claims_settled j b n = settled_on h.claims g.claims i j t.claims (apart j b) n

      links_passed : (j a : ℕ) → Belongs q j → IsNode h.links a h.links.count → IsPassed h.links j (h.links.pos a) → IsPassed g.links j (g.links.pos a)
      links_passed j a b m n = subst (IsPassed g.links j) (sym (t.links.pos a m.node m.within)) (passed_on h.links g.links i j (h.links.pos a) t.links (apart j b) n)

      claims_passed : (j a : ℕ) → Belongs q j → IsNode h.links a h.claims.count → IsPassed h.claims j (h.links.pos a) → IsPassed g.claims j (g.links.pos a)
      claims_passed j a b m n = subst (IsPassed g.claims j) (sym (t.links.pos a m.node (le_trans m.within claims_links))) (passed_on h.claims g.claims i j (h.links.pos a) t.claims (apart j b) n)

      found_empty : (j : ℕ) → w.result.now j ≡ EMPTY → v.result.now j ≡ EMPTY
      found_empty j n = t.result j (λ z. absurd (let a : EMPTY ≡ 0 = sym n ∙ z in omega (arith, a))) ∙ n

      pub recovery_stays : (u : ℕ) (stage : RecoverStage) → KnowsRecovery w h q u stage → KnowsRecovery v g q u stage
      recovery_stays u recover.LoadAnnounce k = tt
      recovery_stays u recover.FlushAnnounce k = announced_stays u k
      recovery_stays u recover.BackAnnounce k = announced_stays u k
      recovery_stays u recover.LoadTail k = (announce_stays u k.0, k.1)
      recovery_stays u (recover.FindNode a) k = (announce_stays u k.0, k.1, node_count a k.2, links_passed (u / 2) a k.1 k.2 k.3)
      recovery_stays u (recover.FlushNext a) k = (announce_stays u k.0, k.1, link_count a (u / 2) k.2)
      recovery_stays u (recover.BackNext a) k = (announce_stays u k.0, k.1, link_count a (u / 2) k.2)
      recovery_stays u recover.LoadLinked k = (announce_stays u k.0, k.1, links_settled (u / 2) k.1 k.2)
      recovery_stays u recover.LoadHead k = (announce_stays u k.0, k.1)
      recovery_stays u (recover.FindNext a) k = (announce_stays u k.0, k.1, node_claims a k.2, claims_passed (u / 2) a k.1 k.2 k.3)
      recovery_stays u (recover.LoadTaker a y) k = (announce_stays u k.0, k.1, node_claims a k.2, claims_passed (u / 2) a k.1 k.2 k.3, link_count a y k.4)
      recovery_stays u (recover.FlushTaker a y) k = (announce_stays u k.0, k.1, claim_count a y (u / 2) k.2)
      recovery_stays u (recover.BackTaker a y) k = (announce_stays u k.0, k.1, claim_count a y (u / 2) k.2)
      recovery_stays u recover.LoadResult k = (announce_stays u k.0, k.1, claims_settled (u / 2) k.1 k.2)
      recovery_stays u recover.FlushEmpty k = (announce_stays u k.0, k.1, found_empty (u / 2) k.2)
      recovery_stays u recover.BackEmpty k = (announce_stays u k.0, k.1, found_empty (u / 2) k.2)
      recovery_stays u (recover.LoadValue y) k = (announce_stays u k.0, k.1, taken_stays (u / 2) y k.2)
      recovery_stays u (recover.Done f) k = k
      recovery_stays u recover.Torn k = k

      -- a node that is not ahead of an anchor is not ahead of it later
      in_time : (a m anchor anchor2 turns : ℕ) → m ≤ h.links.count → anchor ≤ anchor2 → IsNode h.links a m → IsInTime (h.links.pos a) anchor most turns → IsInTime (g.links.pos a) anchor2 most turns
      in_time a m anchor anchor2 turns up less n k =
          let same = t.links.pos a n.node (le_trans n.within up) in
          let x = k.reached in
          let y = k.enough in
          record { reached = omega (arith, x, same, less); enough = omega (arith, y, same) }

      place_stays : (a m turns : ℕ) → m ≤ h.links.count → IsNode h.links a m → most ≤ h.links.pos a + turns → most ≤ g.links.pos a + turns
      place_stays a m turns up n k =
          let same = t.links.pos a n.node (le_trans n.within up) in
          omega (arith, k, same)

      enqueue_in_time : (j x anchor anchor2 turns : ℕ) → anchor ≤ anchor2 → (stage : EnqueueStage) → KnowsEnqueue w h q j x stage → EnqueueInTime most h.links.pos anchor turns stage → EnqueueInTime most g.links.pos anchor2 turns stage
      enqueue_in_time j x anchor anchor2 turns less enqueue.StoreValue k time = time
      enqueue_in_time j x anchor anchor2 turns less enqueue.FlushValue k time = time
      enqueue_in_time j x anchor anchor2 turns less enqueue.BackValue k time = time
      enqueue_in_time j x anchor anchor2 turns less enqueue.StoreAnnounce k time = time
      enqueue_in_time j x anchor anchor2 turns less enqueue.FlushAnnounce k time = time
      enqueue_in_time j x anchor anchor2 turns less enqueue.BackAnnounce k time = time
      enqueue_in_time j x anchor anchor2 turns less enqueue.LoadTail k time = omega (arith, less, time)
      enqueue_in_time j x anchor anchor2 turns less (enqueue.LoadNext a) k time = in_time a _ anchor anchor2 turns marked_count less k.2 time
      enqueue_in_time j x anchor anchor2 turns less (enqueue.SwapNext a) k time = in_time a _ anchor anchor2 turns marked_count less k.2 time
      enqueue_in_time j x anchor anchor2 turns less (enqueue.FlushNext a y) k time = in_time a _ anchor anchor2 turns marked_count less k.2 time
      enqueue_in_time j x anchor anchor2 turns less (enqueue.BackNext a y) k time = in_time a _ anchor anchor2 turns marked_count less k.2 time
      enqueue_in_time j x anchor anchor2 turns less (enqueue.StoreLinked a y) k time = in_time a _ anchor anchor2 turns marked_count less k.2 time
      enqueue_in_time j x anchor anchor2 turns less (enqueue.FlushLinked a y) k time = in_time a _ anchor anchor2 turns marked_count less k.2 time
      enqueue_in_time j x anchor anchor2 turns less (enqueue.BackLinked a y) k time = in_time a _ anchor anchor2 turns marked_count less k.2 time
      enqueue_in_time j x anchor anchor2 turns less (enqueue.SwapTail a y) k time = in_time a _ anchor anchor2 turns marked_count less k.2 time
      enqueue_in_time j x anchor anchor2 turns less enqueue.Done k time = absurd k
      enqueue_in_time j x anchor anchor2 turns less enqueue.Torn k time = absurd k

      dequeue_in_time : (j anchor anchor2 turns : ℕ) → anchor ≤ anchor2 → (stage : DequeueStage) → KnowsDequeue w h q j stage → DequeueInTime most h.links.pos anchor turns stage → DequeueInTime most g.links.pos anchor2 turns stage
      dequeue_in_time j anchor anchor2 turns less dequeue.StoreAnnounce k time = time
      dequeue_in_time j anchor anchor2 turns less dequeue.FlushAnnounce k time = time
      dequeue_in_time j anchor anchor2 turns less dequeue.BackAnnounce k time = time
      dequeue_in_time j anchor anchor2 turns less dequeue.LoadHead k time = omega (arith, less, time)
      dequeue_in_time j anchor anchor2 turns less (dequeue.LoadNext a) k time = in_time a _ anchor anchor2 turns claims_marked_links less k.2 time
      dequeue_in_time j anchor anchor2 turns less (dequeue.FlushNext a y) k time = in_time a _ anchor anchor2 turns claims_marked_links less k.2 time
      dequeue_in_time j anchor anchor2 turns less (dequeue.BackNext a y) k time = in_time a _ anchor anchor2 turns claims_marked_links less k.2 time
      dequeue_in_time j anchor anchor2 turns less (dequeue.SwapTaker a y) k time = in_time a _ anchor anchor2 turns claims_marked_links less k.2 time
      dequeue_in_time j anchor anchor2 turns less (dequeue.FlushTaker a y d) k time = in_time a _ anchor anchor2 turns claims_marked_links less k.2 time
      dequeue_in_time j anchor anchor2 turns less (dequeue.BackTaker a y d) k time = in_time a _ anchor anchor2 turns claims_marked_links less k.2 time
      dequeue_in_time j anchor anchor2 turns less (dequeue.StoreResult a y d) k time = in_time a _ anchor anchor2 turns claims_marked_links less k.2 time
      dequeue_in_time j anchor anchor2 turns less (dequeue.FlushResult a y d) k time = in_time a _ anchor anchor2 turns claims_marked_links less k.2 time
      dequeue_in_time j anchor anchor2 turns less (dequeue.BackResult a y d) k time = in_time a _ anchor anchor2 turns claims_marked_links less k.2 time
      dequeue_in_time j anchor anchor2 turns less (dequeue.SwapHead a y d) k time = in_time a _ anchor anchor2 turns claims_marked_links less k.2 time
      dequeue_in_time j anchor anchor2 turns less dequeue.StoreEmpty k time = tt
      dequeue_in_time j anchor anchor2 turns less dequeue.FlushEmpty k time = tt
      dequeue_in_time j anchor anchor2 turns less dequeue.BackEmpty k time = tt
      dequeue_in_time j anchor anchor2 turns less (dequeue.LoadValue y) k time = tt
      dequeue_in_time j anchor anchor2 turns less dequeue.DoneEmpty k time = tt
      dequeue_in_time j anchor anchor2 turns less (dequeue.Done x) k time = tt
      dequeue_in_time j anchor anchor2 turns less dequeue.Torn k time = tt

      recovery_in_time : (u turns : ℕ) → (stage : RecoverStage) → KnowsRecovery w h q u stage → RecoverInTime most h.links.pos turns stage → RecoverInTime most g.links.pos turns stage
      recovery_in_time u turns recover.LoadAnnounce k time = time
      recovery_in_time u turns recover.FlushAnnounce k time = time
      recovery_in_time u turns recover.BackAnnounce k time = time
      recovery_in_time u turns recover.LoadTail k time = time
      recovery_in_time u turns recover.LoadHead k time = time
      recovery_in_time u turns (recover.FindNode a) k time = place_stays a _ turns (le_refl _) k.2 time
      recovery_in_time u turns (recover.FindNext a) k time = place_stays a _ turns claims_links k.2 time
      recovery_in_time u turns (recover.LoadTaker a y) k time = place_stays a _ turns claims_links k.2 time
      recovery_in_time u turns (recover.FlushNext a) k time = tt
      recovery_in_time u turns (recover.BackNext a) k time = tt
      recovery_in_time u turns recover.LoadLinked k time = tt
      recovery_in_time u turns (recover.FlushTaker a y) k time = tt
      recovery_in_time u turns (recover.BackTaker a y) k time = tt
      recovery_in_time u turns recover.LoadResult k time = tt
      recovery_in_time u turns recover.FlushEmpty k time = tt
      recovery_in_time u turns recover.BackEmpty k time = tt
      recovery_in_time u turns (recover.LoadValue y) k time = tt
      recovery_in_time u turns (recover.Done f) k time = tt
      recovery_in_time u turns recover.Torn k time = tt

      pub time_stays : (now : Doing) → tail_place w h ≤ tail_place v g → head_place w h ≤ head_place v g → Knows w h q now → InTime most w h now → InTime most v g now
      time_stays (Idle u) tails heads k time = tt
      time_stays (Enqueueing c) tails heads k time = enqueue_in_time c.operation c.value _ _ c.turns tails c.stage k.2 time
      time_stays (Dequeueing c) tails heads k time = dequeue_in_time c.operation _ _ c.turns heads c.stage k.2 time
      time_stays (Recovering c) tails heads k time = recovery_in_time c.announced c.turns c.stage k.1 time
      time_stays Stopped tails heads k time = tt
      time_stays Torn tails heads k time = tt

      pub knows_stays : (now : Doing) → Knows w h q now → Knows v g q now
      knows_stays (Idle u) k = announce_stays u k
      knows_stays (Enqueueing c) k = (k.0, k.1, enqueue_stays c.operation k.1 (apart c.operation k.1) c.value c.stage k.2)
      knows_stays (Dequeueing c) k = (k.0, k.1, dequeue_stays c.operation k.1 (apart c.operation k.1) c.stage k.2)
      knows_stays (Recovering c) k = (k.0, recovery_stays c.announced c.stage k.1)
      knows_stays Stopped k = tt
      knows_stays Torn k = k

  -- ---- what was answered

  out_stays : (log new : Log) (q j : ℕ) (now now2 : Doing) → Extends log new i → j ≢ i → LeavesOut j now2 → IsOut w log q j now → IsOut v new q j now2
  out_stays log new q j now now2 x ne leaves n = record { none = not_on log new i j x ne n.none; mine = n.mine; spent = t.spent q j n.spent; leaves = leaves }

  pub answered_stays : (q : ℕ) (now now2 : Doing) (returned : Response) → ((j : ℕ) → Belongs q j → Spent w.announce q j → LeavesOut j now → (j ≢ i) × LeavesOut j now2) → IsTrueResponse w h q now returned → IsTrueResponse v g q now2 returned
  answered_stays q now now2 (Enqueued j x) leaves n = (kept_on most h.links g.links i j s.links t.links n.0, t.values j (kept_has most h.links j s.links n.0) ∙ n.1)
  answered_stays q now now2 (Got j x) leaves n =
      let b = n.0.within in
      let a = n.0.above in
      let d = claims_kept_links in
      let at : g.links.at (g.claims.pos j) ≡ h.links.at (h.claims.pos j) = ap g.links.at (kept_pos most h.claims g.claims i j s.claims t.claims n.0) ∙ t.links.at (h.claims.pos j) (le_trans b d) in
      let back : h.links.pos (h.links.at (h.claims.pos j)) ≡ h.claims.pos j = s.links.inverse (h.claims.pos j) (le_trans b d) in
      let has : Has h.links (h.links.at (h.claims.pos j)) = record { there = ap h.links.at back; above = omega (arith, a, back); within = omega (arith, b, d, back) } in
      (kept_on most h.claims g.claims i j s.claims t.claims n.0, ap g.value at ∙ (t.values _ has ∙ n.1))
  answered_stays q now now2 (Empty j) leaves n = let l = leaves j n.0.mine n.0.spent n.0.leaves in (out_stays h.claims g.claims q j now now2 t.claims l.0 l.1 n.0, t.empty j n.1, t.results j EMPTY (λ z. omega (arith, z)) n.2)
  answered_stays q now now2 (WasEnqueued j) leaves n = kept_on most h.links g.links i j s.links t.links n
  answered_stays q now now2 (NotEnqueued j) leaves n = let l = leaves j n.mine n.spent n.leaves in out_stays h.links g.links q j now now2 t.links l.0 l.1 n
  answered_stays q now now2 (NotDequeued j) leaves n = let l = leaves j n.0.mine n.0.spent n.0.leaves in (out_stays h.claims g.claims q j now now2 t.claims l.0 l.1 n.0, t.unclaimed j l.0 n.0.none n.1)
