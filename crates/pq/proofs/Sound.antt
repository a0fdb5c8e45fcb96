-- What each event makes of the words and of the history is sound.
use Rattle.std.proofs.Common.{ℕ, suc, ◌≡◌, ◌≢◌, ◌*◌, ◌/◌, ◌<◌, ◌≤◌, refl, sym, ap, subst, ◌∙◌, inl, inr, arith, le_trans}
use mathlib.Core.Logic.{dite}
use native.Mathlib.Decide.{ℕ_discrete}
use Rattle.pm_base.specs.Structures.{In, put}
use Rattle.pm_base.proofs.Puts.{put_here, put_else}
use Rattle.pq.specs.Places.{Belongs}
use Rattle.pq.specs.History.{Log, History, Has, HasNot, added, kept_to, marked_to, linking, claiming, emptying, with_links, with_claims, Side, Words, Both, Spent}
use Rattle.pq.specs.Sound.{IsLog, IsWritten, IsSound}
use Rattle.pq.specs.Knows.{IsNode, IsLink}
use Rattle.pq.specs.declared.places.TheConstants.{EMPTY}
use Rattle.pq.proofs.Numbers.{one_process}
use Rattle.pq.proofs.Logs.{has_at, not_at, pos_is, Extends, extends_added, log_added, log_kept, log_marked, at_real, one_place, has_of_kept, has_of_marked}
use Rattle.pq.proofs.Sides.{stored, either_stored, both_stored, both_same, On, either_on, both_on, spent_on, Persisted}

-- ---- words are written back

pub written_on : (most : ℕ) (s t : Side) (place : ℕ → ℕ) (log : Log) → IsLog most log → ((a : ℕ) → On s t a) → IsWritten most s place log → IsWritten most t place log
written_on most s t place log l o h = record {
  cached = λ k low. (o (place k)).0 ∙ h.cached k low;
  persisted = λ k low. elim ((o (place k)).1) [
    | inl same ↦ same ∙ h.persisted k low
    | inr came ↦ came ∙ h.cached k (let a = l.keeps in omega (arith, a, low))
  ];
  only = λ a u la e nz. h.only a u la (either_on s t a u (o a) e) nz;
}

pub sound_persisted : (most : ℕ) (w v : Words) (h : History) → IsSound most w h → Persisted w v → IsSound most v h
sound_persisted most w v h s e = record {
  links = s.links;
  claims = s.claims;
  next = written_on most w.next v.next h.links.at h.links s.links e.next s.next;
  taker = written_on most w.taker v.taker (λ k. h.links.at (suc k)) h.claims s.claims e.taker s.taker;
  follows = s.follows;
  linked = λ k low. both_on w.linked v.linked _ _ (e.linked _) (s.linked k low);
  linked_only = λ a u la h1 nz. s.linked_only a u la (either_on w.linked v.linked a u (e.linked a) h1) nz;
  result = λ k low. both_on w.result v.result _ _ (e.result _) (s.result k low);
  result_kept = λ o la nz. elim ((e.result o).1) [
    | inl same ↦ (e.result o).0 ∙ (s.result_kept o la (λ z. nz (same ∙ z)) ∙ sym same)
    | inr came ↦ (e.result o).0 ∙ sym came
  ];
  result_only = λ o u la h1 nz. s.result_only o u la (either_on w.result v.result o u (e.result o) h1) nz;
  tail = λ u h1. s.tail u (either_on w.tail v.tail 0 u (e.tail 0) h1);
  head = λ u h1. s.head u (either_on w.head v.head 0 u (e.head 0) h1);
  value = λ k low. both_on w.value v.value _ _ (e.value _) (s.value k low);
  announced = λ p u la h1 nz. s.announced p u la (either_on w.announce v.announce p u (e.announce p) h1) nz;
  spent_links = λ p k low b. spent_on w.announce v.announce p _ (e.announce p) (s.spent_links p k low b);
  spent_claims = λ p k low b. spent_on w.announce v.announce p _ (e.announce p) (s.spent_claims p k low b);
  spent_result = λ p o u la h1 nz b. spent_on w.announce v.announce p o (e.announce p) (s.spent_result p o u la (either_on w.result v.result o u (e.result o) h1) nz b);
}

-- ---- a link, a claim or its evidence is persisted for good

written_kept : (most : ℕ) (s : Side) (place : ℕ → ℕ) (log : Log) (k : ℕ) → IsLog most log → IsWritten most s place log → k < log.count → s.kept (place k) ≡ log.at (suc k) → IsWritten most s place (kept_to log (suc k))
written_kept most s place log k l h low there = record {
  cached = h.cached;
  persisted = λ j less. dite (ℕ_discrete j k)
      (λ same. subst (λ (z : ℕ). s.kept (place z) ≡ log.at (suc z)) (sym same) there)
      (λ ne. h.persisted j (let a = l.ahead in omega (arith, a, low, less, ne)));
  only = h.only;
}

pub sound_links_kept : (most : ℕ) (w : Words) (h : History) (k : ℕ) → IsSound most w h → k < h.links.count → w.next.kept (h.links.at k) ≡ h.links.at (suc k) → IsSound most w (with_links h (kept_to h.links (suc k)))
sound_links_kept most w h k s low there = record {
  links = log_kept most h.links (suc k) s.links (omega (arith, low));
  claims = s.claims;
  next = written_kept most w.next h.links.at h.links k s.links s.next low there;
  taker = record { cached = s.taker.cached; persisted = s.taker.persisted; only = s.taker.only };
  follows = (let a = s.follows in omega (arith, a));
  linked = s.linked;
  linked_only = λ a u la h1 nz. let r = s.linked_only a u la h1 nz in (let b = r.1 in (r.0, omega (arith, b), r.2));
  result = s.result;
  result_kept = s.result_kept;
  result_only = s.result_only;
  tail = s.tail;
  head = s.head;
  value = s.value;
  announced = s.announced;
  spent_links = s.spent_links;
  spent_claims = s.spent_claims;
  spent_result = s.spent_result;
}

pub sound_links_marked : (most : ℕ) (w : Words) (h : History) (k : ℕ) → IsSound most w h → k < h.links.kept → k ≤ h.links.marked → Both w.linked (h.links.at (suc k)) 1 → IsSound most w (with_links h (marked_to h.links (suc k)))
sound_links_marked most w h k s low near there = record {
  links = log_marked most h.links (suc k) s.links (omega (arith, low));
  claims = s.claims;
  next = record { cached = s.next.cached; persisted = s.next.persisted; only = s.next.only };
  taker = record { cached = s.taker.cached; persisted = s.taker.persisted; only = s.taker.only };
  follows = s.follows;
  linked = λ j less. dite (ℕ_discrete j k)
      (λ same. subst (λ (z : ℕ). Both w.linked (h.links.at (suc z)) 1) (sym same) there)
      (λ ne. s.linked j (omega (arith, less, ne, near)));
  linked_only = s.linked_only;
  result = s.result;
  result_kept = s.result_kept;
  result_only = s.result_only;
  tail = λ u h1. let r = s.tail u h1 in (let b = r.1 in (r.0, omega (arith, b), r.2));
  head = s.head;
  value = s.value;
  announced = s.announced;
  spent_links = s.spent_links;
  spent_claims = s.spent_claims;
  spent_result = s.spent_result;
}

pub sound_claims_kept : (most : ℕ) (w : Words) (h : History) (k : ℕ) → IsSound most w h → k < h.claims.count → w.taker.kept (h.links.at (suc k)) ≡ h.claims.at (suc k) → IsSound most w (with_claims h (kept_to h.claims (suc k)))
sound_claims_kept most w h k s low there = record {
  links = s.links;
  claims = log_kept most h.claims (suc k) s.claims (omega (arith, low));
  next = s.next;
  taker = written_kept most w.taker (λ j. h.links.at (suc j)) h.claims k s.claims s.taker low there;
  follows = s.follows;
  linked = s.linked;
  linked_only = s.linked_only;
  result = s.result;
  result_kept = s.result_kept;
  result_only = λ o u la h1 nz. elim (s.result_only o u la h1 nz) [
    | inl e ↦ inl (e.0, (λ has. e.1 (has_of_kept h.claims (suc k) o has)), e.2)
    | inr r ↦ inr (let b = r.1 in (r.0, omega (arith, b), r.2, r.3))
  ];
  tail = s.tail;
  head = s.head;
  value = s.value;
  announced = s.announced;
  spent_links = s.spent_links;
  spent_claims = s.spent_claims;
  spent_result = s.spent_result;
}

pub sound_claims_marked : (most : ℕ) (w : Words) (h : History) (k : ℕ) → IsSound most w h → k < h.claims.kept → k ≤ h.claims.marked → Both w.result (h.claims.at (suc k)) (h.links.at (suc k)) → IsSound most w (with_claims h (marked_to h.claims (suc k)))
sound_claims_marked most w h k s low near there = record {
  links = s.links;
  claims = log_marked most h.claims (suc k) s.claims (omega (arith, low));
  next = s.next;
  taker = record { cached = s.taker.cached; persisted = s.taker.persisted; only = s.taker.only };
  follows = s.follows;
  linked = s.linked;
  linked_only = s.linked_only;
  result = λ j less. dite (ℕ_discrete j k)
      (λ same. subst (λ (z : ℕ). Both w.result (h.claims.at (suc z)) (h.links.at (suc z))) (sym same) there)
      (λ ne. s.result j (omega (arith, less, ne, near)));
  result_kept = s.result_kept;
  result_only = λ o u la h1 nz. elim (s.result_only o u la h1 nz) [
    | inl e ↦ inl (e.0, (λ has. e.1 (has_of_marked h.claims (suc k) o has)), e.2)
    | inr r ↦ inr r
  ];
  tail = s.tail;
  head = λ u h1. let r = s.head u h1 in (let b = r.1 in (r.0, omega (arith, b), r.2));
  value = s.value;
  announced = s.announced;
  spent_links = s.spent_links;
  spent_claims = s.spent_claims;
  spent_result = s.spent_result;
}

-- ---- the owner's words

pub spent_stored : (s : Side) (p u q j : ℕ) → s.now p ≤ u → Spent s q j → Spent (stored s p u) q j
spent_stored s p u q j up h = dite (ℕ_discrete q p)
    (λ same.
    let a : 2 * j ≤ s.now p = subst (λ (z : ℕ). 2 * j ≤ s.now z) same h.0 in
    (subst (λ (z : ℕ). 2 * j ≤ z) (sym (put_here s.now p u q same)) (le_trans a up), h.1))
    (λ ne. (subst (λ (z : ℕ). 2 * j ≤ z) (sym (put_else s.now p u q ne)) h.0, h.1))

pub sound_announced : (most : ℕ) (w : Words) (h : History) (p u : ℕ) → IsSound most w h → w.announce.now p ≤ u → Belongs p (u / 2) → IsSound most (record w { announce = stored w.announce p u }) h
sound_announced most w h p u s up mine = record {
  links = s.links;
  claims = s.claims;
  next = s.next;
  taker = s.taker;
  follows = s.follows;
  linked = s.linked;
  linked_only = s.linked_only;
  result = s.result;
  result_kept = s.result_kept;
  result_only = s.result_only;
  tail = s.tail;
  head = s.head;
  value = s.value;
  announced = λ q x la h1 nz. elim (either_stored w.announce p u q x h1) [
    | inl old ↦ s.announced q x la old nz
    | inr new ↦ subst (λ (z : ℕ). Belongs z (x / 2)) (sym new.0) (subst (λ (z : ℕ). Belongs p (z / 2)) (sym new.1) mine)
  ];
  spent_links = λ q k low b. spent_stored w.announce p u q _ up (s.spent_links q k low b);
  spent_claims = λ q k low b. spent_stored w.announce p u q _ up (s.spent_claims q k low b);
  spent_result = λ q o x la h1 nz b. spent_stored w.announce p u q o up (s.spent_result q o x la h1 nz b);
}

pub sound_valued : (most : ℕ) (w : Words) (h : History) (i x : ℕ) → IsSound most w h → HasNot h.links i → IsSound most (record w { value = stored w.value i x }) h
sound_valued most w h i x s none = record {
  links = s.links;
  claims = s.claims;
  next = s.next;
  taker = s.taker;
  follows = s.follows;
  linked = s.linked;
  linked_only = s.linked_only;
  result = s.result;
  result_kept = s.result_kept;
  result_only = s.result_only;
  tail = s.tail;
  head = s.head;
  value = λ k low. both_stored w.value i x _ _ (not_at most h.links i k s.links none low) (s.value k low);
  announced = s.announced;
  spent_links = s.spent_links;
  spent_claims = s.spent_claims;
  spent_result = s.spent_result;
}

-- ---- evidence, tail and head

pub sound_linked : (most : ℕ) (w : Words) (h : History) (k y : ℕ) → IsSound most w h → k < h.links.kept → y ≡ h.links.at (suc k) → IsSound most (record w { linked = stored w.linked y 1 }) h
sound_linked most w h k y s low is = record {
  links = s.links;
  claims = s.claims;
  next = s.next;
  taker = s.taker;
  follows = s.follows;
  linked = λ j less. both_same w.linked y 1 _ (s.linked j less);
  linked_only = λ a u la h1 nz. elim (either_stored w.linked y 1 a u h1) [
    | inl old ↦ s.linked_only a u la old nz
    | inr new ↦ (k, low, new.0 ∙ is)
  ];
  result = s.result;
  result_kept = s.result_kept;
  result_only = s.result_only;
  tail = s.tail;
  head = s.head;
  value = s.value;
  announced = s.announced;
  spent_links = s.spent_links;
  spent_claims = s.spent_claims;
  spent_result = s.spent_result;
}

pub sound_tail : (most : ℕ) (w : Words) (h : History) (k y : ℕ) → IsSound most w h → k ≤ h.links.marked → y ≡ h.links.at k → IsSound most (record w { tail = stored w.tail 0 y }) h
sound_tail most w h k y s low is = record {
  links = s.links;
  claims = s.claims;
  next = s.next;
  taker = s.taker;
  follows = s.follows;
  linked = s.linked;
  linked_only = s.linked_only;
  result = s.result;
  result_kept = s.result_kept;
  result_only = s.result_only;
  tail = λ u h1. elim (either_stored w.tail 0 y 0 u h1) [
    | inl old ↦ s.tail u old
    | inr new ↦ (k, low, new.1 ∙ is)
  ];
  head = s.head;
  value = s.value;
  announced = s.announced;
  spent_links = s.spent_links;
  spent_claims = s.spent_claims;
  spent_result = s.spent_result;
}

pub sound_head : (most : ℕ) (w : Words) (h : History) (k y : ℕ) → IsSound most w h → k ≤ h.claims.marked → y ≡ h.links.at k → IsSound most (record w { head = stored w.head 0 y }) h
sound_head most w h k y s low is = record {
  links = s.links;
  claims = s.claims;
  next = s.next;
  taker = s.taker;
  follows = s.follows;
  linked = s.linked;
  linked_only = s.linked_only;
  result = s.result;
  result_kept = s.result_kept;
  result_only = s.result_only;
  tail = s.tail;
  head = λ u h1. elim (either_stored w.head 0 y 0 u h1) [
    | inl old ↦ s.head u old
    | inr new ↦ (k, low, new.1 ∙ is)
  ];
  value = s.value;
  announced = s.announced;
  spent_links = s.spent_links;
  spent_claims = s.spent_claims;
  spent_result = s.spent_result;
}

pub sound_resulted : (most : ℕ) (w : Words) (h : History) (k c y : ℕ) → IsSound most w h → k < h.claims.kept → c ≡ h.claims.at (suc k) → y ≡ h.links.at (suc k) → IsSound most (record w { result = stored w.result c y }) h
sound_resulted most w h k c y s low is it =
    let less = s.claims.keeps in record {
      links = s.links;
      claims = s.claims;
      next = s.next;
      taker = s.taker;
      follows = s.follows;
      linked = s.linked;
      linked_only = s.linked_only;
      result = λ j under. dite (ℕ_discrete (h.claims.at (suc j)) c)
          (λ same.
          let a = s.claims.marks in
          let at : suc j ≡ suc k = one_place most h.claims (suc j) (suc k) s.claims (omega (arith, a, less, under)) (omega (arith, less, low)) (same ∙ is) in
          (put_here w.result.now c y (h.claims.at (suc j)) same ∙ (it ∙ ap h.links.at (sym at)), (s.result j under).1))
          (λ ne. both_stored w.result c y _ _ ne (s.result j under));
      result_kept = λ o lo nz. dite (ℕ_discrete o c)
          (λ same. put_here w.result.now c y o same ∙ elim (s.result_only o (w.result.kept o) lo (inr refl) nz) [
            | inl r ↦ absurd (r.1 (subst (Has h.claims) (sym (same ∙ is)) (has_at most h.claims k s.claims (omega (arith, low, less)))))
            | inr r ↦ (
                let under = r.1 in
                let at : suc k ≡ suc r.0 = one_place most h.claims (suc k) (suc r.0) s.claims (omega (arith, low, less)) (omega (arith, under, less)) (sym is ∙ (sym same ∙ r.2)) in
                it ∙ (ap h.links.at at ∙ sym r.3))
          ])
          (λ ne. put_else w.result.now c y o ne ∙ s.result_kept o lo nz);
      result_only = λ o u la h1 nz. elim (either_stored w.result c y o u h1) [
        | inl old ↦ s.result_only o u la old nz
        | inr new ↦ inr (k, low, new.0 ∙ is, new.1 ∙ it)
      ];
      tail = s.tail;
      head = s.head;
      value = s.value;
      announced = s.announced;
      spent_links = s.spent_links;
      spent_claims = s.spent_claims;
      spent_result = λ q o u la h1 nz b. elim (either_stored w.result c y o u h1) [
        | inl old ↦ s.spent_result q o u la old nz b
        | inr new ↦ (
            let e : o ≡ h.claims.at (suc k) = new.0 ∙ is in
            subst (Spent w.announce q) (sym e) (s.spent_claims q k (omega (arith, low, less)) (subst (Belongs q) e b)))
      ];
    }

pub sound_emptied : (most : ℕ) (w : Words) (h : History) (p i : ℕ) → IsSound most w h → HasNot h.claims i → w.result.kept i ≡ 0 → In h.empty i → Belongs p i → Spent w.announce p i → IsSound most (record w { result = stored w.result i EMPTY }) h
sound_emptied most w h p i s none clean found mine spent =
    let a = s.claims.marks in
    let less = s.claims.keeps in record {
      links = s.links;
      claims = s.claims;
      next = s.next;
      taker = s.taker;
      follows = s.follows;
      linked = s.linked;
      linked_only = s.linked_only;
      result = λ j under. both_stored w.result i EMPTY _ _ (not_at most h.claims i j s.claims none (omega (arith, a, less, under))) (s.result j under);
      result_kept = λ o lo nz. dite (ℕ_discrete o i)
          (λ same. absurd (nz (ap w.result.kept same ∙ clean)))
          (λ ne. put_else w.result.now i EMPTY o ne ∙ s.result_kept o lo nz);
      result_only = λ o u la h1 nz. elim (either_stored w.result i EMPTY o u h1) [
        | inl old ↦ s.result_only o u la old nz
        | inr new ↦ inl (new.1, (λ has. none (subst (Has h.claims) new.0 has)), subst (In h.empty) (sym new.0) found)
      ];
      tail = s.tail;
      head = s.head;
      value = s.value;
      announced = s.announced;
      spent_links = s.spent_links;
      spent_claims = s.spent_claims;
      spent_result = λ q o u la h1 nz b. elim (either_stored w.result i EMPTY o u h1) [
        | inl old ↦ s.spent_result q o u la old nz b
        | inr new ↦ (
            let q_is : q ≡ p = one_process q p i (subst (Belongs q) new.0 b) mine in
            subst (Spent w.announce q) (sym new.0) (subst (λ (z : ℕ). Spent w.announce z i) (sym q_is) spent))
      ];
    }

pub sound_emptying : (most : ℕ) (w : Words) (h : History) (i : ℕ) → IsSound most w h → IsSound most w (emptying h i)
sound_emptying most w h i s = record {
  links = s.links;
  claims = s.claims;
  next = s.next;
  taker = s.taker;
  follows = s.follows;
  linked = s.linked;
  linked_only = s.linked_only;
  result = s.result;
  result_kept = s.result_kept;
  result_only = λ o u la h1 nz. elim (s.result_only o u la h1 nz) [
    | inl e ↦ inl (e.0, e.1, inr e.2)
    | inr r ↦ inr r
  ];
  tail = s.tail;
  head = s.head;
  value = s.value;
  announced = s.announced;
  spent_links = s.spent_links;
  spent_claims = s.spent_claims;
  spent_result = s.spent_result;
}

-- ---- an operation takes effect

written_added : (most : ℕ) (s : Side) (place place2 : ℕ → ℕ) (log : Log) (a i : ℕ) → IsWritten most s place log → Extends log (added log i) i → log.kept ≤ log.count → place log.count ≡ a → ((k : ℕ) → k < log.count → place k ≢ a) → ((k : ℕ) → k ≤ log.count → place2 k ≡ place k)
    → IsWritten most (stored s a i) place2 (added log i)
written_added most s place place2 log a i h x less here apart same = record {
  cached = λ k low. dite (ℕ_discrete k log.count)
      (λ is. put_here s.now a i (place2 k) (same k (omega (arith, is)) ∙ (ap place is ∙ here)) ∙ sym (put_here log.at (suc log.count) i (suc k) (ap suc is)))
      (λ ne.
      let under : k < log.count = omega (arith, low, ne) in
      let e : place2 k ≡ place k = same k (omega (arith, under)) in
      put_else s.now a i (place2 k) (λ z. apart k under (sym e ∙ z)) ∙ (ap s.now e ∙ (h.cached k under ∙ sym (x.at (suc k) (omega (arith, under))))));
  persisted = λ k low.
      let under : k < log.count = omega (arith, low, less) in
      ap s.kept (same k (omega (arith, under))) ∙ (h.persisted k low ∙ sym (x.at (suc k) (omega (arith, under))));
  only = λ b u lb e nz. elim (either_stored s a i b u e) [
    | inl old ↦ (
        let r = h.only b u lb old nz in
        let under = r.1 in
        (r.0, omega (arith, under), r.2 ∙ sym (same r.0 (omega (arith, under))), r.3 ∙ sym (x.at (suc r.0) (omega (arith, under)))))
    | inr new ↦ (log.count, omega arith, new.0 ∙ (sym here ∙ sym (same log.count (omega arith))), new.1 ∙ sym (put_here log.at (suc log.count) i (suc log.count) refl))
  ];
}

-- where nothing follows a node up to which the evidence is persisted, it is the last one
pub is_last : (most : ℕ) (w : Words) (h : History) (a m : ℕ) → IsSound most w h → m ≤ h.links.count → IsNode h.links a m → w.next.now a ≡ 0 → h.links.pos a ≡ h.links.count
is_last most w h a m s up n free = dite (ℕ_discrete (h.links.pos a) h.links.count)
    (λ same. same)
    (λ ne.
    let b = n.within in
    let low : h.links.pos a < h.links.count = omega (arith, b, up, ne) in
    absurd (at_real most h.links (h.links.pos a) s.links low (sym (s.next.cached (h.links.pos a) low) ∙ (ap w.next.now n.node ∙ free))))

pub sound_linking : (most : ℕ) (w : Words) (h : History) (p a i x : ℕ) → IsSound most w h → IsNode h.links a h.links.marked → w.next.now a ≡ 0 → HasNot h.links i → i ≢ 0 → i < most → Belongs p i → Both w.value i x → Spent w.announce p i
    → IsSound most (record w { next = stored w.next a i }) (linking h i x)
sound_linking most w h p a i x s n free none real low mine val spent =
    let l = s.links in
    let m1 = l.marks in
    let m2 = l.keeps in
    let last : h.links.pos a ≡ h.links.count = is_last most w h a h.links.marked s (omega (arith, m1, m2)) n free in
    let nw = n.within in
    let full : h.links.count ≡ h.links.kept = omega (arith, m1, m2, last, nw) in
    let e = extends_added most h.links i l none real in
    let fo = s.follows in record {
      links = log_added most h.links i l none real low full;
      claims = s.claims;
      next = written_added most w.next h.links.at (added h.links i).at h.links a i s.next e m2 (ap h.links.at (sym last) ∙ n.node)
          (λ k under same. (let b : h.links.pos a ≡ k = pos_is most h.links k a l (omega (arith, under)) same in omega (arith, b, last, under))) e.at;
      taker = record {
        cached = λ k under. ap w.taker.now (e.at (suc k) (omega (arith, under, fo, m2))) ∙ s.taker.cached k under;
        persisted = λ k under. ap w.taker.kept (e.at (suc k) (let c = s.claims.keeps in omega (arith, under, fo, m2, c))) ∙ s.taker.persisted k under;
        only = λ b u lb z nz. let r = s.taker.only b u lb z nz in let under = r.1 in (r.0, r.1, r.2 ∙ sym (e.at (suc r.0) (omega (arith, under, fo, m2))), r.3);
      };
      follows = s.follows;
      linked = λ k under. subst (λ (z : ℕ). Both w.linked z 1) (sym (e.at (suc k) (omega (arith, under, m1, m2)))) (s.linked k under);
      linked_only = λ b u lb z nz. let r = s.linked_only b u lb z nz in let under = r.1 in (r.0, r.1, r.2 ∙ sym (e.at (suc r.0) (omega (arith, under, m2))));
      result = λ k under. (let c1 = s.claims.marks in let c2 = s.claims.keeps in subst (Both w.result (h.claims.at (suc k))) (sym (e.at (suc k) (omega (arith, under, c1, c2, fo, m2)))) (s.result k under));
      result_kept = s.result_kept;
      result_only = λ o u lo z nz. elim (s.result_only o u lo z nz) [
        | inl r ↦ inl r
        | inr r ↦ inr (let under = r.1 in let c2 = s.claims.keeps in (r.0, r.1, r.2, r.3 ∙ sym (e.at (suc r.0) (omega (arith, under, c2, fo, m2)))))
      ];
      tail = λ u z. (let r = s.tail u z in let under = r.1 in (r.0, r.1, r.2 ∙ sym (e.at r.0 (omega (arith, under, m1, m2)))));
      head = λ u z. (let r = s.head u z in let under = r.1 in let c1 = s.claims.marks in let c2 = s.claims.keeps in (r.0, r.1, r.2 ∙ sym (e.at r.0 (omega (arith, under, c1, c2, fo, m2)))));
      value = λ k under. dite (ℕ_discrete k h.links.count)
          (λ is.
          let there : (added h.links i).at (suc k) ≡ i = put_here h.links.at (suc h.links.count) i (suc k) (ap suc is) in
          subst (λ (z : ℕ). Both w.value z (put h.value i x z)) (sym there) (subst (Both w.value i) (sym (put_here h.value i x i refl)) val))
          (λ ne.
          let less : k < h.links.count = omega (arith, under, ne) in
          let there : (added h.links i).at (suc k) ≡ h.links.at (suc k) = e.at (suc k) (omega (arith, less)) in
          subst (λ (z : ℕ). Both w.value z (put h.value i x z)) (sym there) (subst (Both w.value (h.links.at (suc k))) (sym (put_else h.value i x (h.links.at (suc k)) (not_at most h.links i k l none less))) (s.value k less)));
      announced = s.announced;
      spent_links = λ q k under b. dite (ℕ_discrete k h.links.count)
          (λ is.
          let there : (added h.links i).at (suc k) ≡ i = put_here h.links.at (suc h.links.count) i (suc k) (ap suc is) in
          let q_is : q ≡ p = one_process q p i (subst (Belongs q) there b) mine in
          subst (Spent w.announce q) (sym there) (subst (λ (z : ℕ). Spent w.announce z i) (sym q_is) spent))
          (λ ne.
          let less : k < h.links.count = omega (arith, under, ne) in
          let there : (added h.links i).at (suc k) ≡ h.links.at (suc k) = e.at (suc k) (omega (arith, less)) in
          subst (Spent w.announce q) (sym there) (s.spent_links q k less (subst (Belongs q) there b)));
      spent_claims = s.spent_claims;
      spent_result = s.spent_result;
    }

-- where a claim may be made: nothing is claimed after it
pub sound_claiming : (most : ℕ) (w : Words) (h : History) (p a y i : ℕ) → IsSound most w h → IsNode h.links a h.claims.marked → IsLink h.links a y h.links.kept → w.taker.now y ≡ 0 → HasNot h.claims i → Both w.result i 0 → i ≢ 0 → i < most → Belongs p i → Spent w.announce p i
    → (h.links.pos a ≡ h.claims.count) × IsSound most (record w { taker = stored w.taker y i }) (claiming h i)
sound_claiming most w h p a y i s n link free none clean real low mine spent =
    let l = s.claims in
    let c1 = l.marks in
    let c2 = l.keeps in
    let fo = s.follows in
    let m2 = s.links.keeps in
    let nw = n.within in
    let lw = link.within in
    let last : h.links.pos a ≡ h.claims.count = dite (ℕ_discrete (h.links.pos a) h.claims.count)
    (λ same. same)
    (λ ne.
    let under : h.links.pos a < h.claims.count = omega (arith, nw, c1, c2, ne) in
    absurd (at_real most h.claims (h.links.pos a) l under (sym (s.taker.cached (h.links.pos a) under) ∙ (ap w.taker.now link.link ∙ free)))) in
    let full : h.claims.count ≡ h.claims.kept = omega (arith, c1, c2, last, nw) in
    let e = extends_added most h.claims i l none real in (
      last,
      record {
        links = s.links;
        claims = log_added most h.claims i l none real low full;
        next = s.next;
        taker = written_added most w.taker (λ k. h.links.at (suc k)) (λ k. h.links.at (suc k)) h.claims y i s.taker e c2 (ap (λ z. h.links.at (suc z)) (sym last) ∙ link.link)
            (λ k under same. (let b : suc k ≡ suc (h.links.pos a) = one_place most h.links (suc k) (suc (h.links.pos a)) s.links (omega (arith, under, fo, m2)) (omega (arith, lw, m2)) (same ∙ sym link.link) in omega (arith, b, last, under))) (λ k under. refl);
        follows = omega (arith, last, lw);
        linked = s.linked;
        linked_only = s.linked_only;
        result = λ k under. subst (λ (z : ℕ). Both w.result z (h.links.at (suc k))) (sym (e.at (suc k) (omega (arith, under, c1, c2)))) (s.result k under);
        result_kept = s.result_kept;
        result_only = λ o u lo z nz. elim (s.result_only o u lo z nz) [
          | inl r ↦ dite (ℕ_discrete o i)
              (λ same. absurd (nz (elim z [
                | inl now ↦ sym now ∙ (ap w.result.now same ∙ clean.0)
                | inr kept ↦ sym kept ∙ (ap w.result.kept same ∙ clean.1)
              ])))
              (λ ne. inl (r.0, (λ has. r.1 (e.none o ne has)), r.2))
          | inr r ↦ inr (let under = r.1 in (r.0, r.1, r.2 ∙ sym (e.at (suc r.0) (omega (arith, under, c2))), r.3))
        ];
        tail = s.tail;
        head = s.head;
        value = s.value;
        announced = s.announced;
        spent_links = s.spent_links;
        spent_claims = λ q k under b. dite (ℕ_discrete k h.claims.count)
            (λ is.
            let there : (added h.claims i).at (suc k) ≡ i = put_here h.claims.at (suc h.claims.count) i (suc k) (ap suc is) in
            let q_is : q ≡ p = one_process q p i (subst (Belongs q) there b) mine in
            subst (Spent w.announce q) (sym there) (subst (λ (z : ℕ). Spent w.announce z i) (sym q_is) spent))
            (λ ne.
            let less : k < h.claims.count = omega (arith, under, ne) in
            let there : (added h.claims i).at (suc k) ≡ h.claims.at (suc k) = e.at (suc k) (omega (arith, less)) in
            subst (Spent w.announce q) (sym there) (s.spent_claims q k less (subst (Belongs q) there b)));
        spent_result = s.spent_result;
      },
    )
