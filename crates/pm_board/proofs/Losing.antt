-- A crash, before which the chosen words were evicted.
use Rattle.std.proofs.Common.{ℕ, ◌≡◌, ◌⊎◌, ◌+◌, ◌<◌, ◌≤◌, Bool, true, false, List, [], zero, suc, length, get_or, set, length-set, refl, sym, ap, subst, ◌∷◌, ◌∙◌, inl, inr, ⊎_elim, arith, le_refl}
use Rattle.std.specs.Prelude.{if◌then◌else◌}
use Rattle.std.proofs.lemmas.List.{get_or-set_same, get_or-set_other}
use Rattle.std.proofs.lemmas.Bool.{cases_eq}
use Rattle.std.proofs.lemmas.Bool.Decides.{leb_tells}
use mathlib.Core.Logic.{dite}
use mathlib.Core.Option.{some, some-injective, some-ne-none}
use native.Mathlib.Decide.{ℕ_discrete}
use lib.ListN.{get_elem?}
use Rattle.ds_words.specs.Memory.{EvictsAt, Crashes}
use Rattle.pm_base.specs.Structures.{World, Structure}
use Rattle.pm_base.specs.Runs.{Happened, Run}
use Rattle.pm_base.specs.declared.history.Event.TheVariants.{Evict, Crash}
use Rattle.pm_board.specs.Table.{two_sided, cached_at, persisted_at}
use Rattle.pm_board.specs.Rule.{Witness, world_on, IsOrigin, AtRest, GoesOnBy, IsLoss, Survives}
use Rattle.pm_board.proofs.Sides.{before, no_sides, same_cached}
use Rattle.pm_board.proofs.Resting.{past_on, goes_nowhere, goes_further}

pub elem_index : (l : List ℕ) (i a : ℕ) → get_elem? l i ≡ some a → a ≡ get_or l i 0
elem_index [] i a e = absurd (some-ne-none a (sym e))
elem_index (x ∷ xs) zero a e = sym (some-injective x a e)
elem_index (x ∷ xs) (suc i) a e = elem_index xs i a e

abbrev pub left_side : ℕ → (ℕ → Bool) → List ℕ → ℕ → ℕ
left_side apart c ws n = if c n then get_or ws (cached_at apart n) 0 else get_or ws (persisted_at apart n) 0

-- the first k words have the side that is left on both sides, the others are as they were
pub record Left (apart : ℕ) (c : ℕ → Bool) (ws w : List ℕ) (k : ℕ) : Type 0 where
  pub size : length w ≡ length ws
  pub done : (n : ℕ) → n < k → (get_or w (cached_at apart n) 0 ≡ left_side apart c ws n) × (get_or w (persisted_at apart n) 0 ≡ left_side apart c ws n)
  pub rest : (n : ℕ) → k ≤ n → (get_or w (cached_at apart n) 0 ≡ get_or ws (cached_at apart n) 0) × (get_or w (persisted_at apart n) 0 ≡ get_or ws (persisted_at apart n) 0)

-- the side of a word that is chosen
abbrev pub IsChosen : ℕ → Bool → ℕ → ℕ → Type 0
IsChosen apart chosen n side = ((chosen ≡ true) × (side ≡ cached_at apart n)) ⊎ ((chosen ≡ false) × (side ≡ persisted_at apart n))

-- it has what is left of the word
pub left_there : (apart : ℕ) (c : ℕ → Bool) (ws w : List ℕ) (k side : ℕ) → Left apart c ws w k → IsChosen apart (c k) k side → get_or w side 0 ≡ left_side apart c ws k
left_there apart c ws w k side h (inl is) = ap (λ (i : ℕ). get_or w i 0) is.1 ∙ (h.rest k (le_refl k)).0 ∙ sym (ap (λ (z : Bool). if z then get_or ws (cached_at apart k) 0 else get_or ws (persisted_at apart k) 0) is.0)
left_there apart c ws w k side h (inr is) = ap (λ (i : ℕ). get_or w i 0) is.1 ∙ (h.rest k (le_refl k)).1 ∙ sym (ap (λ (z : Bool). if z then get_or ws (cached_at apart k) 0 else get_or ws (persisted_at apart k) 0) is.0)

-- so it is with one word more, both of whose sides become that
pub left_more : (apart : ℕ) (c : ℕ → Bool) (ws w : List ℕ) (k v : ℕ) → Left apart c ws w k → persisted_at apart k < length w → v ≡ left_side apart c ws k → Left apart c ws (set (set w (cached_at apart k) v) (persisted_at apart k) v) (k + 1)
left_more apart c ws w k v h fits is = record {
  size = length-set (set w (cached_at apart k) v) (persisted_at apart k) v ∙ (length-set w (cached_at apart k) v ∙ h.size);
  done = λ n less. elim (cases_eq n k) [
    | inl same ↦ (
      ap (λ (m : ℕ). get_or both (cached_at apart m) 0) same ∙ (cached_now ∙ (is ∙ ap (left_side apart c ws) (sym same))),
      ap (λ (m : ℕ). get_or both (persisted_at apart m) 0) same ∙ (persisted_now ∙ (is ∙ ap (left_side apart c ws) (sym same))),
    )
    | inr other ↦ (let low : n < k = omega (arith, less, other) in (cached_still n other ∙ (h.done n low).0, persisted_still n other ∙ (h.done n low).1))
  ];
  rest = λ n high. let other : n ≡ k → ⊥ = (λ e. omega (arith, e, high)) in let far : k ≤ n = omega (arith, high) in (cached_still n other ∙ (h.rest n far).0, persisted_still n other ∙ (h.rest n far).1);
}
  where
    one : List ℕ
    one = set w (cached_at apart k) v

    both : List ℕ
    both = set one (persisted_at apart k) v

    cached_now : get_or both (cached_at apart k) 0 ≡ v
    cached_now = get_or-set_other one (persisted_at apart k) (cached_at apart k) v 0 (no_sides apart k k) ∙ get_or-set_same w (cached_at apart k) v 0 (omega arith)

    persisted_now : get_or both (persisted_at apart k) 0 ≡ v
    persisted_now = get_or-set_same one (persisted_at apart k) v 0 (let l = length-set w (cached_at apart k) v in omega (arith, fits, l))

    cached_still : (n : ℕ) → (n ≡ k → ⊥) → get_or both (cached_at apart n) 0 ≡ get_or w (cached_at apart n) 0
    cached_still n ne = get_or-set_other one (persisted_at apart k) (cached_at apart n) v 0 (no_sides apart n k) ∙ get_or-set_other w (cached_at apart k) (cached_at apart n) v 0 (λ e. ne (same_cached apart n k e))

    persisted_still : (n : ℕ) → (n ≡ k → ⊥) → get_or both (persisted_at apart n) 0 ≡ get_or w (persisted_at apart n) 0
    persisted_still n ne = get_or-set_other one (persisted_at apart k) (persisted_at apart n) v 0 (λ e. ne (same_cached apart n k (omega (arith, e)))) ∙ get_or-set_other w (cached_at apart k) (persisted_at apart n) v 0 (λ e. no_sides apart k n (sym e))

module _ {K S T : Type 0} (s : Structure K S T) (key : K) (c : ℕ → Bool) (ws : List ℕ) (long : length ws ≡ cached_at (s.apart key) (s.words key)) (b : Witness s key) (rests : AtRest s key ws b) where
  abbrev apart : ℕ
  apart = s.apart key

  -- the first k words that were chosen are evicted
  record Evicted (k : ℕ) : Type 0 where
    words : List ℕ
    size : length words ≡ length ws
    cached : (n : ℕ) → get_or words (cached_at apart n) 0 ≡ get_or ws (cached_at apart n) 0
    done : (n : ℕ) → n < k → get_or words (persisted_at apart n) 0 ≡ left_side apart c ws n
    rest : (n : ℕ) → k ≤ n → get_or words (persisted_at apart n) 0 ≡ get_or ws (persisted_at apart n) 0
    witness : Witness s key
    by : GoesOnBy s key (IsLoss s key) b witness
    run : Run s key witness.origin.opened witness.happened (world_on s key words witness)

  -- one more is evicted
  evicted_one : (k : ℕ) → k < s.words key → c k ≡ true → Evicted k → Evicted (suc k)
  evicted_one k low chosen r =
      let w : List ℕ = r.words in
      let v : ℕ = get_or w (cached_at apart k) 0 in
      let w' : List ℕ = set w (persisted_at apart k) v in
      let size = r.size in
      let fits : persisted_at apart k < length w = (let b = before apart k (s.words key) low in omega arith) in
      let old : World S s.Hidden = world_on s key w r.witness in
      let at : EvictsAt k (two_sided apart w r.witness.buffer) (two_sided apart w' r.witness.buffer) = record {
        cached = λ n. get_or-set_other w (persisted_at apart k) (cached_at apart n) v 0 (no_sides apart n k);
        there = get_or-set_same w (persisted_at apart k) v 0 fits;
        elsewhere = λ n ne. get_or-set_other w (persisted_at apart k) (persisted_at apart n) v 0 (λ e. ne (same_cached apart n k (omega (arith, e))));
        buffer = λ q. refl;
      } in
      let h : Happened s key = record { before = old; entry = record { event = Evict k; responses = [] } } in
      let b' : Witness s key = record { situation = r.witness.situation; buffer = r.witness.buffer; hidden = s.hidden_after key old (Evict k) (two_sided apart w' r.witness.buffer); origin = r.witness.origin; happened = h ∷ r.witness.happened } in
      record {
        words = w';
        size = length-set w (persisted_at apart k) v ∙ r.size;
        cached = λ n. get_or-set_other w (persisted_at apart k) (cached_at apart n) v 0 (no_sides apart n k) ∙ r.cached n;
        done = λ n less. dite (ℕ_discrete n k)
            (λ e. ap (λ (m : ℕ). get_or w' (persisted_at apart m) 0) e ∙ (get_or-set_same w (persisted_at apart k) v 0 fits ∙ (r.cached k ∙ sym (ap (λ (m : ℕ). left_side apart c ws m) e ∙ ap (λ (z : Bool). if z then get_or ws (cached_at apart k) 0 else get_or ws (persisted_at apart k) 0) chosen))))
            (λ ne. get_or-set_other w (persisted_at apart k) (persisted_at apart n) v 0 (λ e. ne (same_cached apart n k (omega (arith, e)))) ∙ r.done n (omega arith));
        rest = λ n less. get_or-set_other w (persisted_at apart k) (persisted_at apart n) v 0 (λ e. let is : n ≡ k = same_cached apart n k (omega (arith, e)) in omega arith) ∙ r.rest n (omega arith);
        witness = b';
        by = goes_further s key (IsLoss s key) b r.witness b' r.by (record { origin = refl; more = h ∷ []; happened = refl; allowed = λ x inside. ⊎_elim (λ same. subst (λ (z : Happened s key). IsLoss s key z.entry.event) same tt) (λ none. absurd none) inside });
        run = ((low, at, refl, refl), r.run);
      }

  -- one is left as it is
  left_one : (k : ℕ) → c k ≡ false → Evicted k → Evicted (suc k)
  left_one k left r = record {
    words = r.words;
    size = r.size;
    cached = r.cached;
    done = λ n less. dite (ℕ_discrete n k)
        (λ e. ap (λ (m : ℕ). get_or r.words (persisted_at apart m) 0) e ∙ (r.rest k (le_refl k) ∙ sym (ap (λ (m : ℕ). left_side apart c ws m) e ∙ ap (λ (z : Bool). if z then get_or ws (cached_at apart k) 0 else get_or ws (persisted_at apart k) 0) left)))
        (λ ne. r.done n (omega arith));
    rest = λ n less. r.rest n (omega arith);
    witness = r.witness;
    by = r.by;
    run = r.run;
  }

  evicted : (k : ℕ) → k ≤ s.words key → Evicted k
  evicted zero few = record { words = ws; size = refl; cached = λ n. refl; done = λ n low. absurd (omega arith); rest = λ n low. refl; witness = b; by = goes_nowhere s key (IsLoss s key) b; run = rests.run }
  evicted (suc k) few = next (evicted k (omega arith)) (c k) refl
    where
      next : Evicted k → (z : Bool) → c k ≡ z → Evicted (suc k)
      next r true is = evicted_one k (omega arith) is r
      next r false is = left_one k is r

  beyond : (w : List ℕ) (i : ℕ) → length w ≤ i → ◌≡◌ {A = ℕ} (get_or w i 0) 0
  beyond [] i l = refl
  beyond (x ∷ w) zero l = absurd (omega arith)
  beyond (x ∷ w) (suc i) l = beyond w i (omega arith)

  -- after the last word
  after : (n : ℕ) → s.words key ≤ n → cached_at apart (s.words key) ≤ cached_at apart n
  after n far = elim (cases_eq n (s.words key)) [
    | inl same ↦ (let e = ap (cached_at apart) same in omega arith)
    | inr other ↦ (let b = before apart (s.words key) n (omega (arith, other)) in omega arith)
  ]

  -- the words after the crash
  module _ (ws' : List ℕ) (size : length ws' ≡ length ws) (cached : (n : ℕ) → n < s.words key → get_or ws' (cached_at apart n) 0 ≡ left_side apart c ws n) (persisted : (n : ℕ) → n < s.words key → get_or ws' (persisted_at apart n) 0 ≡ left_side apart c ws n) where
    both : (r : Evicted (s.words key)) (side : ℕ → ℕ) → ((n : ℕ) → n < s.words key → side n ≡ left_side apart c ws n) → ((n : ℕ) → s.words key ≤ n → side n ≡ 0) → (n : ℕ) → side n ≡ get_or r.words (persisted_at apart n) 0
    both r side low high n = let z = r.size in elim (leb_tells (s.words key) n) [
      | inl g ↦ (let k = g.1 in high n k ∙ sym (beyond r.words (persisted_at apart n) (let f = after n k in omega (arith, z, long, f))))
      | inr l ↦ low n l.1 ∙ sym (r.done n l.1)
    ]

    crashed : Evicted (s.words key) → Survives s key ws ws' b
    crashed r =
        let old : World S s.Hidden = world_on s key r.words r.witness in
        let h : Happened s key = record { before = old; entry = record { event = Crash; responses = [] } } in
        let b' : Witness s key = record { situation = λ q. s.stopped; buffer = λ q. []; hidden = s.hidden_after key old Crash (two_sided apart ws' (λ q. [])); origin = r.witness.origin; happened = h ∷ r.witness.happened } in
        let falls : Crashes (two_sided apart r.words r.witness.buffer) (two_sided apart ws' (λ q. [])) = record {
          cached = both r (λ n. get_or ws' (cached_at apart n) 0) cached (λ n far. beyond ws' (cached_at apart n) (let f = after n far in omega arith));
          persisted = both r (λ n. get_or ws' (persisted_at apart n) 0) persisted (λ n far. beyond ws' (persisted_at apart n) (let f = after n far in omega arith));
          buffer = λ q. refl;
        } in
        let losses = goes_further s key (IsLoss s key) b r.witness b' r.by (record { origin = refl; more = h ∷ []; happened = refl; allowed = λ x inside. ⊎_elim (λ same. subst (λ (z : Happened s key). IsLoss s key z.entry.event) same tt) (λ none. absurd none) inside }) in
        record {
          witness = b';
          rests = record { run = ((falls, refl, refl), r.run); from = subst (IsOrigin s key) (sym losses.origin) rests.from; stopped = λ p low. refl; buffer = λ p low. refl };
          losses = losses;
          responses = λ e k. past_on s key b b' losses.more losses.origin losses.happened e k;
        }

    pub survives : Survives s key ws ws' b
    survives = crashed (evicted (s.words key) (le_refl (s.words key)))
