-- An access on memories that are the same.
use Rattle.std.proofs.Common.{ℕ, ◌≡◌, ◌∙◌, List, [], ◌∷◌, ◌++◌, refl, sym, ap, subst, inl, inr}
use Rattle.std.specs.Prelude.{◌≢◌, bit_or}
use mathlib.Core.Logic.{dite}
use native.Mathlib.Decide.{ℕ_discrete}
use Rattle.ds_words.specs.declared.access.Access.{Access}
use Rattle.ds_words.specs.declared.access.Access.TheVariants.{Nothing, Load, Store, Or, SwapIf, Flush, Back}
use Rattle.ds_words.specs.declared.access.BufferEntry.{BufferEntry}
use Rattle.ds_words.specs.declared.access.Class.{Class}
use Rattle.ds_words.specs.Memory.{Memory, SameMemory, StoresAt, FlushesAt, WritesBack, EvictsAt, StopsAt, newer}
use Rattle.ds_layout.specs.declared.place.Place.{Place}
use Rattle.ds_layout.specs.Places.{class_of}
use Rattle.ds_layout.specs.SheetMemory.{PerformsAt}

-- numbers that are not different are the same
pub by_numbers : (a b : ℕ) → (a ≢ b → a ≡ b) → a ≡ b
by_numbers a b f = dite (ℕ_discrete a b) (λ is. is) (λ ne. f ne)

-- the same in each number but one, and there
pub by_cases : {X : Type 0} (p q : ℕ) (a b : X) → (q ≡ p → a ≡ b) → (q ≢ p → a ≡ b) → a ≡ b
by_cases p q a b f g = dite (ℕ_discrete q p) f g

module _ (m n m' n' : Memory Place) (same : SameMemory m n) where
  -- what stays the same of both
  pub stays : SameMemory m m' → SameMemory n n' → SameMemory m' n'
  stays h k = record {
    cached = λ r. k.cached r ∙ same.cached r ∙ sym (h.cached r);
    persisted = λ r. k.persisted r ∙ same.persisted r ∙ sym (h.persisted r);
    buffer = λ q. k.buffer q ∙ same.buffer q ∙ sym (h.buffer q);
  }

  pub stored : (place : Place) (value : ℕ) → StoresAt place value m m' → StoresAt place value n n' → SameMemory m' n'
  stored place value h k = record {
    cached = λ r. by_numbers (n'.cached r) (m'.cached r) (λ differ. (
        let off : r ≢ place = λ e. differ (ap n'.cached e ∙ k.there ∙ sym h.there ∙ sym (ap m'.cached e)) in
        k.elsewhere r off ∙ same.cached r ∙ sym (h.elsewhere r off)));
    persisted = λ r. k.persisted r ∙ same.persisted r ∙ sym (h.persisted r);
    buffer = λ q. k.buffer q ∙ same.buffer q ∙ sym (h.buffer q);
  }

  pub flushed : (p : ℕ) (place : Place) (class : Class) → FlushesAt p place class m m' → FlushesAt p place class n n' → SameMemory m' n'
  flushed p place class h k = record {
    cached = λ r. k.cached r ∙ same.cached r ∙ sym (h.cached r);
    persisted = λ r. k.persisted r ∙ same.persisted r ∙ sym (h.persisted r);
    buffer = λ q. by_cases p q (n'.buffer q) (m'.buffer q)
        (λ e. ap n'.buffer e ∙ k.mine ∙ ap (λ (b : List (BufferEntry Place)). b ++ record { place = place; class = class; value = n.cached place } ∷ []) (same.buffer p)
        ∙ ap (λ (v : ℕ). m.buffer p ++ record { place = place; class = class; value = v } ∷ []) (same.cached place) ∙ sym h.mine ∙ sym (ap m'.buffer e))
        (λ ne. k.others q ne ∙ same.buffer q ∙ sym (h.others q ne));
  }

  pub written : (p : ℕ) (entry other : BufferEntry Place) (rest more : List (BufferEntry Place)) → WritesBack p entry rest m m' → WritesBack p other more n n' → SameMemory m' n'
  written p entry other rest more h k =
      let lists : other ∷ more ≡ entry ∷ rest = sym k.oldest ∙ same.buffer p ∙ h.oldest in
      let entries : other ≡ entry = cc in
      let rests : more ≡ rest = cc in
      let there : n'.persisted entry.place ≡ newer entry.class (m.persisted entry.place) entry.value =
      subst (λ (b : BufferEntry Place). n'.persisted b.place ≡ newer b.class (n.persisted b.place) b.value) entries k.there ∙ ap (λ (v : ℕ). newer entry.class v entry.value) (same.persisted entry.place) in
      record {
        cached = λ r. k.cached r ∙ same.cached r ∙ sym (h.cached r);
        persisted = λ r. by_numbers (n'.persisted r) (m'.persisted r) (λ differ. (
            let off : r ≢ entry.place = λ e. differ (ap n'.persisted e ∙ there ∙ sym h.there ∙ sym (ap m'.persisted e)) in
            k.elsewhere r (λ e. off (e ∙ ap (λ (b : BufferEntry Place). b.place) entries)) ∙ same.persisted r ∙ sym (h.elsewhere r off)));
        buffer = λ q. by_cases p q (n'.buffer q) (m'.buffer q)
            (λ e. ap n'.buffer e ∙ k.mine ∙ rests ∙ sym h.mine ∙ sym (ap m'.buffer e))
            (λ ne. k.others q ne ∙ same.buffer q ∙ sym (h.others q ne));
      }

  pub evicted : (place : Place) → EvictsAt place m m' → EvictsAt place n n' → SameMemory m' n'
  evicted place h k = record {
    cached = λ r. k.cached r ∙ same.cached r ∙ sym (h.cached r);
    persisted = λ r. by_numbers (n'.persisted r) (m'.persisted r) (λ differ. (
        let off : r ≢ place = λ e. differ (ap n'.persisted e ∙ k.there ∙ same.cached place ∙ sym h.there ∙ sym (ap m'.persisted e)) in
        k.elsewhere r off ∙ same.persisted r ∙ sym (h.elsewhere r off)));
    buffer = λ q. k.buffer q ∙ same.buffer q ∙ sym (h.buffer q);
  }

  pub stopped : (p : ℕ) → StopsAt p m m' → StopsAt p n n' → SameMemory m' n'
  stopped p h k = record {
    cached = λ r. k.cached r ∙ same.cached r ∙ sym (h.cached r);
    persisted = λ r. k.persisted r ∙ same.persisted r ∙ sym (h.persisted r);
    buffer = λ q. by_cases p q (n'.buffer q) (m'.buffer q)
        (λ e. ap n'.buffer e ∙ k.mine ∙ sym h.mine ∙ sym (ap m'.buffer e))
        (λ ne. k.others q ne ∙ same.buffer q ∙ sym (h.others q ne));
  }

  -- an access answers the same, and leaves the same
  pub performs_alike : (access : Access Place) (p a b : ℕ) → PerformsAt access p m m' a → PerformsAt access p n n' b → (b ≡ a) × SameMemory m' n'
  performs_alike Nothing p a b (e, h) (f, k) = (f ∙ sym e, stays h k)
  performs_alike (Load place) p a b (e, h) (f, k) = (f ∙ same.cached place ∙ sym e, stays h k)
  performs_alike (Store place value) p a b (e, h) (f, k) = (f ∙ sym e, stored place value h k)
  performs_alike (Or place bits) p a b (e, h) (f, k) =
      (f ∙ sym e, stored place (bit_or (m.cached place) bits) h (subst (λ (v : ℕ). StoresAt place (bit_or v bits) n n') (same.cached place) k))
  performs_alike (SwapIf place expected value) p a b (e, inl (hit, h)) (f, inl (also, k)) = (f ∙ same.cached place ∙ sym e, stored place value h k)
  performs_alike (SwapIf place expected value) p a b (e, inl (hit, h)) (f, inr (misses, k)) = absurd (misses (f ∙ same.cached place ∙ sym e ∙ hit))
  performs_alike (SwapIf place expected value) p a b (e, inr (misses, h)) (f, inl (hit, k)) = absurd (misses (e ∙ sym (same.cached place) ∙ sym f ∙ hit))
  performs_alike (SwapIf place expected value) p a b (e, inr (misses, h)) (f, inr (also, k)) = (f ∙ same.cached place ∙ sym e, stays h k)
  performs_alike (Flush place) p a b (e, h) (f, k) = (f ∙ sym e, flushed p place (class_of place) h k)
  performs_alike Back p a b (e, (entry, rest, h)) (f, (other, more, k)) = (f ∙ sym e, written p entry other rest more h k)
