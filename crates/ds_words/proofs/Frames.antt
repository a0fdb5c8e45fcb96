-- What an access leaves alone.
use Rattle.std.proofs.Common.{ℕ, ◌≡◌, ◌≢◌, refl, ◌∙◌, inl, inr}
use Rattle.ds_words.specs.declared.access.Class.{Class}
use Rattle.ds_words.specs.declared.access.Access.{Access}
use Rattle.ds_words.specs.declared.access.Access.TheVariants.{Nothing, Load, Store, Or, SwapIf, Flush, Back}
use Rattle.ds_words.specs.Memory.{Memory, SameMemory, Performs}

pub SameMemory-same : {P : Type 0} (m : Memory P) → SameMemory m m
SameMemory-same m = record { cached = λ r. refl; persisted = λ r. refl; buffer = λ q. refl }

pub SameMemory-both : {P : Type 0} (a b c : Memory P) → SameMemory a b → SameMemory b c → SameMemory a c
SameMemory-both a b c h k = record {
  cached = λ r. k.cached r ∙ h.cached r;
  persisted = λ r. k.persisted r ∙ h.persisted r;
  buffer = λ q. k.buffer q ∙ h.buffer q;
}

-- the access may change the cached side of this word
abbrev pub Changes : {P : Type 0} → Access P → P → Type 0
Changes Nothing r = ⊥
Changes (Load place) r = ⊥
Changes (Store place value) r = r ≡ place
Changes (Or place bits) r = r ≡ place
Changes (SwapIf place expected value) r = r ≡ place
Changes (Flush place) r = ⊥
Changes Back r = ⊥

module _ {P : Type 0} (class_of : P → Class) (old new : Memory P) where
  -- the cached side of another word
  pub cached_kept : (access : Access P) (p answer : ℕ) (r : P) → (Changes access r → ⊥) → Performs class_of access p old new answer → new.cached r ≡ old.cached r
  cached_kept Nothing p answer r never h = h.1.cached r
  cached_kept (Load place) p answer r never h = h.1.cached r
  cached_kept (Store place value) p answer r never h = h.1.elsewhere r never
  cached_kept (Or place bits) p answer r never h = h.1.elsewhere r never
  cached_kept (SwapIf place expected value) p answer r never h = elim h.1 [ inl s ↦ s.1.elsewhere r never | inr s ↦ s.1.cached r ]
  cached_kept (Flush place) p answer r never h = h.1.cached r
  cached_kept Back p answer r never h = h.1.2.cached r

  -- the persisted side of any word, unless an entry is written back
  pub persisted_kept : (access : Access P) (p answer : ℕ) (r : P) → access ≢ Back → Performs class_of access p old new answer → new.persisted r ≡ old.persisted r
  persisted_kept Nothing p answer r never h = h.1.persisted r
  persisted_kept (Load place) p answer r never h = h.1.persisted r
  persisted_kept (Store place value) p answer r never h = h.1.persisted r
  persisted_kept (Or place bits) p answer r never h = h.1.persisted r
  persisted_kept (SwapIf place expected value) p answer r never h = elim h.1 [ inl s ↦ s.1.persisted r | inr s ↦ s.1.persisted r ]
  persisted_kept (Flush place) p answer r never h = h.1.persisted r
  persisted_kept Back p answer r never h = absurd (never refl)

  -- the buffer of another process
  pub buffer_kept : (access : Access P) (p answer q : ℕ) → q ≢ p → Performs class_of access p old new answer → new.buffer q ≡ old.buffer q
  buffer_kept Nothing p answer q ne h = h.1.buffer q
  buffer_kept (Load place) p answer q ne h = h.1.buffer q
  buffer_kept (Store place value) p answer q ne h = h.1.buffer q
  buffer_kept (Or place bits) p answer q ne h = h.1.buffer q
  buffer_kept (SwapIf place expected value) p answer q ne h = elim h.1 [ inl s ↦ s.1.buffer q | inr s ↦ s.1.buffer q ]
  buffer_kept (Flush place) p answer q ne h = h.1.others q ne
  buffer_kept Back p answer q ne h = h.1.2.others q ne
