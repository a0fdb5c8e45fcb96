-- A memory of two-sided words, and what each event does to it. `P` is what names a word: a number, or a place.
use Rattle.std.specs.Prelude.{ℕ, ◌≡◌, ◌≢◌, ◌⊎◌, List, [], ◌∷◌, ◌++◌, max, bit_or}
use Rattle.ds_words.specs.declared.access.Class.{Class}
use Rattle.ds_words.specs.declared.access.Class.TheVariants.{Stamped, Bit, Owned}
use Rattle.ds_words.specs.declared.access.BufferEntry.{BufferEntry}
use Rattle.ds_words.specs.declared.access.Access.{Access}
use Rattle.ds_words.specs.declared.access.Access.TheVariants.{Nothing, Load, Store, Or, SwapIf, Flush, Back}

-- both sides of each word, and the buffer of each process, the oldest entry first
pub record Memory (P : Type 0) : Type 0 where
  pub cached : P → ℕ
  pub persisted : P → ℕ
  pub buffer : ℕ → List (BufferEntry P)

-- each word is zero on both sides, and each buffer is empty
pub record IsFresh {P : Type 0} (memory : Memory P) : Type 0 where
  pub cached : (r : P) → memory.cached r ≡ 0
  pub persisted : (r : P) → memory.persisted r ≡ 0
  pub buffer : (q : ℕ) → memory.buffer q ≡ []

-- the newer of a persisted and a buffered value
abbrev pub newer : Class → ℕ → ℕ → ℕ
newer Stamped persisted buffered = max persisted buffered
newer Bit persisted buffered = bit_or persisted buffered
newer Owned persisted buffered = buffered

-- both sides of each word, and each buffer, stay as they are
pub record SameMemory {P : Type 0} (old new : Memory P) : Type 0 where
  pub cached : (r : P) → new.cached r ≡ old.cached r
  pub persisted : (r : P) → new.persisted r ≡ old.persisted r
  pub buffer : (q : ℕ) → new.buffer q ≡ old.buffer q

-- the cached side of the word becomes the value
pub record StoresAt {P : Type 0} (place : P) (value : ℕ) (old new : Memory P) : Type 0 where
  pub there : new.cached place ≡ value
  pub elsewhere : (r : P) → r ≢ place → new.cached r ≡ old.cached r
  pub persisted : (r : P) → new.persisted r ≡ old.persisted r
  pub buffer : (q : ℕ) → new.buffer q ≡ old.buffer q

-- the bits are added to the cached side of the word
abbrev pub OrsAt : {P : Type 0} → P → ℕ → Memory P → Memory P → Type 0
OrsAt place bits old new = StoresAt place (bit_or (old.cached place) bits) old new

-- the cached side, which is seen, becomes the value where it is the expected one
abbrev pub SwapsAt : {P : Type 0} → P → ℕ → ℕ → ℕ → Memory P → Memory P → Type 0
SwapsAt place expected value seen old new =
    (seen ≡ old.cached place)
    × (((seen ≡ expected) × StoresAt place value old new) ⊎ ((seen ≢ expected) × SameMemory old new))

-- the cached side of a word of the class goes after the last entry of the process
pub record FlushesAt {P : Type 0} (p : ℕ) (place : P) (class : Class) (old new : Memory P) : Type 0 where
  pub cached : (r : P) → new.cached r ≡ old.cached r
  pub persisted : (r : P) → new.persisted r ≡ old.persisted r
  pub mine : new.buffer p ≡ old.buffer p ++ record { place = place; class = class; value = old.cached place } ∷ []
  pub others : (q : ℕ) → q ≢ p → new.buffer q ≡ old.buffer q

-- the oldest entry of the process leaves its buffer, and the persisted side of its word becomes the newer value
pub record WritesBack {P : Type 0} (p : ℕ) (entry : BufferEntry P) (rest : List (BufferEntry P)) (old new : Memory P) : Type 0 where
  pub oldest : old.buffer p ≡ entry ∷ rest
  pub cached : (r : P) → new.cached r ≡ old.cached r
  pub there : new.persisted entry.place ≡ newer entry.class (old.persisted entry.place) entry.value
  pub elsewhere : (r : P) → r ≢ entry.place → new.persisted r ≡ old.persisted r
  pub mine : new.buffer p ≡ rest
  pub others : (q : ℕ) → q ≢ p → new.buffer q ≡ old.buffer q

-- the process writes back the oldest entry of its buffer
abbrev pub BacksFirst : {P : Type 0} → ℕ → Memory P → Memory P → Type 0
BacksFirst {P} p old new = (entry : BufferEntry P) × (rest : List (BufferEntry P)) × WritesBack p entry rest old new

-- the persisted side of the word becomes its cached side
pub record EvictsAt {P : Type 0} (place : P) (old new : Memory P) : Type 0 where
  pub cached : (r : P) → new.cached r ≡ old.cached r
  pub there : new.persisted place ≡ old.cached place
  pub elsewhere : (r : P) → r ≢ place → new.persisted r ≡ old.persisted r
  pub buffer : (q : ℕ) → new.buffer q ≡ old.buffer q

-- each cached side becomes the persisted side, and all buffers are lost
pub record Crashes {P : Type 0} (old new : Memory P) : Type 0 where
  pub cached : (r : P) → new.cached r ≡ old.persisted r
  pub persisted : (r : P) → new.persisted r ≡ old.persisted r
  pub buffer : (q : ℕ) → new.buffer q ≡ []

-- the process loses its buffer
pub record StopsAt {P : Type 0} (p : ℕ) (old new : Memory P) : Type 0 where
  pub cached : (r : P) → new.cached r ≡ old.cached r
  pub persisted : (r : P) → new.persisted r ≡ old.persisted r
  pub mine : new.buffer p ≡ []
  pub others : (q : ℕ) → q ≢ p → new.buffer q ≡ old.buffer q

-- the access by process p, with the number that it answers: the word seen, or 0; `class_of` is each word's class
abbrev pub Performs : {P : Type 0} → (P → Class) → Access P → ℕ → Memory P → Memory P → ℕ → Type 0
Performs class_of Nothing p old new answer = (answer ≡ 0) × SameMemory old new
Performs class_of (Load place) p old new answer = (answer ≡ old.cached place) × SameMemory old new
Performs class_of (Store place value) p old new answer = (answer ≡ 0) × StoresAt place value old new
Performs class_of (Or place bits) p old new answer = (answer ≡ 0) × OrsAt place bits old new
Performs class_of (SwapIf place expected value) p old new answer = SwapsAt place expected value answer old new
Performs class_of (Flush place) p old new answer = (answer ≡ 0) × FlushesAt p place (class_of place) old new
Performs class_of Back p old new answer = (answer ≡ 0) × BacksFirst p old new
