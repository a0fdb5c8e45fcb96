-- Telling the cells that refer to one: each step of whoever holds the cell passes on what is still owed.
use Rattle.std.proofs.Common.{ℕ, ◌≡◌, ◌<◌, ◌≤◌, ◌+◌, ◌-◌, ◌/◌, ◌%◌, ◌==◌, ◌⊎◌, Bool, true, false, if◌then◌else◌, List, [], ◌∷◌, ◌++◌, Option, Some, None, refl, ap, sym, ◌∙◌, subst, arith, length, inl, inr, zero, suc}
use Rattle.std.specs.Prelude.{Contains, slice_index_or, bit_or, IfSome, IfNone}
use Rattle.std.specs.Int.{bit_at}
use Rattle.std.proofs.lemmas.Bool.{cases_eq, eqb-true, eqb-false}
use Rattle.ds_words.specs.Memory.{StoresAt}
use Rattle.ds_words.specs.declared.access.BufferEntry.{BufferEntry}
use Rattle.ds_layout.specs.Bits.{HasBit, HaveNoBit, IsFirstBit}
use Rattle.ds_layout.specs.declared.mark.TheConstants.{DIRTY}
use Rattle.ds_layout.specs.declared.place.Place.{Place}
use Rattle.ds_layout.specs.declared.place.Place.TheVariants.{Mark, Index}
use Rattle.ds_layout.specs.declared.layout.Layout.{Layout}
use Rattle.ds_state.specs.World.{PlainWorld}
use Rattle.ds_state.specs.Owing.{entry, IsBelowBuffered, IsIndexed, SpreadOwes, StandsIn}
use Rattle.ds_state.specs.Standing.{IsDurable, Matters}
use Rattle.ds_state.specs.Rely.{KeepsHold}
use Rattle.ds_state.specs.Sound.{IsSound}
use Rattle.ds_state.specs.Telling.{told_from}
use Rattle.ds_state.specs.declared.spread.Spread.TheVariants.{LoadRow, OrTold, FlushTold, BackTold}
use Rattle.ds_state.proofs.Bearing.{Buffered, durable_most, durable_least}
use Rattle.ds_state.proofs.Dirty.{or_dirty}
use Rattle.ds_state.proofs.Frames.{Moves, each_moved}

-- the first cell that is marked
abbrev pub ToldFits : List ℕ → ℕ → ℕ → Option ℕ → Type 0
ToldFits row n d (Some k) = (d ≤ k) × (k < d + n) × ((c : ℕ) → d ≤ c → StandsIn row c → k ≤ c)
ToldFits row n d None = (c : ℕ) → d ≤ c → c < d + n → StandsIn row c → ⊥

-- the search finds the first cell whose bit stands in the row, from a cell on, or there is none
pub first_told : (row : List ℕ) (n d : ℕ) → ToldFits row n d (told_from row n d)
first_told row zero d = λ c l m h. omega arith
first_told row (suc n) d = go (bit_at (slice_index_or row (d / 64) 0) (d % 64) == 1) (eqb-false (bit_at (slice_index_or row (d / 64) 0) (d % 64)) 1) (told_from row n (d + 1)) (first_told row n (d + 1))
  where
    go : (b : Bool) → (b ≡ false → bit_at (slice_index_or row (d / 64) 0) (d % 64) ≡ 1 → ⊥) → (o : Option ℕ) → ToldFits row n (d + 1) o → ToldFits row (suc n) d (if b then Some d else o)
    go true unset o h = (omega arith, omega arith, λ c l s. l)
    go false unset (Some k) h = (let l = h.0 in omega arith, let l = h.1 in omega arith, λ c l s. elim (cases_eq c d) [ inl eq ↦ absurd (unset refl (subst (λ (y : ℕ). StandsIn row y) eq s)) | inr ne ↦ h.2 c (omega arith) s ])
    go false unset None h = λ c l m s. elim (cases_eq c d) [ inl eq ↦ unset refl (subst (λ (y : ℕ). StandsIn row y) eq s) | inr ne ↦ h c (omega arith) (omega arith) s ]

-- its bit stands
pub told_stands : (row : List ℕ) (n d k : ℕ) → told_from row n d ≡ Some k → StandsIn row k
told_stands row zero d k is = absurd cc
told_stands row (suc n) d k is = go (bit_at (slice_index_or row (d / 64) 0) (d % 64) == 1) refl is (λ is. told_stands row n (d + 1) k is)
  where
    go : (b : Bool) → (bit_at (slice_index_or row (d / 64) 0) (d % 64) == 1) ≡ b → (if b then Some d else told_from row n (d + 1)) ≡ Some k → (told_from row n (d + 1) ≡ Some k → StandsIn row k) → StandsIn row k
    go true hit is again = subst (λ (y : ℕ). StandsIn row y) (let same : d ≡ k = cc in same) (eqb-true (bit_at (slice_index_or row (d / 64) 0) (d % 64)) 1 hit)
    go false miss is again = again is

-- the first cell of the sheet from this one on whose bit the row has is marked next
pub told_is : (row : List ℕ) (cells d : ℕ) (o : Option ℕ) → IfSome o (λ k. (k < cells) × IsFirstBit row d k) → IfNone o (HaveNoBit row d cells) → o ≡ told_from row (cells - d) d
told_is row cells d o some none = go (told_from row (cells - d) d) refl (first_told row (cells - d) d) o some none
  where
    go : (told : Option ℕ) → told_from row (cells - d) d ≡ told → ToldFits row (cells - d) d told → (o : Option ℕ) → IfSome o (λ k. (k < cells) × IsFirstBit row d k) → IfNone o (HaveNoBit row d cells) → o ≡ told_from row (cells - d) d
    go None is fits None some none = sym is
    go None is fits (Some k) some none = absurd (fits k some.1.from (let low = some.0 in let l = some.1.from in omega arith) some.1.has)
    go (Some j) is fits None some none = absurd (none j fits.0 (let l = fits.0 in let m = fits.1 in omega arith) (told_stands row (cells - d) d j is))
    go (Some j) is fits (Some k) some none = elim (cases_eq j k) [
      | inl eq ↦ ap (λ n. Some n) (sym eq) ∙ sym is
      | inr ne ↦ absurd (some.1.none j fits.0 (let m = fits.2 k some.1.from some.1.has in omega arith) (told_stands row (cells - d) d j is))
    ]

-- the dirty bit added on a mark's cached side leaves each hold
pub or_hold : (q c v : ℕ) → KeepsHold q c v (bit_or c DIRTY) v
or_hold q c v = let is = or_dirty c in record { cached = λ h. omega arith; persisted = λ h k. k; came = λ h. omega arith }

-- a store changes no durable mark
pub durable_same : (old new : PlainWorld) (c x : ℕ) → new.layout ≡ old.layout → new.memory.persisted (Mark c) ≡ old.memory.persisted (Mark c) → ((q : ℕ) → new.memory.buffer q ≡ old.memory.buffer q)
    → IsDurable new c x → IsDurable old c x
durable_same old new c x layout same buffers (inl is) = inl (is ∙ same)
durable_same old new c x layout same buffers (inr d) = inr (record {
  by = d.by;
  process = (let l = ap (λ (y : Layout). y.processes) layout in let k = d.process in omega arith);
  there = subst (λ (b : List (BufferEntry Place)). Contains b (entry (Mark c) x)) (buffers d.by) d.there;
  no_older = (let k = d.no_older in omega arith);
})

-- what matters is no greater than the cached mark
pub matters_most : (p cell n : ℕ) (old new : PlainWorld) → (store : StoresAt (Mark cell) n old.memory new.memory) → (moves : Moves p (Mark cell) old new)
    → IsSound old → Buffered old → (c x : ℕ) → Matters new c x → x ≤ new.memory.cached (Mark c)
matters_most p cell n old new store moves sound buffered c x (even, inl is) = omega arith
matters_most p cell n old new store moves sound buffered c x (even, inr d) =
    let most = durable_most old c x sound buffered (durable_same old new c x moves.layout (store.persisted (Mark c)) store.buffer d) in
    let grows = (each_moved p (Mark cell) old new moves (Mark c)).cached in
    omega arith

-- an even number that is at most an odd one is less
pub odd_above : (x n : ℕ) → x % 2 ≡ 0 → n % 2 ≡ 1 → x ≤ n → x < n
odd_above x n a b c = omega arith

-- a part of the row is loaded: a cell whose bit is not there is owed nothing
pub row_passes : (p : ℕ) (row : List ℕ) (cell part word : ℕ) (old new : PlainWorld) → length row ≡ part → word ≡ old.memory.cached (Index cell part)
    → (c x : ℕ) → IsIndexed old cell c → SpreadOwes old.memory p row (LoadRow part) c x → SpreadOwes new.memory p (row ++ word ∷ []) (LoadRow (part + 1)) c x
row_passes p row cell part word old new size seen c x bit o = elim (cases_eq (c / 64) part) [
  | inl here ↦ inr (rw (here, slice_push row part word size) (subst (λ (y : ℕ). HasBit y c) (ap (λ (y : ℕ). old.memory.cached (Index cell y)) here ∙ sym seen) bit.2))
  | inr ne ↦ elim o [
    | inl later ↦ inl (omega arith)
    | inr there ↦ elim (lt_or (c / 64) part) [
      | inl before ↦ inr (rw (slice_front row (c / 64) word (omega arith)) there)
      | inr after ↦ inl (omega arith)
    ]
  ]
]
  where
    slice_push : (xs : List ℕ) (k v : ℕ) → length xs ≡ k → slice_index_or (xs ++ v ∷ []) k 0 ≡ v
    slice_push [] zero v size = refl
    slice_push [] (suc k) v size = absurd (omega arith)
    slice_push (y ∷ xs) zero v size = absurd (omega arith)
    slice_push (y ∷ xs) (suc k) v size = slice_push xs k v (omega arith)

    slice_front : (xs : List ℕ) (k v : ℕ) → k < length xs → slice_index_or (xs ++ v ∷ []) k 0 ≡ slice_index_or xs k 0
    slice_front [] k v lt = absurd (omega arith)
    slice_front (y ∷ xs) zero v lt = refl
    slice_front (y ∷ xs) (suc k) v lt = slice_front xs k v (omega arith)

    lt_or : (a b : ℕ) → (a < b) ⊎ (b ≤ a)
    lt_or a b = grind arith

-- it is flushed: a mark below the buffered one is below the cached one
pub flush_passes : (p : ℕ) (row : List ℕ) (d : ℕ) (old new : PlainWorld) → new.memory.buffer p ≡ entry (Mark d) (old.memory.cached (Mark d)) ∷ []
    → (c x : ℕ) → SpreadOwes old.memory p row (FlushTold d) c x → SpreadOwes new.memory p row (BackTold d) c x
flush_passes p row d old new alone c x (bit, inl lt) = (bit, inl lt)
flush_passes p row d old new alone c x (bit, inr o) = (
  bit,
  inr (
    o.0,
    record {
      value = old.memory.cached (Mark d);
      alone = alone ∙ ap (λ (y : ℕ). entry (Mark y) (old.memory.cached (Mark d)) ∷ []) o.0;
      below = (let e = ap (λ (y : ℕ). old.memory.cached (Mark y)) o.0 in let l = o.1 in omega arith);
    },
  ),
)

-- it is written back: nothing below that matters any more
pub back_passes : (p : ℕ) (row : List ℕ) (d d' v : ℕ) (old new : PlainWorld) → old.memory.buffer p ≡ entry (Mark d) v ∷ [] → v ≤ new.memory.persisted (Mark d) → new.memory.persisted (Mark d) ≤ new.memory.cached (Mark d)
    → ((c : ℕ) → d < c → HasBit (slice_index_or row (c / 64) 0) c → d' ≤ c)
    → (c x : ℕ) → Matters new c x → SpreadOwes old.memory p row (BackTold d) c x → SpreadOwes new.memory p row (OrTold d') c x
back_passes p row d d' v old new alone enough behind next c x matters (bit, inl lt) = (bit, next c lt bit)
back_passes p row d d' v old new alone enough behind next c x matters (bit, inr o) = absurd (gone o.0 o.1)
  where
    gone : d ≡ c → IsBelowBuffered old.memory p c x → ⊥
    gone at k =
        let both : entry (Mark d) v ∷ [] ≡ entry (Mark c) k.value ∷ [] = sym alone ∙ k.alone in
        let value : v ≡ k.value = ap (λ (y : BufferEntry Place). y.value) (let one : entry (Mark d) v ≡ entry (Mark c) k.value = cc in one) in
        let l = k.below in
        let p1 = ap (λ (y : ℕ). new.memory.persisted (Mark y)) at in
        let c1 = ap (λ (y : ℕ). new.memory.cached (Mark y)) at in
        elim matters.1 [
          | inl is ↦ omega arith
          | inr durable ↦ (let least = durable_least new c x durable in omega arith)
        ]
