-- What the sides of a word may become: by a write-back, an eviction, or bits that are added.
use Rattle.std.proofs.Common.{ℕ, ◌≡◌, ◌≤◌, ◌/◌, ◌⊎◌, max, refl, sym, ◌∙◌, subst, arith, inl, inr}
use Rattle.std.specs.Prelude.{bit_or}
use Rattle.std.proofs.lemmas.Bool.{cases_eq}
use Rattle.ds_words.specs.Memory.{newer}
use Rattle.ds_layout.specs.declared.layout.Layout.{Layout}
use Rattle.ds_layout.specs.Places.{class_of}
use Rattle.ds_layout.specs.declared.place.Place.{Place}
use Rattle.ds_layout.specs.declared.place.Place.TheVariants.{Version, Head, Mark, Value, Kind, Index, Announce, Header, Text, Done}
use Rattle.ds_layout.specs.Bits.{IsSubset, bit_of}
use Rattle.ds_layout.proofs.OrBits.{IsSubset-same, IsSubset-both, IsSubset-or_left, IsSubset-or_both, HasBit-subset, HasBit-or_other}
use Rattle.ds_state.specs.World.{PlainEdit, PlainWorld, of_cell, IsHeadBy}
use Rattle.ds_state.specs.Owing.{IsMark}
use Rattle.ds_state.specs.WordsFit.{IsKept, WordFits}
use Rattle.ds_state.proofs.Heads.{Small, small_of_cell, persisted_most, written_back}
use Rattle.ds_state.proofs.Frames.{MovesWord}

-- what the persisted side v may become beside the cached side c
abbrev pub IsBetween : Layout → Place → ℕ → ℕ → ℕ → Type 0
IsBetween layout Version c v v' = (v' ≡ v) ⊎ (v' ≡ c)
IsBetween layout (Head cell) c v v' = (v' ≡ v) ⊎ (v' ≡ c)
IsBetween layout (Mark cell) c v v' = (v ≤ v') × (v' ≤ c) × IsMark layout cell v'
IsBetween layout (Value cell) c v v' = (v' ≡ v) ⊎ (v' ≡ c)
IsBetween layout (Kind cell) c v v' = (v' ≡ v) ⊎ (v' ≡ c)
IsBetween layout (Index row part) c v v' = IsSubset v v' × IsSubset v' c
IsBetween layout (Announce q) c v v' = (v' ≡ v) ⊎ (v' ≡ c)
IsBetween layout (Header q n) c v v' = (v' ≡ v) ⊎ (v' ≡ c)
IsBetween layout (Text edition q n part) c v v' = (v' ≡ v) ⊎ (v' ≡ c)
IsBetween layout (Done q part) c v v' = IsSubset v v' × IsSubset v' c

-- the value of a buffer's entry that may be written back
abbrev pub EntryFits : PlainWorld → Place → ℕ → ℕ → Type 0
EntryFits w Version c value = value ≡ c
EntryFits w (Head cell) c value = (e : PlainEdit) × IsHeadBy (of_cell cell w.counted) value e
EntryFits w (Mark cell) c value = (value ≤ c) × IsMark w.layout cell value
EntryFits w (Value cell) c value = value ≡ c
EntryFits w (Kind cell) c value = value ≡ c
EntryFits w (Index row part) c value = IsSubset value c
EntryFits w (Announce q) c value = value ≡ c
EntryFits w (Header q n) c value = value ≡ c
EntryFits w (Text edition q n part) c value = value ≡ c
EntryFits w (Done q part) c value = IsSubset value c

max_cases : (a b : ℕ) → (max a b ≡ a) ⊎ (max a b ≡ b)
max_cases a b = grind arith

newer_mark : (w : PlainWorld) (cell v value : ℕ) → IsMark w.layout cell v → IsMark w.layout cell value → IsMark w.layout cell (max v value)
newer_mark w cell v value h k = elim (max_cases v value) [ inl e ↦ subst (λ (x : ℕ). IsMark w.layout cell x) (sym e) h | inr e ↦ subst (λ (x : ℕ). IsMark w.layout cell x) (sym e) k ]

module _ (w : PlainWorld) (small : Small w.counted) where
  -- a write-back
  pub newer_between : (r : Place) (c v value : ℕ) → WordFits w r c v → EntryFits w r c value → IsBetween w.layout r c v (newer (class_of r) v value)
  newer_between Version c v value h e = inr (let b = h.behind in grind arith)
  newer_between (Head cell) c v value h e = written_back w (of_cell cell w.counted) c v value e.0 (small_of_cell cell w.counted small) h.last h.sides e.1
  newer_between (Mark cell) c v value h e = let b = h.behind in let l = e.0 in (omega arith, omega arith, newer_mark w cell v value h.persisted_holder e.1)
  newer_between (Value cell) c v value h e = inr e
  newer_between (Kind cell) c v value h e = inr e
  newer_between (Index row part) c v value h e = (IsSubset-or_left v value, IsSubset-or_both v value c h.sides e)
  newer_between (Announce q) c v value h e = inr e
  newer_between (Header q n) c v value h e = inr e
  newer_between (Text edition q n part) c v value h e = inr e
  newer_between (Done q part) c v value h e = (IsSubset-or_left v value, IsSubset-or_both v value c h.sides e)

  -- an eviction
  pub cached_between : (r : Place) (c v : ℕ) → WordFits w r c v → IsBetween w.layout r c v c
  cached_between Version c v h = inr refl
  cached_between (Head cell) c v h = inr refl
  cached_between (Mark cell) c v h = (h.behind, omega arith, h.holder)
  cached_between (Value cell) c v h = inr refl
  cached_between (Kind cell) c v h = inr refl
  cached_between (Index row part) c v h = (h.sides, IsSubset-same c)
  cached_between (Announce q) c v h = inr refl
  cached_between (Header q n) c v h = inr refl
  cached_between (Text edition q n part) c v h = inr refl
  cached_between (Done q part) c v h = (h.sides, IsSubset-same c)

  pub between_moves : (m : PlainWorld) (p : ℕ) (r : Place) (c v v' : ℕ) → WordFits w r c v → IsBetween w.layout r c v v' → MovesWord m p r c v c v'
  between_moves m p Version c v v' h b = tt
  between_moves m p (Head cell) c v v' h b =
      let most = persisted_most w (of_cell cell w.counted) c v (small_of_cell cell w.counted small) h.last h.sides in
      elim b [ inl same ↦ (omega arith, omega arith) | inr now ↦ (omega arith, omega arith) ]
  between_moves m p (Mark cell) c v v' h b =
      let least = b.0 in
      let most = b.1 in
      record { cached = omega arith; persisted = least; holds = λ q ne. record { cached = λ k. refl; persisted = λ k same. omega arith; came = λ k. k } }
  between_moves m p (Value cell) c v v' h b = inr (refl, b)
  between_moves m p (Kind cell) c v v' h b = inr (refl, b)
  between_moves m p (Index row part) c v v' h b = (IsSubset-same c, b.0)
  between_moves m p (Announce q) c v v' h b = (omega arith, (let l = h.sides in elim b [ inl same ↦ omega arith | inr now ↦ omega arith ]), inr (refl, b))
  between_moves m p (Header q n) c v v' h b = inr (refl, b)
  between_moves m p (Text edition q n part) c v v' h b = inr (inl (refl, b))
  between_moves m p (Done q part) c v v' h b = (IsSubset-same c, b.0)

-- a word that fits also fits with a persisted side that a write-back or an eviction may make of it
pub between_fits : (w : PlainWorld) (r : Place) (c v v' : ℕ) → WordFits w r c v → IsBetween w.layout r c v v' → WordFits w r c v'
between_fits w Version c v v' h b = record { behind = (let k = h.behind in elim b [ inl same ↦ omega arith | inr now ↦ omega arith ]); most = h.most }
between_fits w (Head cell) c v v' h b = elim b [
  | inl same ↦ rw same h
  | inr now ↦ record { last = h.last; sides = inl now }
]
between_fits w (Mark cell) c v v' h b = record { behind = b.1; few = h.few; holder = h.holder; persisted_holder = b.2 }
between_fits w (Value cell) c v v' h b = elim b [ inl same ↦ rw same h | inr now ↦ inl now ]
between_fits w (Kind cell) c v v' h b = elim b [ inl same ↦ rw same h | inr now ↦ inl now ]
between_fits w (Index row part) c v v' h b = record {
  sides = b.1;
  counted = λ e there its refers. let both = h.counted e there its refers in (both.0, HasBit-subset v v' e.cell b.0 both.1);
}
between_fits w (Announce q) c v v' h b = record {
  sides = (let l = h.sides in elim b [ inl same ↦ omega arith | inr now ↦ omega arith ]);
  on_cached = h.on_cached;
  on_persisted = λ n small is. elim b [ inl same ↦ h.on_persisted n small (sym same ∙ is) | inr now ↦ h.on_cached n small (sym now ∙ is) ];
}
between_fits w (Header q n) c v v' h b = λ e there i j k. let both = h e there i j k in (both.0, elim b [ inl same ↦ same ∙ both.1 | inr now ↦ now ∙ both.0 ])
between_fits w (Text edition q n part) c v v' h b = λ shown e there i j k. let both = h shown e there i j k in (both.0, elim b [ inl same ↦ same ∙ both.1 | inr now ↦ now ∙ both.0 ])
between_fits w (Done q part) c v v' h b = record {
  sides = b.1;
  superseded = λ n its o. HasBit-subset v v' n b.0 (h.superseded n its o);
  told = h.told;
}

-- bits that are added to an index row
pub row_or_fits : (w : PlainWorld) (row part c v bits : ℕ) → WordFits w (Index row part) c v → WordFits w (Index row part) (bit_or c bits) v
row_or_fits w row part c v bits h = record {
  sides = IsSubset-both v c (bit_or c bits) h.sides (IsSubset-or_left c bits);
  counted = λ e there its refers. let both = h.counted e there its refers in (HasBit-subset c (bit_or c bits) e.cell (IsSubset-or_left c bits) both.0, both.1);
}

-- the done bit of an edit that no crash takes
pub done_or_fits : (w : PlainWorld) (p n c v : ℕ) → IsKept w p n → WordFits w (Done p (n / 64)) c v → WordFits w (Done p (n / 64)) (bit_or c (bit_of n)) v
done_or_fits w p n c v kept h = record {
  sides = IsSubset-both v c (bit_or c (bit_of n)) h.sides (IsSubset-or_left c (bit_of n));
  superseded = h.superseded;
  told = λ k small its has. elim (cases_eq k n) [
    | inl same ↦ subst (λ (x : ℕ). IsKept w p x) (sym same) kept
    | inr other ↦ h.told k small its (HasBit-or_other c n k its other has)
  ];
}
