-- The words with which the board of a new sheet is made.
use Rattle.std.proofs.Common.{ℕ, ◌≡◌, ◌≢◌, ◌<◌, List, length, length-set, get_or, set, refl, sym, ap, subst, ◌∙◌, inl, inr, arith, eq-eqb, ne_eqb, ext_get_or}
use Rattle.std.proofs.lemmas.List.{get_or-set_same, get_or-set_other, length-replicate, get_or-replicate}
use Rattle.std.specs.Prelude.{replicate}
use mathlib.Core.Logic.{dite}
use native.Mathlib.Decide.{ℕ_discrete}
use Rattle.ds_layout.specs.declared.layout.Layout.{Layout}
use Rattle.ds_layout.specs.declared.place.Place.TheVariants.{Version}
use Rattle.ds_layout.specs.Places.{number_of, words_of}
use Rattle.ds_layout.proofs.Places.{number_of_below}
use Rattle.pm_board.specs.Rule.{AreFirst, IsSideOf}
use Rattle.pm_board.specs.Table.{cached_at, persisted_at}
use Rattle.pm_board.proofs.Sides.{before, no_sides, one_word, Side, of_word, of_none, side}
use Rattle.ds_structure.specs.Sheet.{apart_of, sheet}
use Rattle.ds_structure.specs.declared.sheet.SheetKey.{SheetKey}
use Rattle.ds_structure_shared.specs.Boards.{new_words}

module _ (key : SheetKey) where
  abbrev apart : ℕ
  apart = apart_of key.layout

  abbrev v : ℕ
  v = number_of key.layout Version

  abbrev size : ℕ
  size = cached_at apart (words_of key.layout)

  abbrev blank : List ℕ
  blank = replicate size 0

  abbrev one : List ℕ
  one = set blank (cached_at apart v) 1

  long : length (new_words key.layout) ≡ size
  long = length-set one (persisted_at apart v) 1 ∙ (length-set blank (cached_at apart v) 1 ∙ length-replicate {A = ℕ} size 0)

  there : persisted_at apart v < size
  there = before apart v (words_of key.layout) (number_of_below key.layout Version tt)

  at_version : get_or (new_words key.layout) (cached_at apart v) 0 ≡ 1
  at_version =
      let low = there in
      let is = length-replicate {A = ℕ} size 0 in
      get_or-set_other one (persisted_at apart v) (cached_at apart v) 1 0 (no_sides apart v v) ∙ get_or-set_same blank (cached_at apart v) 1 0 (omega (arith, low, is))

  at_persisted : get_or (new_words key.layout) (persisted_at apart v) 0 ≡ 1
  at_persisted =
      let low = there in
      let is = length-set blank (cached_at apart v) 1 ∙ length-replicate {A = ℕ} size 0 in
      get_or-set_same one (persisted_at apart v) 1 0 (omega (arith, low, is))

  elsewhere : (i : ℕ) → i < size → (IsSideOf apart i v → ⊥) → get_or (new_words key.layout) i 0 ≡ 0
  elsewhere i low none = get_or-set_other one (persisted_at apart v) i 1 0 (λ e. none (inr e)) ∙ (get_or-set_other blank (cached_at apart v) i 1 0 (λ e. none (inl e)) ∙ get_or-replicate size i 0 0 low)

  at_side : (i : ℕ) → IsSideOf apart i v → get_or (new_words key.layout) i 0 ≡ 1
  at_side i (inl is) = ap (λ (j : ℕ). get_or (new_words key.layout) j 0) is ∙ at_version
  at_side i (inr is) = ap (λ (j : ℕ). get_or (new_words key.layout) j 0) is ∙ at_persisted

  first_at : (r : ℕ) → r ≡ v → sheet.first_word key r ≡ 1
  first_at r is = rw (eq-eqb r v is) refl

  first_else : (r : ℕ) → r ≢ v → sheet.first_word key r ≡ 0
  first_else r ne = rw (ne_eqb r v ne) refl

  module _ (ws : List ℕ) (h : AreFirst sheet key (words_of key.layout) ws) where
    by_side : (i : ℕ) → i < size → Side apart i (words_of key.layout) → get_or ws i 0 ≡ get_or (new_words key.layout) i 0
    by_side i low (of_word r there is) = h.sides i r there is ∙ dite (ℕ_discrete r v)
        (λ same. first_at r same ∙ sym (at_side i (subst (IsSideOf apart i) same is)))
        (λ ne. first_else r ne ∙ sym (elsewhere i low (λ of_version. ne (one_word apart i r v is of_version))))
    by_side i low (of_none none) = h.between i none ∙ sym (elsewhere i low (none v (number_of_below key.layout Version tt)))

    pub are_new : ws ≡ new_words key.layout
    are_new = ext_get_or 0 ws (new_words key.layout) (h.long ∙ sym long) (λ i low. let s = h.long in by_side i (omega (arith, low, s)) (side apart i (words_of key.layout)))
