-- The places that are named, each once.
use Rattle.std.proofs.Common.{ℕ, zero, suc, ◌≡◌, ◌≢◌, ◌<◌, ◌≤◌, ◌+◌, ◌∙◌, inl, inr, List, [], ◌∷◌, ◌++◌, Some, None, length, get_or, take, refl, sym, ap, subst, arith}
use Rattle.std.specs.Prelude.{Contains, ◌↔◌}
use Rattle.std.proofs.lemmas.Bool.{cases_lt}
use Rattle.std.proofs.lemmas.List.{append-nil, length-append, take-append-le, take_all, take_more}
use Rattle.std.proofs.lemmas.List.Elements.{Contains-append_left, Contains-append_right, Contains-append_cases, filter_map-append}
use Rattle.std.proofs.lemmas.List.Quantifiers.{all_pairs_push}
use Rattle.ds_layout.specs.declared.place.Place.{Place}
use Rattle.ds_trace.specs.declared.row.TraceRow.{TraceRow}
use Rattle.ds_trace.specs.Traces.{AreFirsts, names_of, place_named}

-- the only one of a list of one
only : (x y : Place) → Contains (x ∷ []) y → x ≡ y
only x y (zero, below, is) = is
only x y (suc k, below, is) = absurd (let e : ⊥ = omega (arith, below) in e)

itself : (x : Place) → Contains (x ∷ []) x
itself x = (zero, omega arith, refl)

nowhere : (x : Place) → Contains [] x → ⊥
nowhere x (k, below, is) = omega (arith, below)

any_default : (places : List Place) (k : ℕ) (a b : Place) → k < length places → get_or places k a ≡ get_or places k b
any_default [] k a b below = absurd (let e : ⊥ = omega (arith, below) in e)
any_default (x ∷ places) zero a b below = refl
any_default (x ∷ places) (suc k) a b below = any_default places k a b (omega (arith, below))

-- nothing is named
pub firsts_none : AreFirsts [] []
firsts_none = record {
  once = λ i j d before below. absurd (let e : ⊥ = omega (arith, below) in e);
  each = λ place there. there;
  in_order = λ n most. (0, omega arith, λ place. ((λ h. subst (λ (k : ℕ). Contains (take k []) place) (let e : n ≡ 0 = omega (arith, most) in e) h), (λ h. subst (λ (k : ℕ). Contains (take k []) place) (let e : 0 ≡ n = omega (arith, most) in e) h)));
}

-- the first of the names stay so where one comes behind them
module _ (names : List Place) (x : Place) (places : List Place) (h : AreFirsts names places) where
  long : length (names ++ x ∷ []) ≡ length names + 1
  long = length-append names (x ∷ [])

  early : (n : ℕ) → n ≤ length places → (k : ℕ) × (k ≤ length (names ++ x ∷ [])) × ((place : Place) → Contains (take n places) place ↔ Contains (take k (names ++ x ∷ [])) place)
  early n most =
      let o = h.in_order n most in
      let same : take o.0 (names ++ x ∷ []) ≡ take o.0 names = take-append-le o.0 names (x ∷ []) o.1 in (
        o.0,
        (let a = o.1 in let b = long in omega (arith, a, b)),
        λ place. (
          (λ there. subst (λ (l : List Place). Contains l place) (sym same) ((o.2 place).0 there)),
          (λ there. (o.2 place).1 (subst (λ (l : List Place). Contains l place) same there)),
        ),
      )

  -- each place is named
  back : (place : Place) → Contains places place → Contains names place
  back place there =
      let o = h.in_order (length places) (omega arith) in
      let taken : Contains (take o.0 names) place = (o.2 place).0 (subst (λ (l : List Place). Contains l place) (sym (take_all (length places) places (omega arith))) there) in
      within o.0 names taken
    where
      within : (k : ℕ) (l : List Place) → Contains (take k l) place → Contains l place
      within zero [] there = there
      within (suc k) [] there = there
      within zero (y ∷ l) there = absurd (nowhere place there)
      within (suc k) (y ∷ l) (zero, below, is) = (zero, omega arith, is)
      within (suc k) (y ∷ l) (suc i, below, is) =
          let r = within k l (i, omega (arith, below), is) in
          (suc r.0, (let b = r.1 in omega (arith, b)), r.2)

  -- a name that is a place already
  pub firsts_again : Contains places x → AreFirsts (names ++ x ∷ []) places
  firsts_again there = record {
    once = h.once;
    each = λ place named. elim (Contains-append_cases names (x ∷ []) place named) [
      | inl before ↦ h.each place before
      | inr last ↦ subst (λ (p : Place). Contains places p) (only x place last) there
    ];
    in_order = early;
  }

  -- a name that is no place yet
  pub firsts_new : (Contains places x → ⊥) → AreFirsts (names ++ x ∷ []) (places ++ x ∷ [])
  firsts_new none = record {
    once = all_pairs_push (λ (p q : Place). p ≢ q) places x h.once (λ k d below same. none (k, below, at k d below same));
    each = λ place named. elim (Contains-append_cases names (x ∷ []) place named) [
      | inl before ↦ Contains-append_left places (x ∷ []) place (h.each place before)
      | inr last ↦ Contains-append_right places (x ∷ []) place last
    ];
    in_order = λ n most. elim (cases_lt (length places) n) [
      | inl more ↦ whole n most more
      | inr less ↦ (
          let same : take n (places ++ x ∷ []) ≡ take n places = take-append-le n places (x ∷ []) less in
          let o = early n less in (
            o.0,
            o.1,
            λ place. (
              (λ there. (o.2 place).0 (subst (λ (l : List Place). Contains l place) same there)),
              (λ there. subst (λ (l : List Place). Contains l place) (sym same) ((o.2 place).1 there)),
            ),
          ))
    ];
  }
    where
      at : (k : ℕ) (d : Place) → k < length places → get_or places k d ≡ x → get_or places k x ≡ x
      at k d below same = any_default places k x d below ∙ same

      both : (place : Place) → Contains (places ++ x ∷ []) place ↔ Contains (names ++ x ∷ []) place
      both place = (
        (λ there. elim (Contains-append_cases places (x ∷ []) place there) [
          | inl before ↦ Contains-append_left names (x ∷ []) place (back place before)
          | inr last ↦ Contains-append_right names (x ∷ []) place last
        ]),
        (λ there. elim (Contains-append_cases names (x ∷ []) place there) [
          | inl before ↦ Contains-append_left places (x ∷ []) place (h.each place before)
          | inr last ↦ Contains-append_right places (x ∷ []) place last
        ]),
      )

      whole : (n : ℕ) → n ≤ length (places ++ x ∷ []) → length places < n → (k : ℕ) × (k ≤ length (names ++ x ∷ [])) × ((place : Place) → Contains (take n (places ++ x ∷ [])) place ↔ Contains (take k (names ++ x ∷ [])) place)
      whole n most more =
          let all : take n (places ++ x ∷ []) ≡ places ++ x ∷ [] = take_all n (places ++ x ∷ []) (let s = length-append places (x ∷ []) in omega (arith, s, more)) in
          let end : take (length (names ++ x ∷ [])) (names ++ x ∷ []) ≡ names ++ x ∷ [] = take_all (length (names ++ x ∷ [])) (names ++ x ∷ []) (omega arith) in (
            length (names ++ x ∷ []),
            omega arith,
            λ place. (
              (λ there. subst (λ (l : List Place). Contains l place) (sym end) ((both place).0 (subst (λ (l : List Place). Contains l place) all there))),
              (λ there. subst (λ (l : List Place). Contains l place) (sym all) ((both place).1 (subst (λ (l : List Place). Contains l place) end there))),
            ),
          )

-- ---- rows

-- what a row more names
names_more : (rows : List TraceRow) (i : ℕ) (row : TraceRow) → i < length rows → row ≡ get_or rows i row → names_of (take (i + 1) rows) ≡ names_of (take i rows) ++ names_of (row ∷ [])
names_more rows i row below at =
    ap (λ (l : List TraceRow). names_of l) (take_more rows i row below ∙ ap (λ (r : TraceRow). take i rows ++ r ∷ []) (sym at))
    ∙ filter_map-append (λ (r : TraceRow). place_named r.what) (take i rows) (row ∷ [])

-- a row that names a place
pub names_one : (rows : List TraceRow) (i : ℕ) (row : TraceRow) (place : Place) → i < length rows → row ≡ get_or rows i row → place_named row.what ≡ Some place → names_of (take (i + 1) rows) ≡ names_of (take i rows) ++ place ∷ []
names_one rows i row place below at is = names_more rows i row below at ∙ ap (λ (l : List Place). names_of (take i rows) ++ l) (rw is refl)

-- a row that names none
pub names_none : (rows : List TraceRow) (i : ℕ) (row : TraceRow) → i < length rows → row ≡ get_or rows i row → place_named row.what ≡ None → names_of (take (i + 1) rows) ≡ names_of (take i rows)
names_none rows i row below at is = names_more rows i row below at ∙ ap (λ (l : List Place). names_of (take i rows) ++ l) (rw is refl) ∙ append-nil (names_of (take i rows))
