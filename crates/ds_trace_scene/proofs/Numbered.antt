-- The columns of the words that change, by the numbers of the words.
use Rattle.std.proofs.Common.{ℕ, zero, suc, ◌≡◌, ◌<◌, ◌≤◌, ◌+◌, inl, inr, List, [], ◌∷◌, ◌++◌, length, get_or, take, refl, sym, subst, arith}
use Rattle.std.specs.Prelude.{All, Contains}
use Rattle.std.specs.List.{AllZip}
use Rattle.std.proofs.lemmas.Bool.{cases_lt}
use Rattle.std.proofs.lemmas.List.{take_all}
use Rattle.std.proofs.lemmas.List.Elements.{All-more, Contains-append_left, Contains-append_right, Contains-append_cases}
use Rattle.std.proofs.lemmas.List.Quantifiers.{all_pairs_push}
use Rattle.ds_trace.specs.declared.row.TraceRow.{TraceRow}
use Rattle.ds_trace.specs.declared.row.Trace.{Trace}
use Rattle.ds_trace_scene.specs.declared.columns.Column.{Column}
use Rattle.ds_trace_scene.specs.Columns.{AreColumns, Changes, IsColumnOf, first_in, word_in}

-- the only one of a list of one
only : (x y : ℕ) → Contains (x ∷ []) y → x ≡ y
only x y (zero, below, is) = is
only x y (suc k, below, is) = absurd (let e : ⊥ = omega (arith, below) in e)

-- one more pair
pub zip_push : {A B : Type 0} (R : A → B → Type 0) (xs : List A) (ys : List B) (x : A) (y : B) → AllZip R xs ys → R x y → AllZip R (xs ++ x ∷ []) (ys ++ y ∷ [])
zip_push R [] [] x y h r = (r, tt)
zip_push R [] (b ∷ ys) x y h r = absurd h
zip_push R (a ∷ xs) [] x y h r = absurd h
zip_push R (a ∷ xs) (b ∷ ys) x y h r = (h.0, zip_push R xs ys x y h.1 r)

-- none of no words
pub columns_none : (trace : Trace) (columns : List Column) → columns ≡ [] → AreColumns trace 0 columns
columns_none trace columns none = record {
  numbers = [];
  in_order = λ i j d before below. absurd (let e : ⊥ = omega (arith, below) in e);
  each = λ number. (
    (λ there. absurd (let b : there.0 < 0 = there.1 in let e : ⊥ = omega (arith, b) in e)),
    (λ h. absurd (let b : number < 0 = h.0 in let e : ⊥ = omega (arith, b) in e)),
  );
  are = subst (λ (l : List Column). AllZip (IsColumnOf trace) [] l) (sym none) tt;
}

-- one word more
module _ (trace : Trace) (number : ℕ) (columns : List Column) (h : AreColumns trace number columns) where
  -- all that are there are before it
  before : (k : ℕ) (d : ℕ) → k < length h.numbers → get_or h.numbers k d < number
  before k d below =
      let same : get_or h.numbers k (get_or h.numbers k d) ≡ get_or h.numbers k d = any_default h.numbers k (get_or h.numbers k d) d below in
      ((h.each (get_or h.numbers k d)).0 (k, below, same)).0
    where
      any_default : (xs : List ℕ) (k a b : ℕ) → k < length xs → get_or xs k a ≡ get_or xs k b
      any_default [] k a b lt = absurd (let e : ⊥ = omega (arith, lt) in e)
      any_default (x ∷ xs) zero a b lt = refl
      any_default (x ∷ xs) (suc k) a b lt = any_default xs k a b (omega (arith, lt))

  -- one that changes
  pub columns_more : (column : Column) → Changes trace number → IsColumnOf trace number column → AreColumns trace (number + 1) (columns ++ column ∷ [])
  columns_more column changes is = record {
    numbers = h.numbers ++ number ∷ [];
    in_order = all_pairs_push (λ (a b : ℕ). a < b) h.numbers number h.in_order (λ k d below. before k d below);
    each = λ other. (
      (λ there. elim (Contains-append_cases h.numbers (number ∷ []) other there) [
        | inl old ↦ (let o = (h.each other).0 old in ((let lt : other < number = o.0 in omega (arith, lt)), o.1))
        | inr new ↦ (let same : number ≡ other = only number other new in ((omega (arith, same)), subst (λ (n : ℕ). Changes trace n) same changes))
      ]),
      (λ (low, does). elim (cases_lt other number) [
        | inl lt ↦ Contains-append_left h.numbers (number ∷ []) other ((h.each other).1 (lt, does))
        | inr ge ↦ Contains-append_right h.numbers (number ∷ []) other (zero, omega arith, (let same : number ≡ other = omega (arith, low, ge) in same))
      ]),
    );
    are = zip_push (IsColumnOf trace) h.numbers columns number column h.are is;
  }

  -- one that does not
  pub columns_same : (Changes trace number → ⊥) → AreColumns trace (number + 1) columns
  columns_same still = record {
    numbers = h.numbers;
    in_order = h.in_order;
    each = λ other. (
      (λ there. let o = (h.each other).0 there in ((let lt : other < number = o.0 in omega (arith, lt)), o.1)),
      (λ (low, does). elim (cases_lt other number) [
        | inl lt ↦ (h.each other).1 (lt, does)
        | inr ge ↦ absurd (still (subst (λ (n : ℕ). Changes trace n) (let same : other ≡ number = omega (arith, low, ge) in same) does))
      ]),
    );
    are = h.are;
  }

-- the word is another one after this event
pub changes_at : (trace : Trace) (number event : ℕ) (row : TraceRow) → event < length trace.rows.items → row ≡ get_or trace.rows.items event row → (word_in number row ≡ first_in trace number → ⊥) → Changes trace number
changes_at trace number event row lt is differs = (event, row, lt, sym is, differs)

-- it is the same one after all
pub changes_never : (trace : Trace) (number index : ℕ) → length trace.rows.items ≤ index → All (λ row. word_in number row ≡ first_in trace number) (take index trace.rows.items) → Changes trace number → ⊥
changes_never trace number index all same (k, row, lt, is, differs) =
    differs (subst (λ (r : TraceRow). word_in number r ≡ first_in trace number) is (subst (λ (l : List TraceRow). All (λ (r : TraceRow). word_in number r ≡ first_in trace number) l) (take_all index trace.rows.items all) same k row lt))

-- it is the same one after one event more
pub same_more : (trace : Trace) (number event : ℕ) (row : TraceRow) → event < length trace.rows.items → row ≡ get_or trace.rows.items event row → All (λ row. word_in number row ≡ first_in trace number) (take event trace.rows.items)
    → word_in number row ≡ first_in trace number → All (λ row. word_in number row ≡ first_in trace number) (take (event + 1) trace.rows.items)
same_more trace number event row lt at before is =
    All-more (λ (r : TraceRow). word_in number r ≡ first_in trace number) trace.rows.items event row lt before (subst (λ (r : TraceRow). word_in number r ≡ first_in trace number) at is)
