-- Where each cell's entry is what its neighbours' entries give, all values are those from scratch.
use Rattle.std.proofs.Common.{◌≡◌, ℕ, zero, suc, ◌<◌, ◌≤◌, ◌==◌, min, true, false, List, refl, ap, ◌∙◌, inl, inr, arith}
use Rattle.std.proofs.lemmas.Bool.{cases_lt}
use Rattle.std.proofs.lemmas.Bool.Decides.{nat_tests}
use Rattle.ds_formula.specs.declared.cells.Shape.{Shape}
use Rattle.ds_formula.specs.declared.cells.Cell.{Cell}
use Rattle.ds_formula.specs.Cells.{IsInside, count_of}
use Rattle.ds_formula.specs.Plain.{PlainContent}
use Rattle.ds_eval.specs.declared.value.Value.{Value}
use Rattle.ds_eval.specs.declared.value.Value.TheVariants.{Circular}
use Rattle.ds_eval.specs.declared.inputs.Entry.{Entry}
use Rattle.ds_eval.specs.Evaluation.{content_value}
use Rattle.ds_eval.specs.Scratch.{Walk, value, IsScratch}
use Rattle.ds_eval.specs.Local.{content_height, entry_at, value_of, height_of, IsLocal, IsShown}
use Rattle.ds_eval.proofs.Neighbours.{reached, bound, value_on}

-- ---- an entry by its height

same_number : (n m : ℕ) → n ≡ m → (n == m) ≡ true
same_number n m e = grind (arith, nat_tests)

other_number : (n m : ℕ) → n < m → (n == m) ≡ false
other_number n m l = grind (arith, nat_tests)

-- at the height of all cells, an entry's value is Err:522
pub round_value : (shape : Shape) (p : PlainContent) (es : Cell → Entry) (h : ℕ) → h ≡ count_of shape → (entry_at shape p es h).value ≡ Circular
round_value shape p es h e = rw (same_number h (count_of shape) e) refl

-- below the height of all cells, an entry's value is the content's
pub plain_value : (shape : Shape) (p : PlainContent) (es : Cell → Entry) (h : ℕ) → h < count_of shape → (entry_at shape p es h).value ≡ content_value shape (value_of es) p
plain_value shape p es h l = rw (other_number h (count_of shape) l) refl

module _ (shape : Shape) (sheet : Cell → PlainContent) (es : Cell → Entry) (l : IsLocal shape sheet es) where
  height_is : (c : Cell) → IsInside shape c → height_of es c ≡ min (count_of shape) (content_height shape (height_of es) (sheet c))
  height_is c i = ap (λ (e : Entry). e.height) (l.each c i)

  walk_of_height : (k : ℕ) (c : Cell) → IsInside shape c → k ≤ height_of es c → Walk shape sheet k c
  walk_of_height zero c i e = tt
  walk_of_height (suc k) c i e =
      let r = reached shape (height_of es) (sheet c) k (omega (arith, height_is c i, e)) in
      (r.0, r.1, r.2, walk_of_height k r.0 r.2 r.3)

  height_of_walk : (k : ℕ) (c : Cell) → IsInside shape c → k ≤ count_of shape → Walk shape sheet k c → k ≤ height_of es c
  height_of_walk zero c i m w = omega arith
  height_of_walk (suc k) c i m w =
      let a = height_of_walk k w.0 w.2 (omega arith) w.3 in
      let b = bound shape (height_of es) (sheet c) w.0 w.1 w.2 in
      omega (arith, height_is c i, a, b, m)

  value_of_height : (n : ℕ) (c : Cell) → IsInside shape c → height_of es c < n → height_of es c < count_of shape → value_of es c ≡ value shape sheet n c
  value_of_height zero c i e m = absurd (omega arith)
  value_of_height (suc n) c i e m =
      let h = height_is c i in
      ap (λ (x : Entry). x.value) (l.each c i)
      ∙ plain_value shape (sheet c) es (min (count_of shape) (content_height shape (height_of es) (sheet c))) (omega (arith, h, m))
      ∙ value_on shape (value_of es) (value shape sheet n) (sheet c) (λ d r j.
      let b = bound shape (height_of es) (sheet c) d r j in
      value_of_height n d j (omega (arith, b, h, e, m)) (omega (arith, b, h, m)))

  pub fixed_point : (shown : List Value) → IsShown shape es shown → IsScratch shape sheet shown
  fixed_point shown s = record {
    each = s.each;
    circular = λ c i w.
        let a = height_of_walk (count_of shape) c i (omega arith) w in
        let h = height_is c i in
        s.same c i ∙ ap (λ (x : Entry). x.value) (l.each c i)
        ∙ round_value shape (sheet c) es (min (count_of shape) (content_height shape (height_of es) (sheet c))) (omega (arith, a, h));
    computed = λ c i never. elim (cases_lt (height_of es c) (count_of shape)) [
      | inl m ↦ s.same c i ∙ value_of_height (count_of shape) c i m m
      | inr m ↦ absurd (never (walk_of_height (count_of shape) c i m))
    ];
  }
