-- Heights and values rest on the cells of the sheet that are written in a content, and on nothing else.
use Rattle.std.proofs.Common.{◌≡◌, ℕ, zero, suc, ◌*◌, ◌<◌, ◌≤◌, min, max, Bool, true, false, ◌==◌, if◌then◌else◌, List, [], ◌∷◌, ◌++◌, map, refl, sym, ap, subst, ◌∙◌, inl, inr, arith}
use Rattle.std.proofs.lemmas.Bool.{cases_lt}
use Rattle.std.proofs.lemmas.List.{map-append}
use Rattle.ds_formula.specs.declared.cells.Shape.{Shape}
use Rattle.ds_formula.specs.declared.cells.Cell.{Cell}
use Rattle.ds_formula.specs.declared.cells.Rect.{Rect}
use Rattle.ds_formula.specs.Cells.{IsInside, IsWithin, count_of}
use Rattle.ds_formula.specs.Plain.{Formula, Literal, At, Area, Signed, Joined, Called, Formulas, Nothing, Then, PlainContent, Empty, Constant, Computed, count}
use Rattle.ds_formula.specs.Refs.{Mentions, SomeMentions, Refers}
use Rattle.ds_eval.specs.declared.value.Value.{Value}
use Rattle.ds_eval.specs.declared.value.Value.TheVariants.{Blank, Num, Number, Circular}
use Rattle.ds_eval.specs.declared.inputs.Entry.{Entry}
use Rattle.ds_eval.specs.Numbers.{with_number, with_numbers, signed, joined}
use Rattle.ds_formula.specs.Functions.{all_functions, takes_ranges}
use Rattle.ds_eval.specs.Evaluation.{is_inside, width, height, cell_of, first_cells, Argument, Own, Cells, argument_of, applied, is_computed, formula_value, arguments, content_value}
use Rattle.ds_eval.specs.Local.{above, reference_height, formula_height, formulas_height, content_height, entry_at, local, value_of, height_of}
use Rattle.ds_eval.proofs.Heights.{above_push}
use Rattle.ds_eval.proofs.Ranges.{inside_from, inside_is, within_range, number_in}

module _ (shape : Shape) where
  -- ---- ranges

  above_suc : (h : Cell → ℕ) (area : Rect) (columns n : ℕ) → above (map h (first_cells area columns (suc n))) ≡ max (above (map h (first_cells area columns n))) (suc (h (cell_of area columns n)))
  above_suc h area columns n = ap above (map-append h (first_cells area columns n) (cell_of area columns n ∷ [])) ∙ above_push (map h (first_cells area columns n)) (h (cell_of area columns n))

  range_reached : (h : Cell → ℕ) (area : Rect) (columns n k : ℕ) → suc k ≤ above (map h (first_cells area columns n)) → (i : ℕ) × (i < n) × (k ≤ h (cell_of area columns i))
  range_reached h area columns zero k e = absurd (omega arith)
  range_reached h area columns (suc n) k e = elim (cases_lt (above (map h (first_cells area columns n))) (suc k)) [
    | inl l ↦ (n, omega arith, omega (arith, above_suc h area columns n, e, l))
    | inr g ↦ let r = range_reached h area columns n k g in (r.0, omega (arith, r.1), r.2)
  ]

  range_bound : (h : Cell → ℕ) (area : Rect) (columns n i : ℕ) → i < n → suc (h (cell_of area columns i)) ≤ above (map h (first_cells area columns n))
  range_bound h area columns zero i l = absurd (omega arith)
  range_bound h area columns (suc n) i l = elim (cases_lt i n) [
    | inl m ↦ let k = range_bound h area columns n i m in omega (arith, above_suc h area columns n, k)
    | inr m ↦ let e : n ≡ i = omega arith in
        subst (λ (j : ℕ). suc (h (cell_of area columns j)) ≤ above (map h (first_cells area columns (suc n)))) e (omega (arith, above_suc h area columns n))
  ]

  range_on : {A : Type 0} (r s : Cell → A) (area : Rect) (n : ℕ) → n ≤ width shape area * height shape area → ((d : Cell) → IsWithin area d → IsInside shape d → r d ≡ s d)
      → map r (first_cells area (width shape area) n) ≡ map s (first_cells area (width shape area) n)
  range_on r s area zero l e = refl
  range_on {A} r s area (suc n) l e =
      let c = cell_of area (width shape area) n in
      let before = first_cells area (width shape area) n in
      let w = within_range shape area n (omega arith) in
      map-append r before (c ∷ [])
      ∙ ap (λ (xs : List A). xs ++ r c ∷ []) (range_on r s area n (omega arith) e)
      ∙ ap (λ (x : A). map s before ++ x ∷ []) (e c w.0 w.1)
      ∙ sym (map-append s before (c ∷ []))

  -- ---- heights

  reference_reached : (h : Cell → ℕ) (c : Cell) (b : Bool) (k : ℕ) → is_inside shape c ≡ b → suc k ≤ (if b then suc (h c) else 0) → (d : Cell) × (c ≡ d) × IsInside shape d × (k ≤ h d)
  reference_reached h c true k e l = (c, refl, inside_from shape c e, omega arith)
  reference_reached h c false k e l = absurd (omega arith)

  reference_bound : (h : Cell → ℕ) (c : Cell) → IsInside shape c → suc (h c) ≤ reference_height shape h c
  reference_bound h c i = rw (inside_is shape c i) (omega arith)

  mutual
    formula_reached : (h : Cell → ℕ) (f : Formula) (k : ℕ) → suc k ≤ formula_height shape h f → (d : Cell) × Mentions f d × IsInside shape d × (k ≤ h d)
    formula_reached h (Literal z) k e = absurd (omega arith)
    formula_reached h (At c) k e = reference_reached h c (is_inside shape c) k refl e
    formula_reached h (Area a) k e =
        let r = range_reached h a (width shape a) (width shape a * height shape a) k e in
        let w = within_range shape a r.0 r.1 in
        (cell_of a (width shape a) r.0, w.0, w.1, r.2)
    formula_reached h (Signed s f) k e = formula_reached h f k e
    formula_reached h (Joined o f g) k e = elim (cases_lt (formula_height shape h f) (suc k)) [
      | inl l ↦ let r = formula_reached h g k (omega (arith, e, l)) in (r.0, inr r.1, r.2, r.3)
      | inr m ↦ let r = formula_reached h f k m in (r.0, inl r.1, r.2, r.3)
    ]
    formula_reached h (Called g fs) k e = formulas_reached h fs k e

    formulas_reached : (h : Cell → ℕ) (fs : Formulas) (k : ℕ) → suc k ≤ formulas_height shape h fs → (d : Cell) × SomeMentions fs d × IsInside shape d × (k ≤ h d)
    formulas_reached h Nothing k e = absurd (omega arith)
    formulas_reached h (Then f fs) k e = elim (cases_lt (formula_height shape h f) (suc k)) [
      | inl l ↦ let r = formulas_reached h fs k (omega (arith, e, l)) in (r.0, inr r.1, r.2, r.3)
      | inr m ↦ let r = formula_reached h f k m in (r.0, inl r.1, r.2, r.3)
    ]

  mutual
    formula_bound : (h : Cell → ℕ) (f : Formula) (d : Cell) → Mentions f d → IsInside shape d → suc (h d) ≤ formula_height shape h f
    formula_bound h (Literal z) d m i = absurd m
    formula_bound h (At c) d m i = subst (λ (x : Cell). suc (h x) ≤ reference_height shape h c) m (reference_bound h c (subst (IsInside shape) (sym m) i))
    formula_bound h (Area a) d m i =
        let n = number_in shape a d m i in
        subst (λ (x : Cell). suc (h x) ≤ formula_height shape h (Area a)) n.2 (range_bound h a (width shape a) (width shape a * height shape a) n.0 n.1)
    formula_bound h (Signed s f) d m i = formula_bound h f d m i
    formula_bound h (Joined o f g) d (inl m) i = let k = formula_bound h f d m i in omega (arith, k)
    formula_bound h (Joined o f g) d (inr m) i = let k = formula_bound h g d m i in omega (arith, k)
    formula_bound h (Called g fs) d m i = formulas_bound h fs d m i

    formulas_bound : (h : Cell → ℕ) (fs : Formulas) (d : Cell) → SomeMentions fs d → IsInside shape d → suc (h d) ≤ formulas_height shape h fs
    formulas_bound h Nothing d m i = absurd m
    formulas_bound h (Then f fs) d (inl m) i = let k = formula_bound h f d m i in omega (arith, k)
    formulas_bound h (Then f fs) d (inr m) i = let k = formulas_bound h fs d m i in omega (arith, k)

  pub reached : (h : Cell → ℕ) (p : PlainContent) (k : ℕ) → suc k ≤ content_height shape h p → (d : Cell) × Refers p d × IsInside shape d × (k ≤ h d)
  reached h Empty k e = absurd (omega arith)
  reached h (Constant z) k e = absurd (omega arith)
  reached h (Computed f) k e = formula_reached h f k e

  pub bound : (h : Cell → ℕ) (p : PlainContent) (d : Cell) → Refers p d → IsInside shape d → suc (h d) ≤ content_height shape h p
  bound h Empty d m i = absurd m
  bound h (Constant z) d m i = absurd m
  bound h (Computed f) d m i = formula_bound h f d m i

  -- ---- values

  look_on : (r s : Cell → Value) (c : Cell) (b : Bool) → is_inside shape c ≡ b → (IsInside shape c → r c ≡ s c) → (if b then r c else Blank) ≡ (if b then s c else Blank)
  look_on r s c true e h = h (inside_from shape c e)
  look_on r s c false e h = refl

  argument_on : (r s : Cell → Value) (b : Bool) (f : Formula) (v w : Value) → v ≡ w → ((d : Cell) → Mentions f d → IsInside shape d → r d ≡ s d) → argument_of b shape r f v ≡ argument_of b shape s f w
  argument_on r s b (Literal z) v w e h = ap Own e
  argument_on r s true (At c) v w e h = ap (λ (x : Value). Cells (x ∷ [])) (look_on r s c (is_inside shape c) refl (h c refl))
  argument_on r s false (At c) v w e h = ap Own e
  argument_on r s true (Area a) v w e h = ap Cells (range_on r s a (width shape a * height shape a) (omega arith) h)
  argument_on r s false (Area a) v w e h = ap Own e
  argument_on r s b (Signed t f) v w e h = ap Own e
  argument_on r s b (Joined o f g) v w e h = ap Own e
  argument_on r s b (Called g fs) v w e h = ap Own e

  mutual
    formula_on : (r s : Cell → Value) (f : Formula) → ((d : Cell) → Mentions f d → IsInside shape d → r d ≡ s d) → formula_value shape r f ≡ formula_value shape s f
    formula_on r s (Literal z) h = refl
    formula_on r s (At c) h = ap (λ (x : Value). with_number x Number) (look_on r s c (is_inside shape c) refl (h c refl))
    formula_on r s (Area a) h = refl
    formula_on r s (Signed t f) h = ap (λ (x : Value). with_number x (signed t)) (formula_on r s f h)
    formula_on r s (Joined o f g) h =
        ap (λ (x : Value). with_numbers x (formula_value shape r g) (joined o)) (formula_on r s f (λ d m. h d (inl m)))
        ∙ ap (λ (x : Value). with_numbers (formula_value shape s f) x (joined o)) (formula_on r s g (λ d m. h d (inr m)))
    formula_on r s (Called g fs) h = ap (λ (xs : List Argument). if is_computed all_functions g (count fs) then applied g xs else Num) (arguments_on r s (takes_ranges g) fs h)

    arguments_on : (r s : Cell → Value) (b : Bool) (fs : Formulas) → ((d : Cell) → SomeMentions fs d → IsInside shape d → r d ≡ s d) → arguments shape r b fs ≡ arguments shape s b fs
    arguments_on r s b Nothing h = refl
    arguments_on r s b (Then f fs) h =
        ap (λ (x : Argument). x ∷ arguments shape r b fs) (argument_on r s b f (formula_value shape r f) (formula_value shape s f) (formula_on r s f (λ d m. h d (inl m))) (λ d m. h d (inl m)))
        ∙ ap (λ (xs : List Argument). argument_of b shape s f (formula_value shape s f) ∷ xs) (arguments_on r s b fs (λ d m. h d (inr m)))

  pub value_on : (r s : Cell → Value) (p : PlainContent) → ((d : Cell) → Refers p d → IsInside shape d → r d ≡ s d) → content_value shape r p ≡ content_value shape s p
  value_on r s Empty h = refl
  value_on r s (Constant z) h = refl
  value_on r s (Computed f) h = formula_on r s f h

  -- ---- heights again: they rest on the same cells

  bounded_on : (r s : Cell → ℕ) (c : Cell) (b : Bool) → is_inside shape c ≡ b → (IsInside shape c → r c ≡ s c) → (if b then suc (r c) else 0) ≡ (if b then suc (s c) else 0)
  bounded_on r s c true e h = ap suc (h (inside_from shape c e))
  bounded_on r s c false e h = refl

  mutual
    formula_height_on : (r s : Cell → ℕ) (f : Formula) → ((d : Cell) → Mentions f d → IsInside shape d → r d ≡ s d) → formula_height shape r f ≡ formula_height shape s f
    formula_height_on r s (Literal z) h = refl
    formula_height_on r s (At c) h = bounded_on r s c (is_inside shape c) refl (h c refl)
    formula_height_on r s (Area a) h = ap above (range_on r s a (width shape a * height shape a) (omega arith) h)
    formula_height_on r s (Signed t f) h = formula_height_on r s f h
    formula_height_on r s (Joined o f g) h =
        ap (λ (x : ℕ). max x (formula_height shape r g)) (formula_height_on r s f (λ d m. h d (inl m)))
        ∙ ap (λ (x : ℕ). max (formula_height shape s f) x) (formula_height_on r s g (λ d m. h d (inr m)))
    formula_height_on r s (Called g fs) h = formulas_height_on r s fs h

    formulas_height_on : (r s : Cell → ℕ) (fs : Formulas) → ((d : Cell) → SomeMentions fs d → IsInside shape d → r d ≡ s d) → formulas_height shape r fs ≡ formulas_height shape s fs
    formulas_height_on r s Nothing h = refl
    formulas_height_on r s (Then f fs) h =
        ap (λ (x : ℕ). max x (formulas_height shape r fs)) (formula_height_on r s f (λ d m. h d (inl m)))
        ∙ ap (λ (x : ℕ). max (formula_height shape s f) x) (formulas_height_on r s fs (λ d m. h d (inr m)))

  height_on : (r s : Cell → ℕ) (p : PlainContent) → ((d : Cell) → Refers p d → IsInside shape d → r d ≡ s d) → content_height shape r p ≡ content_height shape s p
  height_on r s Empty h = refl
  height_on r s (Constant z) h = refl
  height_on r s (Computed f) h = formula_height_on r s f h

  entry_on : (p : PlainContent) (v w : Value) (b : Bool) (n : ℕ) → v ≡ w → (let e : Entry = record { value = if b then Circular else v; height = n } in e) ≡ record { value = if b then Circular else w; height = n }
  entry_on p v w b n e = ap (λ (x : Value). let y : Entry = record { value = if b then Circular else x; height = n } in y) e

  -- the entry of a cell rests on the entries of the cells of the sheet that are written in it
  pub local_on : (p : PlainContent) (es fs : Cell → Entry) → ((d : Cell) → Refers p d → IsInside shape d → es d ≡ fs d) → local shape p es ≡ local shape p fs
  local_on p es fs h =
      let n = min (count_of shape) (content_height shape (height_of es) p) in
      entry_on p (content_value shape (value_of es) p) (content_value shape (value_of fs) p) (n == count_of shape) n
      (value_on (value_of es) (value_of fs) p (λ d r i. ap (λ (e : Entry). e.value) (h d r i)))
      ∙ ap (λ (k : ℕ). entry_at shape p fs (min (count_of shape) k)) (height_on (height_of es) (height_of fs) p (λ d r i. ap (λ (e : Entry). e.height) (h d r i)))
