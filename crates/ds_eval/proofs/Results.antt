-- What all operators and functions keep; so a formula's value is never blank, and Err:522 comes from none of them.
use Rattle.std.proofs.Common.{◌≡◌, ◌≢◌, ℕ, zero, suc, ℤ, pos, negsuc, neg_ℤ, ◌*ℤ◌, ◌+ℤ◌, ◌-ℤ◌, int_div, Bool, true, false, cond, int_eq, int_lt, if◌then◌else◌, List, [], ◌∷◌, ◌++◌, map, fold, length, refl, sym, ap, subst, ◌∙◌}
use Rattle.std.specs.Int.{int_min, int_max}
use Rattle.ds_formula.specs.declared.cells.Shape.{Shape}
use Rattle.ds_formula.specs.declared.cells.Cell.{Cell}
use Rattle.ds_formula.specs.declared.content.Sign.{Sign}
use Rattle.ds_formula.specs.declared.content.Sign.TheVariants as signs
use Rattle.ds_formula.specs.declared.content.Operator.{Operator}
use Rattle.ds_formula.specs.declared.content.Operator.TheVariants as operators
use Rattle.ds_formula.specs.declared.content.Function.{Function}
use Rattle.ds_formula.specs.declared.content.Function.TheVariants as functions
use Rattle.ds_formula.specs.Plain.{Formula, Literal, At, Area, Signed, Joined, Called, Formulas, Nothing, Then, PlainContent, Empty, Constant, Computed, count}
use Rattle.ds_eval.specs.declared.value.Value.{Value}
use Rattle.ds_eval.specs.declared.value.Value.TheVariants.{Blank, Number, DivZero, Num, Circular}
use Rattle.ds_eval.specs.declared.tally.CellErrors.{CellErrors}
use Rattle.ds_eval.specs.declared.tally.CellErrors.TheVariants.{Heeded, Skipped}
use Rattle.ds_eval.specs.Numbers.{in_range, is_i64, truth, signed, joined, absolute, modulo, quotient, floor_rest, total, least, greatest, all_true, some_true, negated, with_number, with_all, numbers, first_error, error_or}
use Rattle.ds_formula.specs.Functions.{all_functions, takes_ranges}
use Rattle.ds_eval.specs.Evaluation.{is_inside, look, cells_of, Argument, Own, Cells, argument_of, as_seen, values_of, all_values, own_value, operand, chosen, applied, is_computed, formula_value, arguments, content_value}
use Rattle.ds_eval.specs.Scratch.{value, first_value}

abbrev mutual
  -- each number written in the formula is one of these
  pub Written : (ℤ → Type 0) → Formula → Type 0
  Written Small (Literal z) = Small z
  Written Small (At c) = Unit {0}
  Written Small (Area a) = Unit {0}
  Written Small (Signed s f) = Written Small f
  Written Small (Joined o f g) = Written Small f × Written Small g
  Written Small (Called g fs) = AllWritten Small fs

  pub AllWritten : (ℤ → Type 0) → Formulas → Type 0
  AllWritten Small Nothing = Unit {0}
  AllWritten Small (Then f fs) = Written Small f × AllWritten Small fs

-- what results keep: `Small` holds of their numbers, `Good` of what is read, `Fine` of what comes out
pub record Keeps (Small : ℤ → Type 0) (Good Fine : Value → Type 0) : Type 0 where
  pub number : (z : ℤ) → Small z → Fine (Number z)
  pub small : (z : ℤ) → Good (Number z) → Small z
  pub within : (z : ℤ) → is_i64 z ≡ true → Small z
  pub rest : (a b : ℤ) → Small b → b ≢ pos 0 → Small (floor_rest a b)
  pub num : Fine Num
  pub div : Fine DivZero
  pub round : Good Circular → Fine Circular
  pub blank : Good Blank
  pub again : (v : Value) → Fine v → Good v

int_eq_zero : (b : ℤ) → int_eq b (pos 0) ≡ false → b ≢ pos 0
int_eq_zero b e is = let x : true ≡ false = sym (ap (λ (z : ℤ). int_eq z (pos 0)) is) ∙ e in cc

AllOf : {A : Type 0} (P : A → Type 0) → List A → Type 0
AllOf P [] = Unit {0}
AllOf P (x ∷ xs) = P x × AllOf P xs

module _ (Small : ℤ → Type 0) (Good Fine : Value → Type 0) (k : Keeps Small Good Fine) where
  range : (z : ℤ) → Fine (in_range z)
  range z = go (is_i64 z) refl
    where
      go : (b : Bool) → is_i64 z ≡ b → Fine (if b then Number z else Num)
      go true e = k.number z (k.within z e)
      go false e = k.num

  fine_truth : (b : Bool) → Fine (truth b)
  fine_truth true = k.number (pos 1) (k.within (pos 1) refl)
  fine_truth false = k.number (pos 0) (k.within (pos 0) refl)

  -- ---- operators

  fine_signed : (s : Sign) (z : ℤ) → Small z → Fine (signed s z)
  fine_signed signs.Plus z h = k.number z h
  fine_signed signs.Minus z h = range (neg_ℤ z)

  fine_joined : (o : Operator) (a b : ℤ) → Fine (joined o a b)
  fine_joined operators.Multiply a b = range (a *ℤ b)
  fine_joined operators.Add a b = range (a +ℤ b)
  fine_joined operators.Subtract a b = range (a -ℤ b)
  fine_joined operators.Equal a b = fine_truth _
  fine_joined operators.NotEqual a b = fine_truth _
  fine_joined operators.Less a b = fine_truth _
  fine_joined operators.Greater a b = fine_truth _
  fine_joined operators.LessOrEqual a b = fine_truth _
  fine_joined operators.GreaterOrEqual a b = fine_truth _

  -- ---- functions of numbers

  fine_absolute : (a : ℤ) → Fine (absolute a)
  fine_absolute (pos n) = range (pos n)
  fine_absolute (negsuc n) = range (pos (suc n))

  fine_modulo : (a b : ℤ) → Small b → Fine (modulo a b)
  fine_modulo a b h = go (int_eq b (pos 0)) refl
    where
      go : (t : Bool) → int_eq b (pos 0) ≡ t → Fine (if t then DivZero else Number (floor_rest a b))
      go true e = k.div
      go false e = k.number (floor_rest a b) (k.rest a b h (int_eq_zero b e))

  fine_quotient : (a b : ℤ) → Fine (quotient a b)
  fine_quotient a b = go (int_eq b (pos 0))
    where
      go : (t : Bool) → Fine (if t then DivZero else in_range (int_div a b))
      go true = k.div
      go false = range (int_div a b)

  fine_number : (v : Value) (f : ℤ → Value) → Good v → ((z : ℤ) → Small z → Fine (f z)) → Fine (with_number v f)
  fine_number Blank f g h = h (pos 0) (k.within (pos 0) refl)
  fine_number (Number z) f g h = h z (k.small z g)
  fine_number DivZero f g h = k.div
  fine_number Num f g h = k.num
  fine_number Circular f g h = k.round g

  fine_chosen : (c t f : Value) → Fine c → Fine t → Fine f → Fine (chosen c t f)
  fine_chosen c t f p q r = fine_number c (λ z. if int_eq z (pos 0) then f else t) (k.again c p) (λ z _. go (int_eq z (pos 0)))
    where
      go : (b : Bool) → Fine (if b then f else t)
      go true = r
      go false = q

  -- ---- functions of many values

  small_numbers : (vs : List Value) → AllOf Good vs → AllOf Small (numbers vs)
  unfolding AllOf
  small_numbers [] h = tt
  small_numbers (Blank ∷ vs) h = small_numbers vs h.1
  small_numbers (Number z ∷ vs) h = (k.small z h.0, small_numbers vs h.1)
  small_numbers (DivZero ∷ vs) h = small_numbers vs h.1
  small_numbers (Num ∷ vs) h = small_numbers vs h.1
  small_numbers (Circular ∷ vs) h = small_numbers vs h.1

  one_of : (b : Bool) (x y : ℤ) → Small x → Small y → Small (cond b x y)
  one_of true x y p q = p
  one_of false x y p q = q

  small_min : (zs : List ℤ) (z : ℤ) → Small z → AllOf Small zs → Small (fold int_min z zs)
  unfolding AllOf
  small_min [] z h a = h
  small_min (y ∷ zs) z h a = small_min zs (int_min z y) (one_of (int_lt y z) y z a.0 h) a.1

  small_max : (zs : List ℤ) (z : ℤ) → Small z → AllOf Small zs → Small (fold int_max z zs)
  unfolding AllOf
  small_max [] z h a = h
  small_max (y ∷ zs) z h a = small_max zs (int_max z y) (one_of (int_lt y z) z y h a.0) a.1

  fine_least : (zs : List ℤ) → AllOf Small zs → Fine (Number (least zs))
  unfolding AllOf
  fine_least [] h = k.number (pos 0) (k.within (pos 0) refl)
  fine_least (z ∷ zs) h = k.number _ (small_min zs z h.0 h.1)

  fine_greatest : (zs : List ℤ) → AllOf Small zs → Fine (Number (greatest zs))
  unfolding AllOf
  fine_greatest [] h = k.number (pos 0) (k.within (pos 0) refl)
  fine_greatest (z ∷ zs) h = k.number _ (small_max zs z h.0 h.1)

  fine_all : (vs : List Value) (f : List ℤ → Value) → AllOf Good vs → ((ns : List ℤ) → AllOf Small ns → Fine (f ns)) → Fine (with_all vs f)
  unfolding AllOf
  fine_all vs f g h = go vs (f (numbers vs)) g (h (numbers vs) (small_numbers vs g))
    where
      go : (ws : List Value) (x : Value) → AllOf Good ws → Fine x → Fine (error_or (first_error ws) x)
      go [] x g h = h
      go (Blank ∷ ws) x g h = go ws x g.1 h
      go (Number z ∷ ws) x g h = go ws x g.1 h
      go (DivZero ∷ ws) x g h = k.div
      go (Num ∷ ws) x g h = k.num
      go (Circular ∷ ws) x g h = k.round g.0

  -- ---- arguments

  Sound : Argument → Type 0
  Sound (Own v) = Fine v
  Sound (Cells vs) = AllOf Good vs

  good_seen : (errors : CellErrors) (v : Value) → Good v → Good (as_seen errors v)
  good_seen errors Blank g = g
  good_seen errors (Number z) g = g
  good_seen Heeded DivZero g = g
  good_seen Skipped DivZero g = k.blank
  good_seen Heeded Num g = g
  good_seen Skipped Num g = k.blank
  good_seen errors Circular g = g

  all_seen : (errors : CellErrors) (vs : List Value) → AllOf Good vs → AllOf Good (map (as_seen errors) vs)
  unfolding AllOf
  all_seen errors [] g = tt
  all_seen errors (v ∷ vs) g = (good_seen errors v g.0, all_seen errors vs g.1)

  all_append : (xs ys : List Value) → AllOf Good xs → AllOf Good ys → AllOf Good (xs ++ ys)
  unfolding AllOf
  all_append [] ys p q = q
  all_append (x ∷ xs) ys p q = (p.0, all_append xs ys p.1 q)

  good_values : (errors : CellErrors) (a : Argument) → Sound a → AllOf Good (values_of errors a)
  unfolding AllOf Sound
  good_values errors (Own v) s = (k.again v s, tt)
  good_values errors (Cells vs) s = all_seen errors vs s

  all_good : (errors : CellErrors) (all : List Argument) → AllOf Sound all → AllOf Good (all_values errors all)
  unfolding AllOf
  all_good errors [] s = tt
  all_good errors (a ∷ rest) s = all_append (values_of errors a) (all_values errors rest) (good_values errors a s.0) (all_good errors rest s.1)

  fine_own : (a : Argument) → Sound a → Fine (own_value a)
  unfolding Sound
  fine_own (Own v) s = s
  fine_own (Cells vs) s = k.num

  fine_operand : (n : ℕ) (all : List Argument) → AllOf Sound all → Fine (operand n all)
  unfolding AllOf
  fine_operand n [] s = k.number (pos 0) (k.within (pos 0) refl)
  fine_operand zero (a ∷ rest) s = fine_own a s.0
  fine_operand (suc n) (a ∷ rest) s = fine_operand n rest s.1

  good_operand : (n : ℕ) (all : List Argument) → AllOf Sound all → Good (operand n all)
  good_operand n all s = k.again (operand n all) (fine_operand n all s)

  -- ---- what all functions keep

  fine_applied : (g : Function) (all : List Argument) → AllOf Sound all → Fine (applied g all)
  fine_applied functions.Sum all s = fine_all (all_values Heeded all) (λ ns. in_range (total ns)) (all_good Heeded all s) (λ ns _. range (total ns))
  fine_applied functions.Min all s = fine_all (all_values Heeded all) (λ ns. Number (least ns)) (all_good Heeded all s) fine_least
  fine_applied functions.Max all s = fine_all (all_values Heeded all) (λ ns. Number (greatest ns)) (all_good Heeded all s) fine_greatest
  fine_applied functions.Abs all s = fine_number (operand 0 all) absolute (good_operand 0 all s) (λ z _. fine_absolute z)
  fine_applied functions.Mod all s =
      fine_number (operand 0 all) (λ x. with_number (operand 1 all) (modulo x)) (good_operand 0 all s) (λ x _. fine_number (operand 1 all) (modulo x) (good_operand 1 all s) (fine_modulo x))
  fine_applied functions.Quotient all s =
      fine_number (operand 0 all) (λ x. with_number (operand 1 all) (quotient x)) (good_operand 0 all s) (λ x _. fine_number (operand 1 all) (quotient x) (good_operand 1 all s) (λ y _. fine_quotient x y))
  fine_applied functions.If all s = fine_chosen (operand 0 all) (operand 1 all) (operand 2 all) (fine_operand 0 all s) (fine_operand 1 all s) (fine_operand 2 all s)
  fine_applied functions.Count all s = fine_all (all_values Skipped all) (λ ns. in_range (pos (length ns))) (all_good Skipped all s) (λ ns _. range (pos (length ns)))
  fine_applied functions.And all s = fine_all (all_values Heeded all) (λ ns. truth (all_true ns)) (all_good Heeded all s) (λ ns _. fine_truth (all_true ns))
  fine_applied functions.Or all s = fine_all (all_values Heeded all) (λ ns. truth (some_true ns)) (all_good Heeded all s) (λ ns _. fine_truth (some_true ns))
  fine_applied functions.Not all s = fine_number (operand 0 all) negated (good_operand 0 all s) (λ z _. fine_truth (int_eq z (pos 0)))

  if_fine : (b : Bool) (v : Value) → Fine v → Fine (if b then v else Num)
  if_fine true v p = p
  if_fine false v p = k.num

  module _ (shape : Shape) (read : Cell → Value) (reads : (c : Cell) → Good (read c)) where
    good_look : (c : Cell) → Good (look shape read c)
    good_look c = go (is_inside shape c)
      where
        go : (b : Bool) → Good (if b then read c else Blank)
        go true = reads c
        go false = k.blank

    good_map : (cs : List Cell) → AllOf Good (map read cs)
    unfolding AllOf
    good_map [] = tt
    good_map (c ∷ cs) = (reads c, good_map cs)

    sound_argument : (b : Bool) (f : Formula) (v : Value) → Fine v → Sound (argument_of b shape read f v)
    unfolding AllOf Sound
    sound_argument b (Literal z) v p = p
    sound_argument true (At c) v p = (good_look c, tt)
    sound_argument false (At c) v p = p
    sound_argument true (Area a) v p = good_map (cells_of shape a)
    sound_argument false (Area a) v p = p
    sound_argument b (Signed s f) v p = p
    sound_argument b (Joined o f g) v p = p
    sound_argument b (Called g fs) v p = p

    mutual
      unfolding AllOf

      pub fine_formula : (f : Formula) → Written Small f → Fine (formula_value shape read f)
      fine_formula (Literal z) h = k.number z h
      fine_formula (At c) h = fine_number (look shape read c) Number (good_look c) k.number
      fine_formula (Area a) h = k.num
      fine_formula (Signed s f) h = fine_number (formula_value shape read f) (signed s) (k.again _ (fine_formula f h)) (fine_signed s)
      fine_formula (Joined o f g) h =
          fine_number (formula_value shape read f) (λ x. with_number (formula_value shape read g) (joined o x)) (k.again _ (fine_formula f h.0))
          (λ x _. fine_number (formula_value shape read g) (joined o x) (k.again _ (fine_formula g h.1)) (λ y _. fine_joined o x y))
      fine_formula (Called g fs) h = if_fine (is_computed all_functions g (count fs)) (applied g (arguments shape read (takes_ranges g) fs)) (fine_applied g (arguments shape read (takes_ranges g) fs) (sound_arguments (takes_ranges g) fs h))

      sound_arguments : (b : Bool) (fs : Formulas) → AllWritten Small fs → AllOf Sound (arguments shape read b fs)
      sound_arguments b Nothing h = tt
      sound_arguments b (Then f fs) h = (sound_argument b f (formula_value shape read f) (fine_formula f h.0), sound_arguments b fs h.1)

mutual
  any_written : (f : Formula) → Written (λ z. Unit {0}) f
  any_written (Literal z) = tt
  any_written (At c) = tt
  any_written (Area a) = tt
  any_written (Signed s f) = any_written f
  any_written (Joined o f g) = (any_written f, any_written g)
  any_written (Called g fs) = all_written fs

  all_written : (fs : Formulas) → AllWritten (λ z. Unit {0}) fs
  all_written Nothing = tt
  all_written (Then f fs) = (any_written f, all_written fs)

abbrev IsFilled : Value → Type 0
IsFilled Blank = ⊥
IsFilled other = Unit {0}

abbrev IsAtRest : Value → Type 0
IsAtRest Circular = ⊥
IsAtRest other = Unit {0}

-- the value of a formula is never blank
pub never_blank : (shape : Shape) (read : Cell → Value) (f : Formula) → formula_value shape read f ≡ Blank → ⊥
never_blank shape read f e =
    let k : Keeps (λ z. Unit {0}) (λ v. Unit {0}) IsFilled = record { number = λ z h. tt; small = λ z h. tt; within = λ z h. tt; rest = λ a b h n. tt; num = tt; div = tt; round = λ g. tt; blank = tt; again = λ v p. tt } in
    let p = fine_formula (λ z. Unit {0}) (λ v. Unit {0}) IsFilled k shape read (λ c. tt) f (any_written f) in
    subst IsFilled e p

rests : Keeps (λ z. Unit {0}) IsAtRest IsAtRest
rests = record { number = λ z h. tt; small = λ z h. tt; within = λ z h. tt; rest = λ a b h n. tt; num = tt; div = tt; round = λ g. g; blank = tt; again = λ v p. p }

at_rest : (shape : Shape) (sheet : Cell → PlainContent) (n : ℕ) (c : Cell) → IsAtRest (value shape sheet n c)
at_rest shape sheet zero c = go (sheet c)
  where
    go : (p : PlainContent) → IsAtRest (first_value p)
    go Empty = tt
    go (Constant z) = tt
    go (Computed f) = tt
at_rest shape sheet (suc n) c = go (at_rest shape sheet n) (sheet c)
  where
    go : ((d : Cell) → IsAtRest (value shape sheet n d)) → (p : PlainContent) → IsAtRest (content_value shape (value shape sheet n) p)
    go h Empty = tt
    go h (Constant z) = tt
    go h (Computed f) = fine_formula (λ z. Unit {0}) IsAtRest IsAtRest rests shape (value shape sheet n) h f (any_written f)

-- the value of a cell, by following references any number of times, is never Err:522
pub never_circular : (shape : Shape) (sheet : Cell → PlainContent) (n : ℕ) (c : Cell) → value shape sheet n c ≡ Circular → ⊥
never_circular shape sheet n c e = subst IsAtRest e (at_rest shape sheet n c)
