-- The values of calls, by their arguments.
use Rattle.std.proofs.Common.{◌≡◌, ℕ, zero, suc, ◌+◌, ◌<◌, ◌≤◌, Bool, true, false, ◌&&◌, if◌then◌else◌, leb, List, [], ◌∷◌, ◌++◌, map, length, get_or, take, ℤ, pos, refl, sym, ap, subst, ◌∙◌, arith, append_assoc, append-nil}
use Rattle.std.proofs.lemmas.Bool.Decides.{nat_tests}
use Rattle.std.proofs.lemmas.List.{map-append, take_more}
use Rattle.ds_formula.specs.declared.cells.Shape.{Shape}
use Rattle.ds_formula.specs.declared.cells.Cell.{Cell}
use Rattle.ds_formula.specs.declared.cells.Rect.{Rect}
use Rattle.ds_formula.specs.declared.content.Tree.{Tree}
use Rattle.ds_formula.specs.declared.content.Function.{Function}
use Rattle.ds_formula.specs.declared.content.Function.TheVariants as functions
use Rattle.std.specs.Global.{Vec, Box}
use Rattle.ds_formula.specs.declared.content.Sign.{Sign}
use Rattle.ds_formula.specs.declared.content.Operator.{Operator}
use Rattle.ds_formula.specs.declared.content.Tree.TheVariants as trees
use Rattle.ds_formula.specs.Plain.{Formula, Literal, At, Area, Signed, Joined, Called, formula, listed, count}
use Rattle.ds_eval.proofs.Views.{formula_number, formula_reference, formula_range, formula_prefix, formula_binary, formula_call}
use Rattle.ds_eval.specs.declared.value.Value.{Value}
use Rattle.ds_eval.specs.declared.value.Value.TheVariants.{Num, Number}
use Rattle.ds_eval.specs.declared.tally.CellErrors.{CellErrors}
use Rattle.ds_eval.specs.declared.tally.Wants.{Wants}
use Rattle.ds_eval.specs.declared.tally.Tally.{Tally}
use Rattle.ds_formula.specs.Functions.{all_functions, knows, takes, takes_ranges}
use Rattle.ds_eval.specs.Evaluation.{Argument, argument_of, as_seen, values_of, all_values, own_value, operand, applied, is_computed, formula_value, arguments, first_cells, cell_of, cells_of, look}
use Rattle.ds_eval.specs.Tally.{IsTally}

count_listed : (fs : List Formula) → count (listed fs) ≡ length fs
count_listed [] = refl
count_listed (f ∷ fs) = rw (count_listed fs) (omega arith)

length_map : {A B : Type 0} (f : A → B) (xs : List A) → length (map f xs) ≡ length xs
length_map f [] = refl
length_map f (x ∷ xs) = ap suc (length_map f xs)

at_most : (n m : ℕ) → n ≤ m → leb n m ≡ true
at_most n m h = grind (arith, nat_tests)

above_most : (n m : ℕ) → m < n → leb n m ≡ false
above_most n m h = grind (arith, nat_tests)

count_of_arguments : (xs : List Tree) → count (listed (map formula xs)) ≡ length xs
count_of_arguments xs = count_listed (map formula xs) ∙ length_map formula xs

-- all functions are known
knows_all : (g : Function) → knows all_functions g ≡ true
unfolding knows
knows_all functions.Sum = refl
knows_all functions.Min = refl
knows_all functions.Max = refl
knows_all functions.Abs = refl
knows_all functions.Mod = refl
knows_all functions.Quotient = refl
knows_all functions.If = refl
knows_all functions.Count = refl
knows_all functions.And = refl
knows_all functions.Or = refl
knows_all functions.Not = refl

both : (a b c : Bool) → a ≡ true → b ≡ true → c ≡ true → (a && (b && c)) ≡ true
both a b c e f g = rw (e, f, g) refl

no_second : (a b c : Bool) → b ≡ false → (a && (b && c)) ≡ false
no_second true b c e = rw e refl
no_second false b c e = refl

no_third : (a b c : Bool) → c ≡ false → (a && (b && c)) ≡ false
no_third true true c e = e
no_third true false c e = refl
no_third false b c e = refl

module _ (shape : Shape) (read : Cell → Value) where
  abbrev own : Tree → Value
  own t = formula_value shape read (formula t)

  abbrev pub call : Function → List Tree → Value
  call g xs = formula_value shape read (Called g (listed (map formula xs)))

  abbrev pub given : Bool → List Tree → List Argument
  given ranges xs = arguments shape read ranges (listed (map formula xs))

  by_test : (g : Function) (xs : List Tree) (b : Bool) → is_computed all_functions g (count (listed (map formula xs))) ≡ b → call g xs ≡ (if b then applied g (given (takes_ranges g) xs) else Num)
  by_test g xs b e = ap (λ (t : Bool). if t then applied g (given (takes_ranges g) xs) else Num) e

  -- a call that is computed
  pub computed : (g : Function) (xs : List Tree) (b : Bool) → length xs ≤ 255 → takes g (length xs) ≡ true → takes_ranges g ≡ b → call g xs ≡ applied g (given b xs)
  computed g xs b l t r =
      by_test g xs true (both (knows all_functions g) _ _ (knows_all g) (ap (takes g) (count_of_arguments xs) ∙ t) (ap (λ (n : ℕ). leb n 255) (count_of_arguments xs) ∙ at_most (length xs) 255 l))
      ∙ ap (λ (c : Bool). applied g (given c xs)) r

  -- a call with more arguments than are computed, or with a number that the function does not take
  pub too_many : (g : Function) (xs : List Tree) → 255 < length xs → call g xs ≡ Num
  too_many g xs h = by_test g xs false (no_third (knows all_functions g) (takes g (count (listed (map formula xs)))) _ (ap (λ (n : ℕ). leb n 255) (count_of_arguments xs) ∙ above_most (length xs) 255 h))

  pub not_taken : (g : Function) (xs : List Tree) → takes g (length xs) ≡ false → call g xs ≡ Num
  not_taken g xs h = by_test g xs false (no_second (knows all_functions g) _ (leb (count (listed (map formula xs))) 255) (ap (takes g) (count_of_arguments xs) ∙ h))

  -- ---- the value of one argument

  own_alone : (f : Formula) (v : Value) → own_value (argument_of false shape read f v) ≡ v
  own_alone (Literal z) v = refl
  own_alone (At c) v = refl
  own_alone (Area a) v = refl
  own_alone (Signed s f) v = refl
  own_alone (Joined o f g) v = refl
  own_alone (Called g fs) v = refl

  pub operand_at : (xs : List Tree) (k : ℕ) (x : Tree) → k < length xs → x ≡ get_or xs k x → own x ≡ operand k (given false xs)
  operand_at [] k x h e = absurd (omega (arith, h))
  operand_at (y ∷ ys) zero x h e = ap own e ∙ sym (own_alone (formula y) (own y))
  operand_at (y ∷ ys) (suc k) x h e = operand_at ys k x (omega (arith, h)) e

  pub operand_past : (xs : List Tree) (k : ℕ) → length xs ≤ k → operand k (given false xs) ≡ Number (pos 0)
  operand_past [] k h = refl
  operand_past (y ∷ ys) zero h = absurd (omega (arith, h))
  operand_past (y ∷ ys) (suc k) h = operand_past ys k (omega (arith, h))

  -- ---- the values of all arguments

  module _ (errors : CellErrors) where
    abbrev stands_for : Formula → List Value
    stands_for f = values_of errors (argument_of true shape read f (formula_value shape read f))

    abbrev pub values : List Tree → List Value
    values xs = all_values errors (given true xs)

    all_push : (fs : List Formula) (f : Formula) → all_values errors (arguments shape read true (listed (fs ++ f ∷ []))) ≡ all_values errors (arguments shape read true (listed fs)) ++ stands_for f
    all_push [] f = append-nil (stands_for f)
    all_push (g ∷ fs) f =
        ap (λ (vs : List Value). stands_for g ++ vs) (all_push fs f)
        ∙ sym (append_assoc (stands_for g) (all_values errors (arguments shape read true (listed fs))) (stands_for f))

    pub all_more : (xs : List Tree) (i : ℕ) (x : Tree) → i < length xs → x ≡ get_or xs i x → values (take (i + 1) xs) ≡ values (take i xs) ++ stands_for (formula x)
    all_more xs i x h e =
        ap (λ (ts : List Tree). values ts) (take_more xs i x h ∙ ap (λ (y : Tree). take i xs ++ y ∷ []) (sym e))
        ∙ ap (λ (fs : List Formula). all_values errors (arguments shape read true (listed fs))) (map-append formula (take i xs) (x ∷ []))
        ∙ all_push (map formula (take i xs)) (formula x)

-- the cells of a range, one more
pub cells_more : (read : Cell → Value) (vs : List Value) (area : Rect) (columns k : ℕ)
    → (vs ++ map read (first_cells area columns k)) ++ read (cell_of area columns k) ∷ [] ≡ vs ++ map read (first_cells area columns (k + 1))
cells_more read vs area columns k =
    append_assoc vs (map read (first_cells area columns k)) (read (cell_of area columns k) ∷ [])
    ∙ ap (λ (ws : List Value). vs ++ ws) (sym (map-append read (first_cells area columns k) (cell_of area columns k ∷ [])))
    ∙ ap (λ (n : ℕ). vs ++ map read (first_cells area columns n)) (let e : suc k ≡ k + 1 = omega arith in e)

map_twice : (f : Cell → Value) (g : Value → Value) (cs : List Cell) → map (λ c. g (f c)) cs ≡ map g (map f cs)
map_twice f g [] = refl
map_twice f g (c ∷ cs) = ap (λ (vs : List Value). g (f c) ∷ vs) (map_twice f g cs)

module _ (shape : Shape) (read : Cell → Value) (errors : CellErrors) where
  -- the values of an argument, by what it is
  abbrev value_list : Formula → List Value
  value_list f = values_of errors (argument_of true shape read f (formula_value shape read f))

  abbrev stands : Tree → List Value
  stands x = value_list (formula x)

  stands_as : (x : Tree) (f : Formula) → formula x ≡ f → stands x ≡ value_list f
  stands_as x f e = ap (λ (g : Formula). value_list g) e

  pub stands_cell : (x : Tree) (c : Cell) → x ≡ trees.Reference c → as_seen errors (look shape read c) ∷ [] ≡ stands x
  stands_cell x c e = sym (stands_as x (At c) (ap formula e ∙ formula_reference c))

  pub stands_range : (x : Tree) (r : Rect) → x ≡ trees.Range r → map (λ c. as_seen errors (read c)) (cells_of shape r) ≡ stands x
  stands_range x r e = map_twice read (as_seen errors) (cells_of shape r) ∙ sym (stands_as x (Area r) (ap formula e ∙ formula_range r))

  stands_itself : (x : Tree) (f : Formula) → formula x ≡ f → value_list f ≡ formula_value shape read f ∷ [] → formula_value shape read (formula x) ∷ [] ≡ stands x
  stands_itself x f e h = ap (λ (g : Formula). formula_value shape read g ∷ []) e ∙ sym h ∙ sym (stands_as x f e)

  pub stands_number : (x : Tree) (n : ℤ) → x ≡ trees.Number n → formula_value shape read (formula x) ∷ [] ≡ stands x
  stands_number x n e = stands_itself x (Literal n) (ap formula e ∙ formula_number n) refl

  pub stands_prefix : (x : Tree) (s : Sign) (a : Box Tree) → x ≡ trees.Prefix s a → formula_value shape read (formula x) ∷ [] ≡ stands x
  stands_prefix x s a e = stands_itself x (Signed s (formula a.value)) (ap formula e ∙ formula_prefix s a) refl

  pub stands_binary : (x : Tree) (o : Operator) (a b : Box Tree) → x ≡ trees.Binary o a b → formula_value shape read (formula x) ∷ [] ≡ stands x
  stands_binary x o a b e = stands_itself x (Joined o (formula a.value) (formula b.value)) (ap formula e ∙ formula_binary o a b) refl

  pub stands_call : (x : Tree) (g : Function) (v : Vec Tree) → x ≡ trees.Call g v → formula_value shape read (formula x) ∷ [] ≡ stands x
  stands_call x g v e = stands_itself x (Called g (listed (map formula v.items))) (ap formula e ∙ formula_call g v) refl

  pub gathered : (w : Wants) (xs : List Tree) (i : ℕ) (x : Tree) (t u m : Tally) (ws : List Value) → i < length xs → x ≡ get_or xs i x → m ≡ u
      → ((vs : List Value) → IsTally w vs t → IsTally w (vs ++ ws) u) → ws ≡ stands x
      → IsTally w (values shape read errors (take i xs)) t → IsTally w (values shape read errors (take (i + 1) xs)) m
  gathered w xs i x t u m ws h e p f q b =
      rw (all_more shape read errors xs i x h e) (subst (λ (y : Tally). IsTally w (values shape read errors (take i xs) ++ stands x) y) (sym p)
      (subst (λ (zs : List Value). IsTally w (values shape read errors (take i xs) ++ zs) u) q (f _ b)))
