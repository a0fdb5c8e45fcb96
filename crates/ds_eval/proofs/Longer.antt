-- With further functions a content that does not call them has the same value.
use Rattle.std.proofs.Common.{◌≡◌, Bool, true, ◌&&◌, nat_le, if◌then◌else◌, List, ◌∷◌, ◌++◌, Option, Some, None, refl, sym, ap, ◌∙◌}
use Rattle.std.specs.Option.{is_some}
use Rattle.ds_formula.specs.declared.cells.Shape.{Shape}
use Rattle.ds_formula.specs.declared.cells.Cell.{Cell}
use Rattle.ds_formula.specs.declared.content.Function.{Function}
use Rattle.ds_formula.specs.Plain.{Formula, Literal, At, Area, Signed, Joined, Called, Formulas, Nothing, Then, PlainContent, Empty, Constant, Computed, count}
use Rattle.ds_formula.specs.Functions.{name_of, function_named, knows, takes, takes_ranges}
use Rattle.ds_formula.specs.Uses.{CallsOnly, AllCallOnly, ContentCallsOnly}
use Rattle.ds_formula.proofs.Longer.{named_longer}
use Rattle.ds_eval.specs.declared.value.Value.{Value}
use Rattle.ds_eval.specs.declared.value.Value.TheVariants.{Num}
use Rattle.ds_eval.specs.Numbers.{with_number, with_numbers, signed, joined}
use Rattle.ds_eval.specs.Evaluation.{Argument, argument_of, applied, is_computed, most_arguments, formula_value_with, arguments_with, content_value_with}

knows_longer : (old new : List Function) (g : Function) → knows old g ≡ true → knows (old ++ new) g ≡ true
unfolding knows
knows_longer old new g e = go (function_named old (name_of g)) refl e
  where
    go : (x : Option Function) → function_named old (name_of g) ≡ x → is_some x ≡ true → is_some (function_named (old ++ new) (name_of g)) ≡ true
    go (Some f) h k = ap is_some (named_longer old new (name_of g) f h)
    go None h k = absurd cc

module _ (old new : List Function) (shape : Shape) (read : Cell → Value) where
  abbrev before : Formula → Value
  before = formula_value_with old shape read

  abbrev now : Formula → Value
  now = formula_value_with (old ++ new) shape read

  mutual
    value_longer : (f : Formula) → CallsOnly old f → before f ≡ now f
    value_longer (Literal z) u = refl
    value_longer (At c) u = refl
    value_longer (Area a) u = refl
    value_longer (Signed s f) u = ap (λ (x : Value). with_number x (signed s)) (value_longer f u)
    value_longer (Joined o f g) u = ap (λ (x : Value). with_numbers x (before g) (joined o)) (value_longer f u.0) ∙ ap (λ (x : Value). with_numbers (now f) x (joined o)) (value_longer g u.1)
    value_longer (Called g fs) u =
        ap (λ (t : Bool). if t && (takes g (count fs) && nat_le (count fs) most_arguments) then applied g (arguments_with old shape read (takes_ranges g) fs) else Num) (u.0 ∙ sym (knows_longer old new g u.0))
        ∙ ap (λ (xs : List Argument). if is_computed (old ++ new) g (count fs) then applied g xs else Num) (arguments_longer (takes_ranges g) fs u.1)

    arguments_longer : (b : Bool) (fs : Formulas) → AllCallOnly old fs → arguments_with old shape read b fs ≡ arguments_with (old ++ new) shape read b fs
    arguments_longer b Nothing u = refl
    arguments_longer b (Then f fs) u =
        ap (λ (v : Value). argument_of b shape read f v ∷ arguments_with old shape read b fs) (value_longer f u.0)
        ∙ ap (λ (xs : List Argument). argument_of b shape read f (now f) ∷ xs) (arguments_longer b fs u.1)

  pub content_longer : (p : PlainContent) → ContentCallsOnly old p → content_value_with old shape read p ≡ content_value_with (old ++ new) shape read p
  content_longer Empty u = refl
  content_longer (Constant z) u = refl
  content_longer (Computed f) u = value_longer f u
