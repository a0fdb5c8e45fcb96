-- The values of a sheet rest on what its own cells hold.
use Rattle.std.proofs.Common.{◌≡◌, ℕ, zero, suc, List, sym, ap, subst, ◌∙◌}
use Rattle.ds_formula.specs.declared.cells.Shape.{Shape}
use Rattle.ds_formula.specs.declared.cells.Cell.{Cell}
use Rattle.ds_formula.specs.Cells.{IsInside, count_of}
use Rattle.ds_formula.specs.Plain.{PlainContent}
use Rattle.ds_formula.specs.Refs.{Refers}
use Rattle.ds_eval.specs.declared.value.Value.{Value}
use Rattle.ds_eval.specs.Evaluation.{content_value}
use Rattle.ds_eval.specs.Scratch.{Walk, value, first_value, IsScratch}
use Rattle.ds_eval.proofs.Neighbours.{value_on}

module _ (shape : Shape) where
  walk_on : (old new : Cell → PlainContent) → ((c : Cell) → IsInside shape c → old c ≡ new c) → (n : ℕ) (c : Cell) → IsInside shape c → Walk shape old n c → Walk shape new n c
  walk_on old new h zero c i w = tt
  walk_on old new h (suc n) c i w = (w.0, subst (λ (p : PlainContent). Refers p w.0) (h c i) w.1, w.2, walk_on old new h n w.0 w.2 w.3)

  sheet_value_on : (old new : Cell → PlainContent) → ((c : Cell) → IsInside shape c → old c ≡ new c) → (n : ℕ) (c : Cell) → IsInside shape c → value shape old n c ≡ value shape new n c
  sheet_value_on old new h zero c i = ap first_value (h c i)
  sheet_value_on old new h (suc n) c i =
      ap (content_value shape (value shape old n)) (h c i)
      ∙ value_on shape (value shape old n) (value shape new n) (new c) (λ d r j. sheet_value_on old new h n d j)

  pub scratch_on : (old new : Cell → PlainContent) (shown : List Value) → ((c : Cell) → IsInside shape c → old c ≡ new c) → IsScratch shape old shown → IsScratch shape new shown
  scratch_on old new shown h s = record {
    each = s.each;
    circular = λ c i w. s.circular c i (walk_on new old (λ d j. sym (h d j)) (count_of shape) c i w);
    computed = λ c i n. s.computed c i (λ w. n (walk_on old new h (count_of shape) c i w)) ∙ sheet_value_on old new h (count_of shape) c i;
  }
