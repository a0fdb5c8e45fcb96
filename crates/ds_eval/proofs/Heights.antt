-- Heights, one cell or one argument at a time.
use Rattle.std.proofs.Common.{◌≡◌, ℕ, zero, suc, ◌+◌, ◌≤◌, ◌<◌, min, max, List, [], ◌∷◌, ◌++◌, map, length, get_or, take, refl, sym, ap, ◌∙◌, arith}
use Rattle.std.specs.Global.{Vec}
use Rattle.std.proofs.lemmas.List.{map-append, take_more, take_all}
use Rattle.ds_formula.specs.declared.cells.Shape.{Shape}
use Rattle.ds_formula.specs.declared.cells.Cell.{Cell}
use Rattle.ds_formula.specs.declared.cells.Rect.{Rect}
use Rattle.ds_formula.specs.declared.content.Function.{Function}
use Rattle.ds_formula.specs.declared.content.Tree.{Tree}
use Rattle.ds_formula.specs.declared.content.Tree.TheVariants as trees
use Rattle.ds_formula.specs.Plain.{Formula, formula, listed}
use Rattle.ds_eval.specs.Evaluation.{first_cells, cell_of}
use Rattle.ds_eval.specs.Local.{above, formula_height, formulas_height}
use Rattle.ds_eval.specs.Operands.{operand_height}
use Rattle.ds_eval.proofs.Views.{formula_call}

-- one height more: the greater of what was above the others and one more than it
pub above_push : (hs : List ℕ) (h : ℕ) → above (hs ++ h ∷ []) ≡ max (above hs) (suc h)
above_push [] h = omega arith
above_push (x ∷ hs) h = let k = above_push hs h in omega (arith, k)

pub above_more : (most g next m : ℕ) (heights : Cell → ℕ) (area : Rect) (columns k : ℕ) → g ≡ min most (above (map heights (first_cells area columns k)))
    → next ≡ min most (suc (heights (cell_of area columns k))) → m ≡ max g next → m ≡ min most (above (map heights (first_cells area columns (k + 1))))
above_more most g next m heights area columns k e f h =
    let hs = map heights (first_cells area columns k) in
    let n = heights (cell_of area columns k) in
    let a : above (map heights (first_cells area columns (k + 1))) ≡ max (above hs) (suc n) =
    ap (λ (i : ℕ). above (map heights (first_cells area columns i))) (let x : k + 1 ≡ suc k = omega arith in x)
    ∙ ap above (map-append heights (first_cells area columns k) (cell_of area columns k ∷ []))
    ∙ above_push hs n in
    omega (arith, a, e, f, h)

module _ (shape : Shape) (heights : Cell → ℕ) where
  formulas_push : (fs : List Formula) (f : Formula) → formulas_height shape heights (listed (fs ++ f ∷ [])) ≡ max (formulas_height shape heights (listed fs)) (formula_height shape heights f)
  formulas_push [] f = omega arith
  formulas_push (g ∷ fs) f = let k = formulas_push fs f in omega (arith, k)

  pub formulas_more : (most g next m : ℕ) (xs : List Tree) (i : ℕ) (x : Tree) → i < length xs → x ≡ get_or xs i x
      → g ≡ min most (formulas_height shape heights (listed (map formula (take i xs)))) → next ≡ min most (formula_height shape heights (formula x)) → m ≡ max g next
      → m ≡ min most (formulas_height shape heights (listed (map formula (take (i + 1) xs))))
  formulas_more most g next m xs i x h e p q r =
      let a : formulas_height shape heights (listed (map formula (take (i + 1) xs))) ≡ max (formulas_height shape heights (listed (map formula (take i xs)))) (formula_height shape heights (formula x)) =
      ap (λ (ts : List Tree). formulas_height shape heights (listed (map formula ts))) (take_more xs i x h ∙ ap (λ (y : Tree). take i xs ++ y ∷ []) (sym e))
      ∙ ap (λ (fs : List Formula). formulas_height shape heights (listed fs)) (map-append formula (take i xs) (x ∷ []))
      ∙ formulas_push (map formula (take i xs)) (formula x) in
      omega (arith, a, p, q, r)

  pub formulas_done : (most g : ℕ) (t : Tree) (function : Function) (v : Vec Tree) (i : ℕ) → t ≡ trees.Call function v → length v.items ≤ i
      → g ≡ min most (formulas_height shape heights (listed (map formula (take i v.items)))) → g ≡ min most (formula_height shape heights (formula t))
  formulas_done most g t function v i e h p =
      p ∙ ap (λ (ts : List Tree). min most (formulas_height shape heights (listed (map formula ts)))) (take_all i v.items h)
      ∙ ap (λ (f : Formula). min most (formula_height shape heights f)) (sym (ap formula e ∙ formula_call function v))

  -- ---- up to three arguments

  pub operand_height_at : (xs : List Tree) (k : ℕ) (x : Tree) → k < length xs → x ≡ get_or xs k x → formula_height shape heights (formula x) ≡ operand_height shape heights k (listed (map formula xs))
  operand_height_at [] k x h e = absurd (omega (arith, h))
  operand_height_at (y ∷ ys) zero x h e = ap (λ (t : Tree). formula_height shape heights (formula t)) e
  operand_height_at (y ∷ ys) (suc k) x h e = operand_height_at ys k x (omega (arith, h)) e

  pub operand_height_past : (xs : List Tree) (k : ℕ) → length xs ≤ k → operand_height shape heights k (listed (map formula xs)) ≡ 0
  operand_height_past [] k h = refl
  operand_height_past (y ∷ ys) zero h = absurd (omega (arith, h))
  operand_height_past (y ∷ ys) (suc k) h = operand_height_past ys k (omega (arith, h))

  pub three_heights : (xs : List Tree) → length xs ≤ 3
      → formulas_height shape heights (listed (map formula xs)) ≡ max (operand_height shape heights 0 (listed (map formula xs))) (max (operand_height shape heights 1 (listed (map formula xs))) (operand_height shape heights 2 (listed (map formula xs))))
  three_heights [] h = refl
  three_heights (x ∷ []) h = omega arith
  three_heights (x ∷ y ∷ []) h = omega arith
  three_heights (x ∷ y ∷ z ∷ []) h = omega arith
  three_heights (x ∷ y ∷ z ∷ w ∷ ws) h = absurd (omega (arith, h))
