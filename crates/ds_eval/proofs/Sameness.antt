-- Equal lists have equal elements.
use Rattle.std.proofs.Common.{◌≡◌, ℕ, zero, suc, ◌<◌, List, [], ◌∷◌, map, length, get_or, refl, sym, ap, ◌∙◌, arith}
use Rattle.ds_formula.specs.declared.content.Function.{Function}
use Rattle.ds_formula.specs.declared.content.Tree.{Tree}
use Rattle.ds_formula.specs.declared.content.Tree.TheVariants as trees
use Rattle.ds_formula.specs.Plain.{Formula, Called, formula, listed}
use Rattle.std.specs.Global.{Vec}
use Rattle.ds_eval.proofs.Views.{formula_call}

listed_same : (xs ys : List Formula) → listed xs ≡ listed ys → xs ≡ ys
listed_same [] [] e = refl
listed_same [] (y ∷ ys) e = absurd cc
listed_same (x ∷ xs) [] e = absurd cc
listed_same (x ∷ xs) (y ∷ ys) e =
    let p : x ≡ y = cc in
    let q : listed xs ≡ listed ys = cc in
    ap (λ (z : Formula). z ∷ xs) p ∙ ap (λ (zs : List Formula). y ∷ zs) (listed_same xs ys q)

called_same : (f g : Function) (xs ys : List Formula) → Called f (listed xs) ≡ Called g (listed ys) → xs ≡ ys
called_same f g xs ys e = let q : listed xs ≡ listed ys = cc in listed_same xs ys q

-- calls with equal plain views have arguments with equal plain views
pub arguments_same : (t u : Tree) (f g : Function) (v w : Vec Tree) → t ≡ trees.Call f v → u ≡ trees.Call g w → formula t ≡ formula u → map formula v.items ≡ map formula w.items
arguments_same t u f g v w p q e =
    called_same f g (map formula v.items) (map formula w.items) (sym (ap formula p ∙ formula_call f v) ∙ e ∙ ap formula q ∙ formula_call g w)

-- trees at the same place of lists with equal plain views have equal plain views
pub element_same : (xs ys : List Tree) (i : ℕ) (x y : Tree) → i < length xs → i < length ys → x ≡ get_or xs i x → y ≡ get_or ys i y → map formula xs ≡ map formula ys → formula x ≡ formula y
element_same [] ys i x y l m p q e = absurd (omega arith)
element_same (a ∷ xs) [] i x y l m p q e = absurd (omega arith)
element_same (a ∷ xs) (b ∷ ys) zero x y l m p q e = let r : formula a ≡ formula b = cc in ap formula p ∙ r ∙ ap formula (sym q)
element_same (a ∷ xs) (b ∷ ys) (suc i) x y l m p q e = let r : map formula xs ≡ map formula ys = cc in element_same xs ys i x y (omega arith) (omega arith) p q r
