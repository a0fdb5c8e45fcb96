-- The sizes of one argument more.
use Rattle.std.proofs.Common.{◌≡◌, ℕ, ◌+◌, ◌<◌, ◌≤◌, max, List, [], ◌∷◌, ◌++◌, map, take, length, get_or, sym, ap, ◌∙◌, arith}
use Rattle.std.proofs.lemmas.List.{take_more, take_all, map-append}
use Rattle.std.specs.Global.{Vec}
use Rattle.ds_formula.specs.declared.content.Function.{Function}
use Rattle.ds_formula.specs.declared.content.Tree.{Tree}
use Rattle.ds_formula.specs.declared.content.Tree.TheVariants.{Call}
use Rattle.ds_formula.specs.Plain.{Formula, listed, formula}
use Rattle.ds_formula.specs.Sizes.{nodes, nodes_of, depth, depth_of}
use Rattle.ds_formula.proofs.Views.{formula_call}

nodes_more : (fs : List Formula) (f : Formula) → nodes_of (listed (fs ++ f ∷ [])) ≡ nodes_of (listed fs) + nodes f
nodes_more [] f = omega arith
nodes_more (g ∷ fs) f = let e = nodes_more fs f in omega (arith, e)

depth_more : (fs : List Formula) (f : Formula) → depth_of (listed (fs ++ f ∷ [])) ≡ max (depth_of (listed fs)) (depth f)
depth_more [] f = omega arith
depth_more (g ∷ fs) f = let e = depth_more fs f in omega (arith, e)

-- the plain views of one more of the arguments
pub one_more : (ts : List Tree) (i : ℕ) (t : Tree) → i < length ts → t ≡ get_or ts i t → map formula (take (i + 1) ts) ≡ map formula (take i ts) ++ formula t ∷ []
one_more ts i t h e = ap (map formula) (take_more ts i t h ∙ ap (λ (x : Tree). take i ts ++ x ∷ []) (sym e)) ∙ map-append formula (take i ts) (t ∷ [])

-- with one argument more, its nodes are added to those so far
pub nodes_step : (ts : List Tree) (i : ℕ) (t : Tree) → i < length ts → t ≡ get_or ts i t → nodes_of (listed (map formula (take (i + 1) ts))) ≡ nodes_of (listed (map formula (take i ts))) + nodes (formula t)
nodes_step ts i t h e = ap (λ (x : List Formula). nodes_of (listed x)) (one_more ts i t h e) ∙ nodes_more (map formula (take i ts)) (formula t)

-- with one argument more, the depth is the greater of the depth so far and that argument's
pub depth_step : (ts : List Tree) (i : ℕ) (t : Tree) → i < length ts → t ≡ get_or ts i t → depth_of (listed (map formula (take (i + 1) ts))) ≡ max (depth_of (listed (map formula (take i ts)))) (depth (formula t))
depth_step ts i t h e = ap (λ (x : List Formula). depth_of (listed x)) (one_more ts i t h e) ∙ depth_more (map formula (take i ts)) (formula t)

-- one more than the nodes of all arguments are the nodes of their call
pub nodes_all : (g : Function) (v : Vec Tree) (ts : List Tree) (i : ℕ) → ts ≡ v.items → length ts ≤ i → 1 + nodes_of (listed (map formula (take i ts))) ≡ nodes (formula (Call g v))
nodes_all g v ts i e h = ap (λ (x : List Tree). 1 + nodes_of (listed (map formula x))) (take_all i ts h ∙ e) ∙ ap nodes (sym (formula_call g v))

-- one more than the depth of all arguments is the depth of their call
pub depth_all : (g : Function) (v : Vec Tree) (ts : List Tree) (i : ℕ) → ts ≡ v.items → length ts ≤ i → 1 + depth_of (listed (map formula (take i ts))) ≡ depth (formula (Call g v))
depth_all g v ts i e h = ap (λ (x : List Tree). 1 + depth_of (listed (map formula x))) (take_all i ts h ∙ e) ∙ ap depth (sym (formula_call g v))
