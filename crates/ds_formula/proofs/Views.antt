-- What a tree is, seen without memory.
use Rattle.std.proofs.Common.{◌≡◌, map, sym, ap, ◌∙◌}
use Rattle.std.specs.Global.{Vec, Box}
use Rattle.ds_formula.specs.declared.content.Sign.{Sign}
use Rattle.ds_formula.specs.declared.content.Operator.{Operator}
use Rattle.ds_formula.specs.declared.content.Function.{Function}
use Rattle.ds_formula.specs.declared.content.Tree.{Tree}
use Rattle.ds_formula.specs.declared.content.Tree.TheOpen as layers
use Rattle.ds_formula.specs.declared.content.Tree.TheFolds.{fold-roll-Tree}
use Rattle.ds_formula.specs.declared.content.Tree.TheVariants.{Prefix, Binary, Call, rolls-Prefix, rolls-Binary, rolls-Call}
use Rattle.ds_formula.specs.Plain.{Formula, Signed, Joined, Called, listed, formula, layer}

pub formula_prefix : (s : Sign) (a : Box Tree) → formula (Prefix s a) ≡ Signed s (formula a.value)
formula_prefix s a = ap formula (sym (rolls-Prefix s a)) ∙ fold-roll-Tree Formula layer (layers.Prefix s a)

-- the plain view of an operator's tree joins those of its sides
pub formula_binary : (o : Operator) (a b : Box Tree) → formula (Binary o a b) ≡ Joined o (formula a.value) (formula b.value)
formula_binary o a b = ap formula (sym (rolls-Binary o a b)) ∙ fold-roll-Tree Formula layer (layers.Binary o a b)

-- the plain view of a call's tree calls the function on those of its arguments
pub formula_call : (g : Function) (v : Vec Tree) → formula (Call g v) ≡ Called g (listed (map formula v.items))
formula_call g v = ap formula (sym (rolls-Call g v)) ∙ fold-roll-Tree Formula layer (layers.Call g v)
