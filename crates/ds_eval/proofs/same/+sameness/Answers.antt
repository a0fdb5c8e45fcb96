use Rattle.std.proofs.Common.{arith, ◌∙◌, sym, ap, List, map}
use Rattle.ds_formula.specs.declared.content.Tree.{Tree}
use Rattle.ds_formula.specs.Plain.{formula}
use Rattle.ds_eval.proofs.Sameness.{arguments_same, element_same}
use Rattle.ds_eval.proofs.same.+sameness.Goals as goal

pub same_tree-returns-then-eq-3-clause-no : goal.same_tree-returns-then-eq-3-clause-no
same_tree-returns-then-eq-3-clause-no t c = λ e.
    c.same_trees.ensures.no (
    ap (λ (ts : List Tree). map formula ts) c.deref-then-eq-3.ensures.value
    ∙ arguments_same c.args.left.now c.args.right.now c.in-Call.s c.in-Call-right.t c.in-Call.a c.in-Call-right.b c.in-Call.is c.in-Call-right.is e
    ∙ ap (λ (ts : List Tree). map formula ts) (sym c.deref-then-eq-3-2.ensures.value)
    )

pub same_trees-returns-then-not-same_tree-clause-no :
    goal.same_trees-returns-then-not-same_tree-clause-no
same_trees-returns-then-not-same_tree-clause-no t c = λ e.
    sym c.if-not-same_tree.true
    ∙ c.same_tree.ensures.no (element_same c.args.left.now c.args.right.now c.loop-i.i c.index-left-i.result c.index-right-i.result (omega arith) (omega arith) c.index-left-i.is c.index-right-i.is e)
