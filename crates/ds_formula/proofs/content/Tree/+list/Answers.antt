use Rattle.std.proofs.Common.{sym, ap, subst, ◌∙◌}
use Rattle.std.proofs.lemmas.Result.{IfOk-weaker}
use Rattle.std.specs.Prelude.{IsTrue}
use Rattle.ds_formula.specs.Plain.{Formula, formula}
use Rattle.ds_formula.specs.Refs.{IsListed}
use Rattle.ds_formula.proofs.Views.{formula_binary}
use Rattle.ds_formula.proofs.Lists.{both_listed}
use Rattle.ds_formula.proofs.content.Tree.+list.Goals as goal

pub returns-then-branch : goal.returns-then-branch
returns-then-branch t c =
    let before = c.args.cells.now.items in
    let mid = c.list-in-Binary.new.cells.items in
    let all = c.list-then-branch.new.cells.items in
    let left = rw c.deref-in-Binary.ensures at (c.in_ok-list-in-Binary.ensures c.if-branch.true) in
    let is = ap formula c.in-Binary.is ∙ formula_binary c.in-Binary.field-0 c.in-Binary.left c.in-Binary.right in
    IfOk-weaker c.list-then-branch.result (λ listed. IsTrue listed → IsListed (formula c.in-Binary.right.value) mid all) (λ listed. IsTrue listed → IsListed (formula c.args.self.now) before all)
    (λ listed right yes. subst (λ (x : Formula). IsListed x before all) (sym is) (both_listed c.in-Binary.field-0 (formula c.in-Binary.left.value) (formula c.in-Binary.right.value) before mid all left (right yes)))
    (rw c.deref-then-branch.ensures at c.list-then-branch.ensures)
