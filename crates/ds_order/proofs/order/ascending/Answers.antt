use Rattle.std.proofs.Common.{◌≡◌, ◌∙◌, ℕ, List, ◌∷◌, [], ◌++◌, ap, sym, subst, arith}
use Rattle.std.specs.List.{range_with_len}
use Rattle.ds_order.specs.Orders.{IsOrder}
use Rattle.ds_order.proofs.Ascending.{ascends, grown}
use Rattle.ds_order.proofs.order.ascending.Goals as goal

-- src/order.rt:65:5
pub loop-cell-preserved : goal.loop-cell-preserved
loop-cell-preserved c = c.in_ok-push.ensures.items ∙ (ap (λ (z : List ℕ). z ++ c.loop-cell.cell ∷ []) c.loop-cell.invariant ∙ grown c.loop-cell.cell)

-- src/order.rt:61:1
pub returns : goal.returns
returns c =
    let all : c.loop-cell.cell ≡ c.args.cells = omega (arith, c.loop-cell-test.false, c.loop-cell.auto.cell-end) in
    subst (λ (z : List ℕ). IsOrder c.args.cells z) (sym (c.loop-cell.invariant ∙ ap (λ (z : ℕ). range_with_len 0 z) all)) (ascends c.args.cells)
