use Rattle.std.proofs.Common.{arith, ap, sym, ◌∙◌}
use Rattle.ds_formula.specs.Plain.{formula}
use Rattle.ds_formula.specs.Sizes.{nodes}
use Rattle.ds_formula.proofs.Counts.{nodes_step, nodes_all}
use Rattle.ds_formula.proofs.content.Tree.+nodes.Goals as goal

pub loop-argument-preserved : goal.loop-argument-preserved
loop-argument-preserved t c =
    let e = nodes_step c.deref-argument-items.result.now c.loop-argument.argument-index c.argument-item.result (omega arith) c.argument-item.is in
    omega (arith, e, c.nodes-in-loop-argument.ensures, c.saturating_add-count.ensures, c.loop-argument.invariant)

pub returns-after-loop-argument : goal.returns-after-loop-argument
returns-after-loop-argument t c =
    let e = nodes_all c.in-Call.field-0 c.in-Call.arguments c.deref-argument-items.result.now c.loop-argument.argument-index c.deref-argument-items.ensures.value (omega arith) in
    let h = e ∙ ap (λ x. nodes (formula x)) (sym c.in-Call.is) in
    omega (arith, h, c.loop-argument.invariant)
