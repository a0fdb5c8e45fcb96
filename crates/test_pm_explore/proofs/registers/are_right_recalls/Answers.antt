use Rattle.std.proofs.Common.{arith, sym, subst}
use Rattle.pm_explore.specs.Lists.{IsAt}
use Rattle.pm_explore.specs.declared.position.Told.{Told}
use Rattle.pm_explore.proofs.Closing.{at_in, more_below}
use Rattle.pm_explore.proofs.Lists.{at_one}
use Rattle.pm_registers.specs.declared.calls.Response.{Response}
use Rattle.test_pm_explore.specs.RegisterSteps.{IsRightRecall}
use Rattle.test_pm_explore.proofs.registers.are_right_recalls.Goals as goal

pub loop-i-preserved : goal.loop-i-preserved
loop-i-preserved c = more_below (λ k. (t : Told Response) → IsAt c.args.x.now.told.items k t → IsRightRecall c.args.window.now c.args.x.now.cells.words.items t.process t.response) c.loop-i.i c.loop-i.invariant
    (λ t there. subst (λ (z : Told Response). IsRightRecall c.args.window.now c.args.x.now.cells.words.items z.process z.response) (at_one c.args.x.now.told.items c.loop-i.i c.index-told.result.now t (record { low = there.low; is = sym c.index-told.ensures }) there) (rw c.deref.ensures.value at (c.is_right_recall-right.ensures c.if-not-right.false)))

pub returns : goal.returns
returns c = λ _ t inside. let r = at_in c.args.x.now.told.items t inside in let low = r.1.low in c.loop-i.invariant r.0 (omega (arith, low, c.loop-i-test.false, c.len-i-end.ensures, c.args.x.now.told.ok.0)) t r.1
