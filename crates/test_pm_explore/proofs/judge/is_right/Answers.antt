use Rattle.std.proofs.Common.{arith, sym, subst}
use Rattle.pm_explore.specs.Lists.{IsAt}
use Rattle.pm_explore.specs.declared.position.Told.{Told}
use Rattle.pm_explore.proofs.Closing.{at_in, more_below}
use Rattle.pm_explore.proofs.Lists.{at_one}
use Rattle.pq.specs.declared.calls.Response.{Response}
use Rattle.test_pm_explore.specs.Judged.{IsRightAnswer}
use Rattle.test_pm_explore.proofs.judge.is_right.Goals as goal

pub loop-i-preserved : goal.loop-i-preserved
loop-i-preserved c = more_below (λ k. (t : Told Response) → IsAt c.args.x.now.told.items k t → IsRightAnswer c.args.window.now c.args.x.now.cells.words.items t.response) c.loop-i.i c.loop-i.invariant (λ t there. subst (λ (z : Told Response). IsRightAnswer c.args.window.now c.args.x.now.cells.words.items z.response) (at_one c.args.x.now.told.items c.loop-i.i c.index.result.now t (record { low = there.low; is = sym c.index.ensures }) there) (rw c.deref.ensures.value at (c.is_right_answer-right.ensures c.if-not-right.false)))

pub returns : goal.returns
returns c = λ yes. record {
  answers = λ t inside. let r = at_in c.args.x.now.told.items t inside in let low = r.1.low in c.loop-i.invariant r.0 (omega (arith, low, c.loop-i-test.false, c.len-i-end.ensures, c.args.x.now.told.ok.0)) t r.1;
  order = rw c.deref-2.ensures.value at (c.are_taken_in_order.ensures yes);
}
