use Rattle.std.proofs.Common.{sym, arith, subst}
use Rattle.pm_explore.specs.Lists.{IsAt}
use Rattle.pm_explore.proofs.Closing.{more_below, at_in}
use Rattle.pm_explore.proofs.Lists.{at_one}
use Rattle.pm_explore.proofs.judge.first_wrong.Goals as goal

pub loop-i-preserved : goal.loop-i-preserved
loop-i-preserved g c = λ k x low at. more_below (λ k. (x : _) → IsAt c.args.table.now.positions.items k x → g.J.Judge.meaning c.args.judge.now c.args.setting.now x) c.loop-i.i (λ i below y there. c.loop-i.invariant i y below there)
    (λ y there. subst (λ z. g.J.Judge.meaning c.args.judge.now c.args.setting.now z) (at_one c.args.table.now.positions.items c.loop-i.i c.index.result.now y (record { low = there.low; is = sym c.index.ensures }) there) (c.is_right-right.ensures c.if-not-right.false)) k low x at

pub returns : goal.returns
returns g c = λ x inside. let r = at_in c.args.table.now.positions.items x inside in let low = r.1.low in c.loop-i.invariant r.0 x (omega (arith, low, c.loop-i-test.false, c.len-i-end.ensures, c.args.table.now.positions.ok.0)) r.1
