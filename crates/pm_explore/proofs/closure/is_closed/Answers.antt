use Rattle.std.proofs.Common.{sym, arith, subst, rules}
use Rattle.pm_explore.specs.Closed.{StaysIn}
use Rattle.pm_explore.specs.Lists.{IsAt}
use Rattle.pm_explore.proofs.Closing.{more_below, at_in}
use Rattle.pm_explore.proofs.Lists.{at_one, in_at}
use Rattle.pm_explore.proofs.closure.is_closed.Goals as goal

pub stays_in-requires : goal.stays_in-requires
stays_in-requires g c = in_at c.args.table.now.positions.items c.loop-i.i c.index.result.now (search rules) c.index.ensures

pub loop-i-preserved : goal.loop-i-preserved
loop-i-preserved g c = λ k x low at. more_below (λ k. (x : _) → IsAt c.args.table.now.positions.items k x → StaysIn g.P.Explored.structure c.args.setting.now c.args.table.now.positions.items x) c.loop-i.i (λ i below y there. c.loop-i.invariant i y below there) (λ y there. subst (λ z. StaysIn g.P.Explored.structure c.args.setting.now c.args.table.now.positions.items z) (at_one c.args.table.now.positions.items c.loop-i.i c.index.result.now y (record { low = there.low; is = sym c.index.ensures }) there) (c.in_ok-stays.ensures c.if-not-stays.false)) k low x at

pub returns : goal.returns
returns g c = λ _ x inside. let r = at_in c.args.table.now.positions.items x inside in let low = r.1.low in c.loop-i.invariant r.0 x (omega (arith, low, c.loop-i-test.false, c.len-i-end.ensures, c.args.table.now.positions.ok.0)) r.1
