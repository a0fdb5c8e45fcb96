use Rattle.std.proofs.Common.{sym, ℕ, arith, subst}
use Rattle.pm_explore.specs.Closed.{LeadsInto}
use Rattle.pm_explore.specs.Lists.{IsAt}
use Rattle.pm_explore.specs.declared.setting.Move.TheVariants.{Evict}
use Rattle.pm_explore.proofs.Closing.{more_below}
use Rattle.pm_explore.proofs.Lists.{at_one}
use Rattle.pm_explore.proofs.closure.evicts_lead.Goals as goal

pub loop-k-preserved : goal.loop-k-preserved
loop-k-preserved g c = λ j n low at. more_below (λ j. (n : ℕ) → IsAt c.args.setting.now.window.items j n → LeadsInto g.P.Explored.structure c.args.setting.now c.args.table.now.positions.items c.args.x.now (Evict n)) c.loop-k.k (λ i below m there. c.loop-k.invariant i m below there) (λ m there. subst (λ z. LeadsInto g.P.Explored.structure c.args.setting.now c.args.table.now.positions.items c.args.x.now (Evict z)) (at_one c.args.setting.now.window.items c.loop-k.k c.index.result.now m (record { low = there.low; is = sym c.index.ensures }) there) (c.in_ok-leads.ensures c.if-not-leads.false)) j low n at

pub returns : goal.returns
returns g c = λ _ k n at. let low = at.low in c.loop-k.invariant k n (omega (arith, low, c.loop-k-test.false, c.len-k-end.ensures, c.args.setting.now.window.ok.0)) at
