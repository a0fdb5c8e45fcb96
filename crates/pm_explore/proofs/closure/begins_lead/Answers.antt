use Rattle.std.proofs.Common.{arith}
use Rattle.pm_explore.specs.Closed.{LeadsInto}
use Rattle.pm_explore.specs.declared.setting.Move.TheVariants.{Begin}
use Rattle.pm_explore.proofs.Closing.{more_below}
use Rattle.pm_explore.proofs.closure.begins_lead.Goals as goal

pub loop-i-preserved : goal.loop-i-preserved
loop-i-preserved g c = more_below (λ k. LeadsInto g.P.Explored.structure c.args.setting.now c.args.table.now.positions.items c.args.x.now (Begin k)) c.loop-i.i c.loop-i.invariant (c.in_ok-leads.ensures c.if-not-leads.false)

pub returns : goal.returns
returns g c = λ _ k low. c.loop-i.invariant k (omega (arith, low, c.loop-i-test.false, c.len-i-end.ensures, c.args.setting.now.calls.ok.0))
