use Rattle.std.proofs.Common.{arith}
use Rattle.pm_explore.specs.Closed.{LeadsInto}
use Rattle.pm_explore.specs.declared.setting.Move.TheVariants.{Stop}
use Rattle.pm_explore.proofs.Closing.{more_below}
use Rattle.pm_explore.proofs.closure.stops_lead.Goals as goal

pub loop-process-preserved : goal.loop-process-preserved
loop-process-preserved g c = more_below (λ k. LeadsInto g.P.Explored.structure c.args.setting.now c.args.table.now.positions.items c.args.x.now (Stop k)) c.loop-process.process c.loop-process.invariant (c.in_ok-leads.ensures c.if-not-leads.false)

pub returns : goal.returns
returns g c = λ _ k low. c.loop-process.invariant k (omega (arith, low, c.loop-process-test.false, c.processes-process-end.ensures))
