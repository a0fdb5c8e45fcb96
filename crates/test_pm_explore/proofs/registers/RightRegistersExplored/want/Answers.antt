use Rattle.test_pm_explore.proofs.RegisterMoves.{wants_are}
use Rattle.test_pm_explore.proofs.registers.RightRegistersExplored.want.Goals as goal

pub returns : goal.returns
returns c = wants_are c.args.key.now c.args.process c.args.now c.want.result c.want.ensures
