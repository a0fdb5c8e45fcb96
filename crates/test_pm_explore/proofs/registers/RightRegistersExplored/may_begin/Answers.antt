use Rattle.test_pm_explore.proofs.RegisterMoves.{begins_are}
use Rattle.test_pm_explore.proofs.registers.RightRegistersExplored.may_begin.Goals as goal

pub returns : goal.returns
returns c = λ b. c.may_begin.ensures (begins_are 2 c.args.process c.args.now c.args.call b)
