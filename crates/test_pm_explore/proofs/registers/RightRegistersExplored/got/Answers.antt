use Rattle.test_pm_explore.proofs.RegisterMoves.{steps_are}
use Rattle.test_pm_explore.proofs.registers.RightRegistersExplored.got.Goals as goal

pub returns : goal.returns
returns c = λ access after says s. c.got.ensures access after says (steps_are 2 c.args.process c.args.now access c.args.word after says s)
