use Rattle.test_pm_explore.proofs.SameSteps.{steps_are}
use Rattle.test_pm_explore.proofs.queues.RightQueueExplored.got.Goals as goal

pub returns : goal.returns
returns c = λ access after says s. c.got.ensures access after says (steps_are 2 c.args.process c.args.now access c.args.word after says s)
