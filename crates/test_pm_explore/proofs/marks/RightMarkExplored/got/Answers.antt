use Rattle.test_pm_explore.proofs.MarkSteps.{raises_are}
use Rattle.test_pm_explore.proofs.marks.RightMarkExplored.got.Goals as goal

pub returns : goal.returns
returns c = λ access after says s. c.got.ensures access after says (raises_are c.args.key.now c.args.process c.args.now access c.args.word after says s)
