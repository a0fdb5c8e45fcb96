use Rattle.pm_base.proofs.Running.{runs}
use Rattle.pm_mark.specs.Marks.{mark}
use Rattle.pm_mark.proofs.laws.raises_last.Goals as goal

pub returns : goal.returns
returns c = λ first last hs p v new run inside. (runs mark c.args.processes c.law.ensures first last hs new run).responses p v inside
