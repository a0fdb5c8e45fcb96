use Rattle.pm_explore.proofs.Showing.{evicted, evicted_outside}
use Rattle.pm_explore.proofs.cells.Cells.evict.Goals as goal

pub returns-in-Some : goal.returns-in-Some
returns-in-Some c = λ m m' shows e. evicted c.args.window.now c.args.self.now c.put.new.self m m' c.args.number c.in-Some.word c.in-Some.ensures shows c.put.ensures.words c.put.ensures.buffers e

pub returns-in_default : goal.returns-in_default
returns-in_default c = λ m m' shows e. evicted_outside c.args.window.now c.args.self.now m m' c.args.number c.in_default.ensures shows e
