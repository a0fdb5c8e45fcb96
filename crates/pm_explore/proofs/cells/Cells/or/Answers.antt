use Rattle.pm_explore.proofs.Showing.{added}
use Rattle.pm_explore.proofs.cells.Cells.or.Goals as goal

pub returns : goal.returns
returns c = λ _ _ _ m m' _ _ shows perf. (perf.0, added c.args.window.now c.args.self.now c.put.new.self m m' c.args.number c.args.bits c.in-Some.word c.in-Some.ensures shows c.put.ensures.words c.put.ensures.buffers perf.1)
