use Rattle.pm_explore.proofs.Showing.{swapped}
use Rattle.pm_explore.proofs.cells.Cells.swap_if.Goals as goal

pub returns : goal.returns
returns c = λ _ _ _ m m' answer _ shows perf. swapped c.args.window.now c.args.self.now c.put.new.self m m' c.args.number c.args.expected c.args.value answer c.in-Some.word c.in-Some.ensures c.if-word-expected.false shows c.put.ensures.words c.put.ensures.buffers perf
