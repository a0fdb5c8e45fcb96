use Rattle.std.proofs.Common.{◌∙◌}
use Rattle.pm_explore.proofs.Showing.{crashes}
use Rattle.pm_explore.proofs.cells.Cells.crash.Goals as goal

pub returns : goal.returns
returns c = λ window m m' shows s. crashes window c.args.self.now c.lose_buffers.new.self m m' shows (c.lose_buffers.ensures.words ∙ c.lose_cached.ensures.words) (rw (← c.lose_cached.ensures.buffers) c.lose_buffers.ensures.buffers) s
