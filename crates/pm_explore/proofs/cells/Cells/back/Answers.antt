use Rattle.std.proofs.Common.{◌∙◌}
use Rattle.pm_explore.proofs.Showing.{written}
use Rattle.pm_explore.proofs.cells.Cells.back.Goals as goal

pub returns : goal.returns
returns c = λ _ _ m m' _ _ shows perf.
    let e = c.in-Some.entry in
    let oldest = c.in-Some.ensures in
    let word = c.in-Some-word.ensures in
    (perf.0, written c.args.window.now c.args.self.now c.put.new.self m m' c.args.process e oldest.0 c.in-Some-word.word oldest.1 word shows (rw (← c.drop_oldest.ensures.words, ← c.newer.ensures) c.put.ensures.words) (c.put.ensures.buffers ∙ c.drop_oldest.ensures.buffers e oldest.0 oldest.1) perf.1)
