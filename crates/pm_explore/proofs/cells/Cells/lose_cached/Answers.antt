use Rattle.std.proofs.Common.{arith, ◌∙◌}
use Rattle.std.proofs.Math.ListN.{length-set}
use Rattle.std.proofs.lemmas.List.Edits.{map_over_more}
use Rattle.ds_words.specs.Words.{crashed}
use Rattle.pm_explore.proofs.cells.Cells.lose_cached.Goals as goal

pub loop-i-preserved : goal.loop-i-preserved
loop-i-preserved c = record {
  crashed_below = map_over_more crashed c.args.self.now.words.items c.loop-i.self.words.items c.loop-i.i c.index.result.now (omega arith) c.loop-i.invariant.crashed_below c.index.ensures;
  same_length = length-set c.loop-i.self.words.items c.loop-i.i _ ∙ c.loop-i.invariant.same_length;
  buffers = c.loop-i.invariant.buffers;
}
