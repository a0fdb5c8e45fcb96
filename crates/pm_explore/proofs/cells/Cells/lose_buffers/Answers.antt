use Rattle.std.proofs.Common.{arith, ◌∙◌, []}
use Rattle.std.proofs.Math.ListN.{length-set}
use Rattle.std.proofs.lemmas.List.Edits.{map_over_more}
use Rattle.pm_explore.proofs.cells.Cells.lose_buffers.Goals as goal

pub loop-i-preserved : goal.loop-i-preserved
loop-i-preserved c = record {
  empty_below = rw c.clear.ensures (map_over_more (λ b. []) c.args.self.now.buffers.items c.loop-i.self.buffers.items c.loop-i.i c.index_mut-buffer.result.now (omega arith) c.loop-i.invariant.empty_below c.index_mut-buffer.ensures.value);
  same_length = length-set c.loop-i.self.buffers.items c.loop-i.i _ ∙ c.loop-i.invariant.same_length;
  words = c.loop-i.invariant.words;
}
