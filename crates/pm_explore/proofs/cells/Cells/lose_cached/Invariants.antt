use Rattle.std.proofs.Common.{◌≡◌, ◌++◌, take, drop, length}
use Rattle.std.specs.Prelude.{map}
use Rattle.ds_words.specs.Words.{crashed}
use Rattle.pm_explore.proofs.cells.Cells.lose_cached.Given as goal

abbrev pub invariant-loop-i : goal.invariant-loop-i
invariant-loop-i l = record {
  crashed_below : l.self.words.items ≡ map crashed (take l.i l.initial.self.words.items) ++ drop l.i l.initial.self.words.items;
  same_length : length l.self.words.items ≡ length l.initial.self.words.items;
  buffers : l.self.buffers.items ≡ l.initial.self.buffers.items;
}
