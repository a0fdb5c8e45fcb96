use Rattle.std.proofs.Common.{◌≡◌, ◌++◌, take, drop, length, []}
use Rattle.std.specs.Prelude.{map}
use Rattle.pm_explore.proofs.cells.Cells.lose_buffers.Given as goal

abbrev pub invariant-loop-i : goal.invariant-loop-i
invariant-loop-i l = record {
  empty_below : l.self.buffers.items ≡ map (λ b. []) (take l.i l.initial.self.buffers.items) ++ drop l.i l.initial.self.buffers.items;
  same_length : length l.self.buffers.items ≡ length l.initial.self.buffers.items;
  words : l.self.words.items ≡ l.initial.self.words.items;
}
