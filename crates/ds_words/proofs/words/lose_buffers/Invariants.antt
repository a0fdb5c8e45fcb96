use Rattle.std.proofs.Common.{◌≡◌, ◌++◌, take, drop, [], length}
use Rattle.std.specs.Prelude.{map}
use Rattle.ds_words.proofs.words.lose_buffers.Given as goal

abbrev pub invariant-loop-i : goal.invariant-loop-i
invariant-loop-i l = record {
  empty_below : map (λ b. b.items) l.buffers.items ≡ map (λ b. []) (take l.i l.initial.buffers.items) ++ map (λ b. b.items) (drop l.i l.initial.buffers.items);
  same_length : length l.buffers.items ≡ length l.initial.buffers.items;
}
