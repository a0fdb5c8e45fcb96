use Rattle.std.proofs.Common.{◌≡◌, ◌++◌, take, drop, length}
use Rattle.std.specs.Prelude.{map}
use Rattle.ds_words.specs.Words.{crashed}
use Rattle.ds_words.proofs.words.lose_cached.Given as goal

abbrev pub invariant-loop-i : goal.invariant-loop-i
invariant-loop-i l = record {
  crashed_below : l.words.items ≡ map crashed (take l.i l.initial.words.items) ++ drop l.i l.initial.words.items;
  same_length : length l.words.items ≡ length l.initial.words.items;
}
