use Rattle.std.proofs.Common.{ℕ, ◌≡◌, ◌+◌, ◌*◌, ◌<◌, length, get_or}
use Rattle.ds_layout.proofs.text.part_word.Given as goal

abbrev pub invariant-loop-i : goal.invariant-loop-i
invariant-loop-i l = record {
  eight : length l.bytes ≡ 8;
  written : (k : ℕ) → k < l.i → get_or l.bytes k 0 ≡ get_or l.text (8 * l.part + k) 0;
}
