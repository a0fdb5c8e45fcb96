use Rattle.std.proofs.Common.{◌≡◌, ◌<◌, length, ℕ}
use Rattle.ds_words.specs.declared.words.Word.{Word}
use Rattle.pm_explore.specs.Lists.{IsAt}
use Rattle.pm_explore.proofs.start.first_words.Given as goal

abbrev pub invariant-loop-i : goal.invariant-loop-i
invariant-loop-i g l = record {
  count : length l.list.items ≡ l.i;
  first : (k n : ℕ) (w : Word) → IsAt l.window k n → IsAt l.list.items k w → (n < g.P.Explored.structure.words l.key) × (w.cached ≡ g.P.Explored.structure.first_word l.key n) × (w.persisted ≡ g.P.Explored.structure.first_word l.key n);
}
