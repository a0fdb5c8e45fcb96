use Rattle.std.proofs.Common.{ℕ, ◌≡◌, ◌<◌, length, get_or}
use Rattle.ds_words.specs.declared.access.Class.TheVariants.{Stamped}
use Rattle.ds_layout.specs.Places.{class_of, place_of}
use Rattle.ds_layout.proofs.layout.Layout.classes.Given as goal

abbrev pub invariant-loop-number : goal.invariant-loop-number
invariant-loop-number l = record {
  count : length l.classes.items ≡ l.number;
  each : (n : ℕ) → n < l.number → get_or l.classes.items n Stamped ≡ class_of (place_of l.self n);
}
