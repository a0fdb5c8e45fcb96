use Rattle.std.proofs.Common.{ℕ, ◌≡◌, ◌<◌, drop, false}
use Rattle.std.specs.Prelude.{nat_eq}
use Rattle.std.specs.List.{starts_with}
use Rattle.ds_explore.proofs.outcomes.contains.Given as goal

abbrev pub invariant-loop-at : goal.invariant-loop-at
invariant-loop-at l = (n : ℕ) → n < l.at → starts_with nat_eq (drop n l.text) l.part ≡ false
