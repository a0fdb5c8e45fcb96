use Rattle.std.proofs.Common.{ℕ, ◌<◌}
use Rattle.ds_stop_groups.specs.Groups.{IsLineAt}
use Rattle.ds_stop_groups.proofs.groups.place_of.Given as goal

abbrev pub invariant-loop-place : goal.invariant-loop-place
invariant-loop-place l = (p : ℕ) → p < l.place → IsLineAt l.text l.line p → ⊥
