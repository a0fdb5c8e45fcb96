use Rattle.std.proofs.Common.{ℕ, ◌≡◌, ◌≤◌, ◌<◌, ◌-◌}
use Rattle.std.specs.Prelude.{slice_index_or}
use Rattle.ds_layout.specs.Bits.{part_with}
use Rattle.ds_layout.proofs.bits.behind_blanks.Given as goal

abbrev pub invariant-loop-at : goal.invariant-loop-at
invariant-loop-at l = (part_with l.number ≤ l.at) × ((part : ℕ) → part_with l.number ≤ part → part < l.at → slice_index_or l.words part 0 ≡ 0)

abbrev pub decreases-loop-at : goal.decreases-loop-at
decreases-loop-at l = l.parts - l.at
