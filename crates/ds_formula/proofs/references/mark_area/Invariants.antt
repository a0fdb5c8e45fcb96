use Rattle.std.proofs.Common.{◌≡◌, ℕ, ◌<◌, false, ◌&&◌, ◌||◌, ltb, length, get_or}
use Rattle.ds_formula.specs.declared.references.TheConstants.{PLACES}
use Rattle.ds_formula.specs.Marks.{cell_by, is_within}
use Rattle.ds_formula.proofs.references.mark_area.Given as goal

-- the cells below the place are marked
abbrev pub invariant-loop-place : goal.invariant-loop-place
invariant-loop-place l = record {
  same_length : length l.marks ≡ length l.initial.marks;
  each : (k : ℕ) → k < PLACES → get_or l.marks k false ≡ (get_or l.initial.marks k false || (is_within l.area (cell_by k) && ltb k l.place));
}
