use Rattle.std.proofs.Common.{◌≡◌, ℕ, ◌<◌, ◌≤◌, false, true, length, get_or}
use Rattle.ds_formula.proofs.references.mark_rows.Given as goal

abbrev pub invariant-loop-row : goal.invariant-loop-row
invariant-loop-row l = record {
  same_length : length l.has_mark ≡ length l.initial.has_mark;
  kept : (k : ℕ) → get_or l.initial.has_mark k false ≡ true → get_or l.has_mark k false ≡ true;
  marked : (k : ℕ) → l.fn.area.first.row ≤ k → k < l.row → get_or l.has_mark k false ≡ true;
}
