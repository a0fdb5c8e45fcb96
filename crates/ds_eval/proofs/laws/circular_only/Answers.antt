use Rattle.std.proofs.Common.{sym, ◌∙◌, inl, inr}
use Rattle.ds_formula.specs.Cells.{count_of}
use Rattle.ds_eval.proofs.Walks.{runs_or_not}
use Rattle.ds_eval.proofs.Results.{never_circular}
use Rattle.ds_eval.proofs.laws.circular_only.Goals as goal

pub returns : goal.returns
returns c = λ shape sheet shown s cell i e. elim (runs_or_not shape sheet cell) [
  | inl w ↦ w
  | inr n ↦ absurd (never_circular shape sheet (count_of shape) cell (sym (s.computed cell i n) ∙ e))
]
