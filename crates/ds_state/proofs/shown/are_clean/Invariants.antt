use Rattle.std.proofs.Common.{ℕ, ◌≡◌, ◌<◌}
use Rattle.ds_layout.specs.declared.mark.State.TheVariants.{Clean}
use Rattle.ds_layout.specs.Mark.{state_of}
use Rattle.ds_state.specs.Shown.{mark_at}
use Rattle.ds_state.proofs.shown.are_clean.Given as goal

abbrev pub invariant-loop-cell : goal.invariant-loop-cell
invariant-loop-cell g l = (k : ℕ) → k < l.cell → state_of (mark_at (g.W.SheetReader.sheet l.words) (g.W.SheetReader.seen l.words) k) ≡ Clean
