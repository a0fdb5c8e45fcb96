use Rattle.ds_recalculation.specs.Plans.{AreHeld}
use Rattle.ds_recalculation.proofs.sheet.contents.Given as goal

abbrev pub invariant-loop-cell : goal.invariant-loop-cell
invariant-loop-cell l = AreHeld l.world l.held.items l.cell
