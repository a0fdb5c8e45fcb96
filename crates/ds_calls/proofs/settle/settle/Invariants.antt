use Rattle.ds_layout.specs.Places.{cells_of}
use Rattle.ds_calls.specs.Whole.{HasProcess, KeepsFree}
use Rattle.ds_calls.specs.Settling.{Settling, works_left, IsInTurn}
use Rattle.ds_calls.proofs.settle.settle.Given as goal

abbrev pub invariant-works : goal.invariant-works
invariant-works l = record {
  settling : Settling l.process l.fn.world l.turn l.world;
  there : HasProcess l.world l.process;
  inside : IsInTurn (cells_of l.world.sheet.layout) l.turn;
  free : KeepsFree l.process l.fn.world l.world;
}

abbrev pub decreases-works : goal.decreases-works
decreases-works l = works_left (cells_of l.world.sheet.layout) l.turn
