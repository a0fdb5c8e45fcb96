use Rattle.ds_script_stops.specs.StopBlocks.{recoveries}
use Rattle.ds_script_stops.specs.Reaching.{Tells}
use Rattle.ds_script_stops.proofs.block.recover.Given as goal

abbrev pub invariant-loop-process : goal.invariant-loop-process
invariant-loop-process l = Tells l.fn.world (recoveries l.process) l.fn.text.items l.text.items l.world
