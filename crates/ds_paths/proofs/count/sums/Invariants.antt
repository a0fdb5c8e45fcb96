use Rattle.std.specs.Prelude.{take}
use Rattle.ds_paths.specs.Sums.{AreSums}
use Rattle.ds_paths.proofs.count.sums.Given as goal

abbrev pub invariant-loop-edge : goal.invariant-loop-edge
invariant-loop-edge g l = AreSums (take l.edge-index l.edges) l.counts l.sums.items
