use Rattle.std.specs.Prelude.{All, take}
use Rattle.ds_paths.specs.Sums.{LeadsUp}
use Rattle.ds_paths.proofs.count.leads_up.Given as goal

abbrev pub invariant-loop-edge : goal.invariant-loop-edge
invariant-loop-edge g l = All (LeadsUp l.ranks) (take l.edge-index l.edges)
