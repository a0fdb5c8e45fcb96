use Rattle.std.proofs.Common.{◌≡◌, ◌<◌, All, length}
use Rattle.ds_layout.specs.Places.{cells_of}
use Rattle.ds_script.specs.Doing.{in_order}
use Rattle.ds_script.proofs.turn.in_order.Given as goal

abbrev pub invariant-loop-rest : goal.invariant-loop-rest
invariant-loop-rest l = record {
  same : in_order l.world l.process l.fn.order.items ≡ in_order l.world l.process l.rest.items;
  inside : All (λ c. c < cells_of l.world.sheet.layout) l.rest.items;
}

abbrev pub decreases-loop-rest : goal.decreases-loop-rest
decreases-loop-rest l = length l.rest.items
