use Rattle.std.proofs.Common.{◌≡◌, map, take}
use Rattle.ds_explore_state.specs.States.{all_places}
use Rattle.ds_explore_state.proofs.touched.all.Given as goal

abbrev pub invariant-loop-number : goal.invariant-loop-number
invariant-loop-number l = l.places.items ≡ all_places (map (λ group. group.items) (take l.number l.groups))
