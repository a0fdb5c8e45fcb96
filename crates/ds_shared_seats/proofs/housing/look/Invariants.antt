use Rattle.std.proofs.Common.{◌≡◌, ◌<◌, ℕ, get_or}
use Rattle.std.specs.Prelude.{◌↔◌, true}
use Rattle.ds_shared_seats.specs.declared.ring.Home.{Home}
use Rattle.ds_shared_seats.specs.Homes.{AreLooked, IsFull}
use Rattle.ds_shared_seats.proofs.housing.look.Given as goal

abbrev pub invariant-loop-number : goal.invariant-loop-number
invariant-loop-number l = AreLooked l.fn.homes.items l.homes.items × ((l.full ≡ true) ↔ ((k : ℕ) (d : Home) → k < l.number → IsFull (get_or l.homes.items k d)))
