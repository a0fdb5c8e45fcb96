use Rattle.std.proofs.Common.{◌≡◌, length}
use Rattle.ds_shared_seats.proofs.housing.rings.Given as goal

abbrev pub invariant-loop-made : goal.invariant-loop-made
invariant-loop-made l = length l.rings.items ≡ l._made
