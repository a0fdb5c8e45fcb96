use Rattle.std.proofs.Common.{◌≡◌, length}
use Rattle.pq_seats.proofs.housing.rings.Given as goal

abbrev pub invariant-loop-made : goal.invariant-loop-made
invariant-loop-made l = length l.rings.items ≡ l._made
