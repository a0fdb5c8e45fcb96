use Rattle.std.proofs.Common.{◌≡◌, ◌<◌, ◌++◌, length}
use Rattle.std.specs.Prelude.{All}
use Rattle.std.specs.Vec.Iter.{into_iter_items, into_iter_len}
use Rattle.ds_net_desks.specs.SeatsOfStores.{seats_below, seats_in}
use Rattle.ds_net_desks.proofs.numbered_seat.numbered_seats.Given as goal

abbrev pub invariant-loop-seat : goal.invariant-loop-seat
invariant-loop-seat l = record {
  numbered : All (λ p. (p.numberings.items ≡ l.numberings) × (p.epoch ≡ l.epoch) × (p.seat.pass.process < l.joins)) l.all.items;
  left : l.yielded ++ into_iter_items l.seat-iterator ≡ into_iter_items l.initial.seat-iterator;
  count : into_iter_len l.seat-iterator ≡ length (into_iter_items l.seat-iterator);
  joined : seats_in l.all.items ≡ seats_below l.joins l.yielded;
}
