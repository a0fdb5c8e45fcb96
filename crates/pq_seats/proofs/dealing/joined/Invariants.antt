use Rattle.std.proofs.Common.{◌≡◌, ◌++◌, [], map, All}
use Rattle.std.specs.Vec.Iter.{into_iter_items}
use Rattle.pq_seats.specs.Known.{IsOf}
use Rattle.pq_seats.specs.Places.{past_in, sole}
use Rattle.pq_seats.proofs.dealing.joined.Given as goal

abbrev pub invariant-loop-pass : goal.invariant-loop-pass
invariant-loop-pass l = record {
  table : l.seat.table_id ≡ l.board.table.shared.table_id;
  empty : l.seat.me.1 ≡ [];
  past : past_in l.seat ≡ past_in l.fn.past.place;
  fit : All (λ p. IsOf l.board.table.shared.table_id l.board.key p) (into_iter_items l.pass-iterator);
  entries : l.seat.me.0.entries ++ map (λ p. sole p.place) (into_iter_items l.pass-iterator) ≡ map (λ p. sole p.place) l.fn.passes.items;
}
