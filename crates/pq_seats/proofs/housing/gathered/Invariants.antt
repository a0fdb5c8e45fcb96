use Rattle.std.proofs.Common.{◌≡◌, ◌+◌, ◌≤◌, [], ◌∷◌, ◌++◌, map, length, All}
use Rattle.std.specs.Prelude.{vec_capacity}
use Rattle.std.specs.Vec.Iter.{into_iter_items, into_iter_len}
use Rattle.rtrb.specs.Ring.{received}
use Rattle.pq_seats.specs.Known.{IsOf}
use Rattle.pq_seats.specs.Homes.{IsFull, in_home}
use Rattle.pq_seats.proofs.housing.gathered.Given as goal

abbrev pub invariant-loop-home : goal.invariant-loop-home
invariant-loop-home l = record {
  room : length l.passes.items + into_iter_len l.home-iterator ≤ vec_capacity l.passes;
  full : All IsFull (into_iter_items l.home-iterator);
  own : All (λ h. All (λ p. IsOf l.board.table.shared.table_id l.board.key p) (received h.end)) (into_iter_items l.home-iterator);
  fit : All (λ p. IsOf l.board.table.shared.table_id l.board.key p) l.passes.items;
  order : map (λ p. p.process) l.passes.items ++ map (λ h. h.process) (into_iter_items l.home-iterator) ≡ map (λ h. h.process) l.fn.homes.items;
  known : map (λ p. p ∷ []) l.passes.items ++ map in_home (into_iter_items l.home-iterator) ≡ map in_home l.fn.homes.items;
}
