use Rattle.std.proofs.Common.{◌≡◌, ◌+◌, ◌≤◌, [], ◌∷◌, ◌++◌, map, length}
use Rattle.std.specs.Prelude.{vec_capacity}
use Rattle.std.specs.Vec.Iter.{into_iter_items, into_iter_len}
use Rattle.rtrb.specs.Ring.{received, known_items}
use Rattle.pq_seats.proofs.housing.housed.Given as goal

abbrev pub invariant-loop-pass : goal.invariant-loop-pass
invariant-loop-pass l = record {
  rings : length l.rings.items ≡ into_iter_len l.pass-iterator;
  room : length l.homes.items + into_iter_len l.pass-iterator ≤ vec_capacity l.homes;
  order : map (λ h. h.process) l.homes.items ++ map (λ p. p.process) (into_iter_items l.pass-iterator) ≡ map (λ p. p.process) l.fn.passes.items;
  known : map (λ h. known_items h.end) l.homes.items ++ map (λ p. p ∷ []) (into_iter_items l.pass-iterator) ≡ map (λ p. p ∷ []) l.fn.passes.items;
  came : map (λ h. received h.end) l.homes.items ++ map (λ p. p ∷ []) (into_iter_items l.pass-iterator) ≡ map (λ p. p ∷ []) l.fn.passes.items;
}
