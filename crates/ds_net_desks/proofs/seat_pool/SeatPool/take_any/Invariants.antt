use Rattle.std.proofs.Common.{◌≡◌, ◌≤◌}
use Rattle.std.specs.Prelude.{min}
use Rattle.ds_net_desks.specs.PoolSizes.{count_of}
use Rattle.ds_net_desks.proofs.seat_pool.SeatPool.take_any.Given as goal

abbrev pub invariant-loop-none : goal.invariant-loop-none
invariant-loop-none g l = record {
  joins : l.none.from ≤ l.joins;
  there : l.none.from ≤ count_of l.self;
  count : l.none.count ≡ min l.joins (count_of l.self);
}

abbrev pub decreases-loop-none : goal.decreases-loop-none
decreases-loop-none g l = l.none.from
