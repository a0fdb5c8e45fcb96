use Rattle.std.proofs.Common.{◌≡◌, ◌≤◌, ℕ, length, vec_capacity}
use Rattle.std.specs.Prelude.{slice_index_or}
use Rattle.std.specs.Arc.{arc_value}
use Rattle.ds_shared_seats.specs.declared.ring.Home.{Home}
use Rattle.ds_store.proofs.Taking.{AreNew}
use Rattle.ds_store.proofs.seated.all_seats.Given as goal

abbrev pub invariant-loop-process : goal.invariant-loop-process
invariant-loop-process l = record {
  sheet : arc_value l.sheet.sheet ≡ arc_value l.fn.sheet.sheet;
  homes : (k : ℕ) (d : Home) → l.process ≤ k → slice_index_or l.sheet.homes.items k d ≡ slice_index_or l.fn.sheet.homes.items k d;
  count : length l.seats.items ≡ l.process;
  room : l.processes ≤ vec_capacity l.seats;
  new : AreNew (arc_value l.fn.sheet.sheet) l.process l.seats.items;
}
