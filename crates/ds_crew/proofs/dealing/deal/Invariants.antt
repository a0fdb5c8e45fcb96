use Rattle.std.proofs.Common.{◌≡◌, ◌<◌, ◌≤◌, length, drop, vec_capacity, ℕ, ◌+◌}
use Rattle.std.specs.Prelude.{slice_index_or}
use Rattle.std.specs.Vec.Iter.{into_iter_items, into_iter_len}
use Rattle.ds_crew.specs.Passes.{PlainPass, first_pass, first_count, dones_of, settleds_of}
use Rattle.ds_crew.proofs.dealing.deal.Given as goal

abbrev pub invariant-loop-last : goal.invariant-loop-last
invariant-loop-last g l = record {
  count : length l.passes.items + into_iter_len l.last-iterator ≡ l.world.sheet.layout.processes;
  rest : into_iter_items l.last-iterator ≡ drop (length l.passes.items) l.fn.lasts.items;
  room : l.world.sheet.layout.processes ≤ vec_capacity l.passes;
  done : l.done ≡ first_count l.world.done (length l.passes.items);
  settled : l.settled ≡ first_count l.world.settled (length l.passes.items);
  dones : l.dones.amount ≡ l.done;
  settleds : l.settleds.amount ≡ l.settled;
  dones_parts : l.dones.parts ≡ into_iter_len l.last-iterator;
  settleds_parts : l.settleds.parts ≡ into_iter_len l.last-iterator;
  each : (p : ℕ) (d : PlainPass) → p < length l.passes.items → slice_index_or l.passes.items p d ≡ first_pass l.world p;
  all_dones : dones_of l.passes.items + l.done ≡ l.world.done;
  all_settleds : settleds_of l.passes.items + l.settled ≡ l.world.settled;
}
