use Rattle.std.proofs.Common.{◌≡◌, false, take}
use Rattle.std.specs.Prelude.{All}
use Rattle.ds_trace_scene.specs.Buffers.{is_open}
use Rattle.ds_trace_scene.proofs.buffers.write_back.Given as goal

abbrev pub invariant-loop-number : goal.invariant-loop-number
invariant-loop-number l = record {
  same : l.entries.items ≡ l.fn.entries.items;
  none : All (λ entry. is_open l.process entry ≡ false) (take l.number l.fn.entries.items);
}
