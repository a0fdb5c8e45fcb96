use Rattle.std.proofs.Common.{◌+◌, ◌-◌, ◌≤◌, vec_len}
use Rattle.std.specs.Prelude.{vec_capacity}
use Rattle.std.specs.Io.KnownBytes.{Consumes}
use Rattle.ds_script_io.specs.Streams.{reader_of, bytes_given}
use Rattle.ds_script_io.proofs.input.read_input.Given as goal

abbrev pub invariant-loop-buffer : goal.invariant-loop-buffer
invariant-loop-buffer g l = record {
  bytes : Consumes (g.R.Read.remaining (reader_of l.fn.reader)) (g.R.Read.remaining (reader_of l.reader)) l.bytes.items;
  within : vec_len l.bytes ≤ l.limit + 1;
  room : l.limit + 1 ≤ vec_capacity l.bytes;
  given : bytes_given l.reader ≤ bytes_given l.fn.reader + vec_len l.bytes;
}

abbrev pub decreases-loop-buffer : goal.decreases-loop-buffer
decreases-loop-buffer g l = (l.limit + 1) - vec_len l.bytes
