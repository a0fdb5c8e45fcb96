use Rattle.std.proofs.Common.{◌≡◌, ◌+◌, ◌≤◌, ℕ, List, length, min}
use Rattle.std.specs.Prelude.{vec_capacity, vec_len}
use Rattle.std.specs.Io.KnownBytes.{Consumes}
use Rattle.ds_script_io.specs.Streams.{reader_of, bytes_given}
use Rattle.ds_server.specs.SessionLines.{HasNoFeed}
use Rattle.ds_server.proofs.line.read_line.Given as goal

abbrev pub invariant-loop-byte : goal.invariant-loop-byte
invariant-loop-byte g l = record {
  seen : List ℕ;
  consumed : Consumes (g.R.Read.remaining (reader_of l.fn.reader)) (g.R.Read.remaining (reader_of l.reader)) seen;
  no_feed : HasNoFeed seen;
  kept : vec_len l.line ≡ min (l.most + 1) (length seen);
  whole : length seen ≤ l.most → l.line.items ≡ seen;
  counted : length seen + l.left ≡ l.fn.left;
  room : vec_capacity l.line ≡ vec_capacity l.fn.line;
  given : bytes_given l.reader ≤ bytes_given l.fn.reader + length seen;
}

abbrev pub decreases-loop-byte : goal.decreases-loop-byte
decreases-loop-byte g l = l.left
