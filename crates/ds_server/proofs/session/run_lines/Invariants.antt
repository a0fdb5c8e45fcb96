use Rattle.std.proofs.Common.{◌≡◌, ℕ, ◌+◌, ◌≤◌, ◌<◌, true, List, length}
use Rattle.std.specs.Prelude.{vec_capacity}
use Rattle.std.specs.Io.KnownBytes.{Consumes, Appends}
use Rattle.ds_script_io.specs.Streams.{reader_of, writer_of, is_flushed, bytes_given, write_failed}
use Rattle.ds_server.specs.Desks.{Seated}
use Rattle.ds_server.specs.Session.{Session}
use Rattle.ds_server.proofs.session.run_lines.Given as goal

abbrev pub invariant-lines : goal.invariant-lines
invariant-lines g l = record {
  bytes : List ℕ;
  out : List ℕ;
  consumed : Consumes (g.R.Read.remaining (reader_of l.fn.reader)) (g.R.Read.remaining (reader_of l.reader)) bytes;
  written : Appends (g.W.Write.contents (writer_of l.fn.writer)) (g.W.Write.contents (writer_of l.writer)) out;
  session : Session g.B.Desk.rules l.most l.fn.desk bytes l.desk l.joined out;
  seated : Seated g.B.Desk.rules l.joined l.desk;
  counted : length bytes + l.left ≡ l.limit;
  room : l.most < vec_capacity l.line;
  given : bytes_given l.reader ≤ bytes_given l.fn.reader + length bytes;
  flushed : is_flushed l.fn.writer ≡ true → is_flushed l.writer ≡ true;
  failed : write_failed l.writer ≡ write_failed l.fn.writer;
}

abbrev pub decreases-lines : goal.decreases-lines
decreases-lines g l = l.left
