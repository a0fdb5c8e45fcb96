use Rattle.std.proofs.Common.{ℕ, ◌+◌, ◌≡◌, ◌≤◌, List, length}
use Rattle.std.specs.Io.KnownBytes.{Appends}
use Rattle.ds_script_io.specs.Streams.{writer_of, write_failed}
use Rattle.ds_script.proofs.Scripts.{Led}
use Rattle.ds_script.proofs.script.run_lines.Given as goal

abbrev pub invariant-lines : goal.invariant-lines
invariant-lines g l = record {
  out : List ℕ;
  written : Appends (g.W.Write.contents (writer_of l.fn.writer)) (g.W.Write.contents (writer_of l.writer)) out;
  led : Led l.whole l.script l.lines l.begun l.world out l.rest;
  no_failure : write_failed l.writer ≡ write_failed l.fn.writer;
  within : l.lines + length l.rest ≤ length l.script;
}

abbrev pub decreases-lines : goal.decreases-lines
decreases-lines g l = length l.rest
