use Rattle.std.proofs.Common.{◌+◌, ◌≡◌, ◌≤◌, length}
use Rattle.ds_script_io.specs.Streams.{writer_of, write_failed}
use Rattle.ds_script_json.proofs.JsonRuns.{So}
use Rattle.ds_script_json.proofs.script.run_lines.Given as goal

abbrev pub invariant-lines : goal.invariant-lines
invariant-lines g l = record {
  so : So l.whole l.script l.lines l.begun l.world (g.W.Write.contents (writer_of l.fn.writer)) (g.W.Write.contents (writer_of l.writer)) l.rest;
  no_failure : write_failed l.writer ≡ write_failed l.fn.writer;
  within : l.lines + length l.rest ≤ length l.script;
}

abbrev pub decreases-lines : goal.decreases-lines
decreases-lines g l = length l.rest
