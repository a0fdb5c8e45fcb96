use Rattle.std.proofs.Common.{◌+◌, ◌≤◌, length}
use Rattle.ds_trace.proofs.Lines.{LedFrom}
use Rattle.ds_trace.proofs.record.record_lines.Given as goal

abbrev pub invariant-lines : goal.invariant-lines
invariant-lines l = record {
  from : LedFrom l.places l.whole l.script l.lines l.begun l.world l.rows.items l.start.items l.rest;
  within : l.lines + length l.rest ≤ length l.script;
}

abbrev pub decreases-lines : goal.decreases-lines
decreases-lines l = length l.rest
