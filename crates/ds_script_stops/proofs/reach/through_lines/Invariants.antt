use Rattle.std.proofs.Common.{ℕ, ◌+◌, ◌<◌, ◌≤◌, List, length}
use Rattle.ds_script_stops.specs.Reaching.{Led, IsAt}
use Rattle.ds_script_stops.proofs.reach.through_lines.Given as goal

abbrev pub invariant-lines : goal.invariant-lines
invariant-lines l = record {
  led : (script : List ℕ) → IsAt l.whole script l.fn.from l.fn.world → Led l.whole script l.lines l.point l.world l.rest;
  below : l.point.taken < l.last;
  within : l.lines + length l.rest ≤ l.fn.from.lines + length l.fn.from.rest.now;
}

abbrev pub decreases-lines : goal.decreases-lines
decreases-lines l = length l.rest
