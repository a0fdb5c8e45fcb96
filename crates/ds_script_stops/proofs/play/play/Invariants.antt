use Rattle.std.proofs.Common.{◌+◌, ◌*◌, ◌-◌, ◌<◌}
use Rattle.ds_script.specs.ScriptTurns.{IsWithin, doing_of, events_to_step}
use Rattle.ds_script_stops.specs.Reaching.{OnTheWay}
use Rattle.ds_script_stops.proofs.play.play.Given as goal

abbrev pub invariant-turns : goal.invariant-turns
invariant-turns l = record {
  way : OnTheWay (doing_of l.fn.first) l.fn.world l.fn.before l.taken l.left l.world;
  within : IsWithin l.world l.left;
  below : l.taken < l.last;
}

abbrev pub decreases-turns : goal.decreases-turns
decreases-turns l = 4 * (l.last - l.taken) + events_to_step l.world l.left
