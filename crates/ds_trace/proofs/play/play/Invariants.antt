use Rattle.std.proofs.Common.{◌-◌, length}
use Rattle.ds_script.specs.ScriptTurns.{IsWithin, doing_of}
use Rattle.ds_trace.proofs.Trails.{OnTheWay}
use Rattle.ds_trace.specs.declared.turn.TheConstants.{EVENT_LIMIT}
use Rattle.ds_trace.proofs.play.play.Given as goal

abbrev pub invariant-turns : goal.invariant-turns
invariant-turns l = record {
  way : OnTheWay l.places (doing_of l.fn.first) l.fn.world (doing_of l.left) l.world l.fn.rows.items l.rows.items;
  within : IsWithin l.world l.left;
}

abbrev pub decreases-turns : goal.decreases-turns
decreases-turns l = EVENT_LIMIT - length l.rows.items
