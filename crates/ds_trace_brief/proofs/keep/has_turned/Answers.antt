use Rattle.ds_trace_brief.proofs.Steps.{turned_more}
use Rattle.ds_trace_brief.proofs.keep.has_turned.Goals as goal

pub loop-event-preserved : goal.loop-event-preserved
loop-event-preserved c =
    turned_more c.args.trace.now c.args.number c.loop-event.event c.loop-event.has c.turns_at.result c.either-has.result c.loop-event.invariant c.turns_at.ensures c.either-has.ensures
