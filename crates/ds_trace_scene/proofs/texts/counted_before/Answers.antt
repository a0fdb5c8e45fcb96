use Rattle.ds_trace_scene.proofs.Before.{counted_later}
use Rattle.ds_trace_scene.proofs.texts.counted_before.Goals as goal

pub returns-else-event-eq0 : goal.returns-else-event-eq0
returns-else-event-eq0 c = counted_later c.args.trace.now c.args.event c.counted_after.result c.if-event-eq0.false c.counted_after.ensures
