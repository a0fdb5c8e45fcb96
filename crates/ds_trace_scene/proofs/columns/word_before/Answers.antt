use Rattle.ds_trace_scene.proofs.Before.{later}
use Rattle.ds_trace_scene.proofs.columns.word_before.Goals as goal

pub returns-else-event-eq0 : goal.returns-else-event-eq0
returns-else-event-eq0 c = later c.args.trace.now c.args.number c.args.event c.word_after.result c.if-event-eq0.false c.word_after.ensures
