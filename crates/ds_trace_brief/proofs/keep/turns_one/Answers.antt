use Rattle.ds_trace_brief.proofs.Steps.{turns_more}
use Rattle.ds_trace_brief.proofs.keep.turns_one.Goals as goal

pub loop-number-preserved : goal.loop-number-preserved
loop-number-preserved c =
    turns_more c.args.trace.now c.args.event c.loop-number.number c.loop-number.one c.turns_at.result c.either-one.result c.loop-number.invariant c.turns_at.ensures c.either-one.ensures
