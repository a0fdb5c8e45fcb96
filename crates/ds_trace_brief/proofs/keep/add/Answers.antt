use Rattle.ds_trace_brief.proofs.Steps.{sorted_more}
use Rattle.ds_trace_brief.proofs.keep.add.Goals as goal

pub loop-number-preserved : goal.loop-number-preserved
loop-number-preserved c =
    sorted_more c.args.sort c.args.trace.now c.loop-number.number c.decides.result c.args.numbers.now.items c.loop-number.numbers.items c.add_if.new.numbers.items c.loop-number.invariant c.decides.ensures c.in_ok-add_if.ensures
