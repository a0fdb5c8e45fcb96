use Rattle.std.proofs.Common.{◌+◌, arith, ap, ◌∙◌}
use Rattle.ds_core.proofs.Runs.{run_next}
use Rattle.ds_core.proofs.take.run.Goals as goal

pub loop-event-preserved : goal.loop-event-preserved
loop-event-preserved c =
    let inv = c.loop-event.invariant in (
      rw c.push_reserved.ensures.items
          (run_next c.args.world.now c.loop-event.world c.take-reply.new.world c.args.events.now c.loop-event.event-index c.event-item.result c.loop-event.replies.items c.take-reply.result c.loop-event-test.true c.event-item.is inv.0 c.take-reply.ensures.fits),
      c.push_reserved.ensures.len ∙ ap (λ n. n + 1) inv.1,
      omega arith,
    )
