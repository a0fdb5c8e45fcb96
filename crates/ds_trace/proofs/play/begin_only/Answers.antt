use Rattle.std.proofs.Common.{refl}
use Rattle.ds_script.specs.Doing.{Once}
use Rattle.ds_script.specs.Orders.{beginning}
use Rattle.ds_trace.specs.Trails.{BreaksOff}
use Rattle.ds_trace.proofs.Trails.{breaks_here, handed_on, once}
use Rattle.ds_trace.proofs.play.begin_only.Goals as goal

pub returns-clause-trail : goal.returns-clause-trail
returns-clause-trail c =
    once c.args.places.now c.args.process (beginning c.args.process c.args.call) c.in_ok-_reply._reply c.args.world.now c.begin.new.world c.args.rows.now.items c.begin.new.rows.items c.in_ok-_reply.ensures.happens

pub returns-in_err-_reply-clause-breaks_off : goal.returns-in_err-_reply-clause-breaks_off
returns-in_err-_reply-clause-breaks_off c =
    handed_on c.from_residual.result c.in_err-_reply.field-0.0 (BreaksOff (Once c.args.process (beginning c.args.process c.args.call)) c.args.world.now c.args.rows.now.items) c.from_residual.ensures.1
    (breaks_here c.args.places.now (Once c.args.process (beginning c.args.process c.args.call)) c.args.world.now c.args.rows.now.items (beginning c.args.process c.args.call) c.in_err-_reply.field-0.0 refl c.in_err-_reply.ensures.full)
