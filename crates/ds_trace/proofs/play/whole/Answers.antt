use Rattle.std.proofs.Common.{refl}
use Rattle.ds_script.specs.Orders.{beginning}
use Rattle.ds_script.specs.Doing.{Calls, called}
use Rattle.ds_script.specs.declared.drive.Until.TheVariants.{ToAnswer}
use Rattle.ds_trace.specs.Trails.{BreaksOff, Trail}
use Rattle.ds_trace.proofs.Trails.{breaks_here, breaks_later, event_first, handed_on, on_err, on_ok}
use Rattle.ds_trace.proofs.play.whole.Goals as goal

pub returns-clause-trail : goal.returns-clause-trail
returns-clause-trail c =
    on_ok c.play_on.result (Trail c.args.places.now (called c.begin.new.world c.args.process ToAnswer c.in_ok-reply.reply) c.begin.new.world c.play_on.new.world c.begin.new.rows.items c.play_on.new.rows.items)
    (Trail c.args.places.now (Calls c.args.process (beginning c.args.process c.args.call)) c.args.world.now c.play_on.new.world c.args.rows.now.items c.play_on.new.rows.items)
    (λ rest. event_first c.args.places.now (Calls c.args.process (beginning c.args.process c.args.call)) c.args.world.now c.begin.new.world c.play_on.new.world (beginning c.args.process c.args.call) c.in_ok-reply.reply
    c.args.rows.now.items c.begin.new.rows.items c.play_on.new.rows.items refl c.in_ok-reply.ensures.happens rest)
    (c.play_on.ensures.trail (called c.begin.new.world c.args.process ToAnswer c.in_ok-reply.reply) (c.after_begin-left.ensures.remains c.begin.new.world))

pub returns-in_err-reply-clause-breaks_off : goal.returns-in_err-reply-clause-breaks_off
returns-in_err-reply-clause-breaks_off c =
    handed_on c.from_residual.result c.in_err-reply.field-0.0 (BreaksOff (Calls c.args.process (beginning c.args.process c.args.call)) c.args.world.now c.args.rows.now.items) c.from_residual.ensures.1
    (breaks_here c.args.places.now (Calls c.args.process (beginning c.args.process c.args.call)) c.args.world.now c.args.rows.now.items (beginning c.args.process c.args.call) c.in_err-reply.field-0.0 refl c.in_err-reply.ensures.full)

pub returns-clause-breaks_off : goal.returns-clause-breaks_off
returns-clause-breaks_off c =
    on_err c.play_on.result (BreaksOff (called c.begin.new.world c.args.process ToAnswer c.in_ok-reply.reply) c.begin.new.world c.begin.new.rows.items)
    (BreaksOff (Calls c.args.process (beginning c.args.process c.args.call)) c.args.world.now c.args.rows.now.items)
    (λ why rest. breaks_later c.args.places.now (Calls c.args.process (beginning c.args.process c.args.call)) c.args.world.now c.begin.new.world (beginning c.args.process c.args.call) c.in_ok-reply.reply
    c.args.rows.now.items c.begin.new.rows.items why refl c.in_ok-reply.ensures.happens rest)
    (c.play_on.ensures.breaks_off (called c.begin.new.world c.args.process ToAnswer c.in_ok-reply.reply) (c.after_begin-left.ensures.remains c.begin.new.world))
