use Rattle.ds_core.specs.declared.event.Event.TheVariants.{Step}
use Rattle.ds_script.specs.declared.turn.Left.TheVariants.{Drives}
use Rattle.ds_script.proofs.Turning.{stays_within, takes_step}
use Rattle.ds_script.proofs.turn.step.Goals as goal

pub after_reply-requires : goal.after_reply-requires
after_reply-requires c =
    stays_within c.args.world.now c.step_once-reply.new.world (Step c.args.process) c.step_once-reply.result (Drives c.args.process c.args.until) c.step_once-reply.ensures.fits c.requires.within

pub returns : goal.returns
returns c =
    takes_step c.args.world.now c.step_once-reply.new.world c.args.process c.args.until c.step_once-reply.result c.is_taken.result c.after_reply.result c.requires.wants c.step_once-reply.ensures.fits
    (c.is_taken.ensures c.args.process) c.after_reply.ensures.remains c.after_reply.ensures.within c.step_once-reply.ensures.fewer
