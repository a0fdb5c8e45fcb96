use Rattle.ds_core.specs.declared.event.Event.TheVariants.{Step}
use Rattle.ds_script.specs.declared.turn.Left.TheVariants.{DrivesInOrder}
use Rattle.ds_script.proofs.InOrder.{steps}
use Rattle.ds_script.proofs.Turning.{stays_within}
use Rattle.ds_script.proofs.turn.step_in_order.Goals as goal

pub gone-requires : goal.gone-requires
gone-requires c =
    stays_within c.args.world.now c.step_once-reply.new.world (Step c.args.process) c.step_once-reply.result (DrivesInOrder c.args.process c.args.rest) c.step_once-reply.ensures.fits c.requires.within

pub returns : goal.returns
returns c =
    steps c.args.world.now c.step_once-reply.new.world c.args.process c.args.rest c.step_once-reply.result c.is_taken.result c.gone.result c.requires.wants c.step_once-reply.ensures.fits
    (c.is_taken.ensures c.args.process) c.gone.ensures.remains c.gone.ensures.within
