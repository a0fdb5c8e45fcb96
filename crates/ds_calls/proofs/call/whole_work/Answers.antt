use Rattle.ds_state.specs.declared.answer.Answer.TheVariants.{Work}
use Rattle.ds_core.specs.declared.event.Event.TheVariants.{BeginWork}
use Rattle.ds_core.specs.Kinds.{IsWorkAnswer}
use Rattle.ds_calls.proofs.Begins.{whole_of}
use Rattle.ds_calls.proofs.call.whole_work.Goals as goal

pub returns : goal.returns
returns c =
    whole_of IsWorkAnswer Work c.args.process (BeginWork c.args.process c.args.cell) c.args.world.now c.begin_work-reply.new.world c.driven.new.world c.begin_work-reply.result c.driven.result
    (λ end s rests. rests) c.begin_work-reply.ensures.fits c.begin_work-reply.ensures.begins c.driven.ensures
