use Rattle.ds_state.specs.declared.answer.Answer.TheVariants.{Show}
use Rattle.ds_core.specs.declared.event.Event.TheVariants.{BeginShow}
use Rattle.ds_core.specs.Kinds.{IsShowAnswer}
use Rattle.ds_calls.proofs.Begins.{whole_of}
use Rattle.ds_calls.proofs.call.whole_show.Goals as goal

pub returns : goal.returns
returns c =
    whole_of IsShowAnswer Show c.args.process (BeginShow c.args.process) c.args.world.now c.begin_show-reply.new.world c.driven.new.world c.begin_show-reply.result c.driven.result
    (λ end s rests. rests) c.begin_show-reply.ensures.fits c.begin_show-reply.ensures.begins c.driven.ensures
