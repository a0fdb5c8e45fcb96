use Rattle.ds_state.specs.declared.answer.Answer.TheVariants.{Recovery}
use Rattle.ds_core.specs.declared.event.Event.TheVariants.{BeginRecover}
use Rattle.ds_core.specs.Kinds.{IsRecoveryAnswer}
use Rattle.ds_calls.proofs.Begins.{whole_of}
use Rattle.ds_calls.proofs.call.whole_recovery.Goals as goal

pub returns : goal.returns
returns c =
    whole_of IsRecoveryAnswer Recovery c.args.process (BeginRecover c.args.process) c.args.world.now c.begin_recovery-reply.new.world c.driven.new.world c.begin_recovery-reply.result c.driven.result
    (λ end s rests. rests) c.begin_recovery-reply.ensures.fits c.begin_recovery-reply.ensures.begins c.driven.ensures
