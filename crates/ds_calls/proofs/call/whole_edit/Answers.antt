use Rattle.ds_state.specs.declared.answer.Answer.TheVariants.{Edit}
use Rattle.ds_core.specs.declared.event.Event.TheVariants.{BeginEdit}
use Rattle.ds_core.specs.Kinds.{IsEditAnswer}
use Rattle.ds_calls.specs.Whole.{request}
use Rattle.ds_calls.proofs.Begins.{whole_of}
use Rattle.ds_calls.proofs.call.whole_edit.Goals as goal

pub returns : goal.returns
returns c =
    whole_of IsEditAnswer Edit c.args.process (BeginEdit (request c.args.process c.args.cell c.args.text.now)) c.args.world.now c.begin_edit-reply.new.world c.driven.new.world c.begin_edit-reply.result c.driven.result
    (λ end s rests. rests) c.begin_edit-reply.ensures.fits c.begin_edit-reply.ensures.begins c.driven.ensures
