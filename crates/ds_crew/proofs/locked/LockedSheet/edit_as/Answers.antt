use Rattle.std.proofs.Common.{refl, rules}
use Rattle.ds_state.specs.declared.answer.Answer.TheVariants.{Edit}
use Rattle.ds_core.specs.declared.reply.Reply.TheVariants.{Answered}
use Rattle.ds_crew.specs.Kept.{HasStepped, by_step}
use Rattle.ds_crew.specs.declared.steps.Call.TheVariants as calls
use Rattle.ds_crew.proofs.locked.LockedSheet.edit_as.Goals as goal

pub returns-in-None-clause-ended : goal.returns-in-None-clause-ended
returns-in-None-clause-ended g c =
    let happened : HasStepped calls.Edit c.args.pass.now.process (Answered (Edit c.finish_edit.result)) = search rules in
    by_step (Edit c.finish_edit.result) refl c.in-None.ensures.begun happened
