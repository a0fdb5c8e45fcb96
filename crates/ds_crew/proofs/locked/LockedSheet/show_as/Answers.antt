use Rattle.std.proofs.Common.{refl, rules}
use Rattle.ds_state.specs.declared.answer.Answer.TheVariants.{Show}
use Rattle.ds_core.specs.declared.reply.Reply.TheVariants.{Answered}
use Rattle.ds_crew.specs.Kept.{HasStepped, by_step}
use Rattle.ds_crew.specs.declared.steps.Call.TheVariants as calls
use Rattle.ds_crew.proofs.locked.LockedSheet.show_as.Goals as goal

pub returns-in-None-clause-ended : goal.returns-in-None-clause-ended
returns-in-None-clause-ended g c =
    let happened : HasStepped calls.Show c.args.pass.now.process (Answered (Show c.finish_show.result)) = search rules in
    by_step (Show c.finish_show.result) refl c.in-None.ensures.begun happened
