use Rattle.std.proofs.Common.{refl}
use Rattle.ds_state.specs.declared.answer.Answer.TheVariants.{Recovery}
use Rattle.ds_crew.specs.Kept.{by_step}
use Rattle.ds_crew.proofs.locked.LockedSheet.recover_as.Goals as goal

pub returns-in-None-clause-ended : goal.returns-in-None-clause-ended
returns-in-None-clause-ended g c = by_step (Recovery c.finish_recovery.result) refl c.in-None.ensures.begun c.finish_recovery.ensures.happened
