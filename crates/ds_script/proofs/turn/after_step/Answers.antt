use Rattle.std.proofs.Common.{ap}
use Rattle.ds_core.specs.declared.reply.Reply.TheVariants.{Stepped}
use Rattle.ds_script.specs.declared.drive.Until.{Until}
use Rattle.ds_script.specs.ScriptTexts.{reply_text}
use Rattle.ds_script.specs.Doing.{stepped}
use Rattle.ds_script.proofs.turn.after_step.Goals as goal

pub returns-in-OneStep-clause-remains : goal.returns-in-OneStep-clause-remains
returns-in-OneStep-clause-remains c =
    (reply_text c.args.world.now c.args.process Stepped, ap (λ (u : Until). stepped c.args.world.now c.args.process u) c.in-OneStep.is)
