use Rattle.ds_core.specs.declared.reply.Reply.TheVariants.{Answered}
use Rattle.ds_script.specs.ScriptTexts.{reply_text}
use Rattle.ds_script.proofs.Turning.{answered, ends_with}
use Rattle.ds_script.proofs.turn.after_answer.Goals as goal

pub returns-in-OneStep : goal.returns-in-OneStep
returns-in-OneStep c = record { remains = answered c.args.world.now c.args.process c.args.until c.args.answer c.in-OneStep.is; within = tt }

pub returns-in_default : goal.returns-in_default
returns-in_default c = record { remains = (reply_text c.args.world.now c.args.process (Answered c.args.answer), ends_with c.args.world.now c.args.process c.args.until c.args.answer c.in_default.not-Work); within = tt }
