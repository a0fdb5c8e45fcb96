use Rattle.ds_script.specs.ScriptTexts.{reply_text}
use Rattle.ds_script.proofs.Turning.{other_reply}
use Rattle.ds_script.proofs.turn.after_reply.Goals as goal

pub returns-in_default : goal.returns-in_default
returns-in_default c = record {
  remains = (reply_text c.args.world.now c.args.process c.args.reply, other_reply c.args.world.now c.args.process c.args.until c.args.reply c.in_default.not-Stepped c.in_default.not-Answered);
  within = tt;
}
