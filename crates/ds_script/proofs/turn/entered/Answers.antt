use Rattle.ds_script.specs.ScriptTexts.{reply_text}
use Rattle.ds_script.proofs.InOrder.{not_entered}
use Rattle.ds_script.proofs.turn.entered.Goals as goal

pub returns-in_default : goal.returns-in_default
returns-in_default c = record {
  remains = λ w. (reply_text w c.args.process c.args.reply, not_entered w c.args.process c.args.rest.items c.args.reply c.in_default.not-Begun c.in_default.not-Entered);
  same = tt;
}
