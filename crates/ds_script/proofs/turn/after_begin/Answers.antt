use Rattle.ds_script.specs.ScriptTexts.{reply_text}
use Rattle.ds_script.proofs.Calling.{refused_by}
use Rattle.ds_script.proofs.turn.after_begin.Goals as goal

pub returns-in_default : goal.returns-in_default
returns-in_default c = record {
  remains = λ w.
      (reply_text w c.args.process c.args.reply, refused_by w c.args.process c.args.until c.args.reply c.in_default.not-Begun c.in_default.not-Entered);
  same = tt;
}
