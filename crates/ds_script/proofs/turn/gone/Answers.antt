use Rattle.ds_script.specs.ScriptTexts.{reply_text}
use Rattle.ds_script.proofs.InOrder.{other_reply}
use Rattle.ds_script.proofs.turn.gone.Goals as goal

pub returns-in_default-clause-remains : goal.returns-in_default-clause-remains
returns-in_default-clause-remains c =
    (reply_text c.args.world.now c.args.process c.args.reply, other_reply c.args.world.now c.args.process c.args.rest.items c.args.reply c.in_default.not-Stepped c.in_default.not-Answered)
