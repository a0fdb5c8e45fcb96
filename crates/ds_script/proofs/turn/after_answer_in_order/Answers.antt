use Rattle.ds_core.specs.declared.reply.Reply.TheVariants.{Answered}
use Rattle.ds_script.specs.ScriptTexts.{reply_text}
use Rattle.ds_script.proofs.InOrder.{other_answer}
use Rattle.ds_script.proofs.turn.after_answer_in_order.Goals as goal

pub returns-in_default-clause-remains : goal.returns-in_default-clause-remains
returns-in_default-clause-remains c =
    (reply_text c.args.world.now c.args.process (Answered c.args.answer), other_answer c.args.world.now c.args.process c.args.rest.items c.args.answer c.in_default.not-Work)
