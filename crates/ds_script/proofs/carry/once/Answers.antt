use Rattle.std.proofs.Common.{ℕ, List, refl}
use Rattle.ds_script.specs.Doing.{Once, Says}
use Rattle.ds_script.specs.ScriptTexts.{reply_text}
use Rattle.ds_script.specs.Plays.{Played}
use Rattle.ds_script.proofs.Played.{answered, one}
use Rattle.ds_script.proofs.carry.once.Goals as goal

pub returns : goal.returns
returns c =
    answered c.reply_bytes.result (reply_text c.happen-reply.new.world c.args.process c.happen-reply.result)
    (λ (t : List ℕ). Played (Once c.args.process c.args.event.now) c.args.world.now t c.happen-reply.new.world) c.reply_bytes.ensures
    (one (Once c.args.process c.args.event.now) (Says (reply_text c.happen-reply.new.world c.args.process c.happen-reply.result)) c.args.world.now c.happen-reply.new.world c.args.event.now c.happen-reply.result refl c.happen-reply.ensures refl)
