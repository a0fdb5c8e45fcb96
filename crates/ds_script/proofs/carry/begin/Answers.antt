use Rattle.std.proofs.Common.{ℕ, List, refl}
use Rattle.ds_script.specs.Orders.{beginning}
use Rattle.ds_script.specs.Doing.{Once, Says}
use Rattle.ds_script.specs.ScriptTexts.{reply_text}
use Rattle.ds_script.specs.Plays.{Played}
use Rattle.ds_script.proofs.Played.{answered, one}
use Rattle.ds_script.proofs.carry.begin.Goals as goal

pub returns : goal.returns
returns c =
    answered c.reply_bytes.result (reply_text c.begins-reply.new.world c.args.process c.begins-reply.result)
    (λ (t : List ℕ). Played (Once c.args.process (beginning c.args.process c.args.call)) c.args.world.now t c.begins-reply.new.world) c.reply_bytes.ensures
    (one (Once c.args.process (beginning c.args.process c.args.call)) (Says (reply_text c.begins-reply.new.world c.args.process c.begins-reply.result)) c.args.world.now c.begins-reply.new.world (beginning c.args.process c.args.call) c.begins-reply.result refl c.begins-reply.ensures refl)
