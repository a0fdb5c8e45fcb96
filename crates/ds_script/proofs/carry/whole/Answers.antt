use Rattle.std.proofs.Common.{ℕ, List, refl}
use Rattle.ds_core.specs.declared.reply.Reply.TheVariants.{Answered}
use Rattle.ds_script.specs.declared.drive.Until.TheVariants.{ToAnswer}
use Rattle.ds_script.specs.Orders.{beginning}
use Rattle.ds_script.specs.Doing.{Calls, Says}
use Rattle.ds_script.specs.ScriptTexts.{reply_text}
use Rattle.ds_script.specs.Plays.{Played}
use Rattle.ds_script.proofs.Played.{answered, one}
use Rattle.ds_script.proofs.Calling.{begun_by, has_begun, refused_by}
use Rattle.ds_script.proofs.Settles.{starts, call_leads}
use Rattle.ds_script.proofs.carry.whole.Goals as goal

pub finish-answer-requires : goal.finish-answer-requires
finish-answer-requires c = starts c.args.world.now c.begins.new.world c.args.process c.args.call c.begins.result c.begins.ensures (has_begun c.begins.result c.in-Begun.is)

pub returns-in-Begun : goal.returns-in-Begun
returns-in-Begun c =
    answered c.reply_bytes.result (reply_text c.finish-answer.new.world c.args.process (Answered c.finish-answer.result))
    (λ (t : List ℕ). Played (Calls c.args.process (beginning c.args.process c.args.call)) c.args.world.now t c.finish-answer.new.world) c.reply_bytes.ensures
    (call_leads c.args.world.now c.begins.new.world c.finish-answer.new.world c.args.process (beginning c.args.process c.args.call) c.begins.result c.finish-answer.result c.begins.ensures
    (begun_by c.begins.new.world c.args.process ToAnswer c.begins.result c.in-Begun.is) c.finish-answer.ensures.finishes)

pub returns-in_default : goal.returns-in_default
returns-in_default c =
    answered c.reply_bytes-in_default.result (reply_text c.begins.new.world c.args.process c.begins.result)
    (λ (t : List ℕ). Played (Calls c.args.process (beginning c.args.process c.args.call)) c.args.world.now t c.begins.new.world) c.reply_bytes-in_default.ensures
    (one (Calls c.args.process (beginning c.args.process c.args.call)) (Says (reply_text c.begins.new.world c.args.process c.begins.result)) c.args.world.now c.begins.new.world (beginning c.args.process c.args.call) c.begins.result refl c.begins.ensures
    (refused_by c.begins.new.world c.args.process ToAnswer c.begins.result c.in_default.not-Begun c.in_default.not-Entered))
