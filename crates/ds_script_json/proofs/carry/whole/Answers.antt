use Rattle.std.proofs.Common.{refl}
use Rattle.ds_script.specs.declared.drive.Until.TheVariants.{ToAnswer}
use Rattle.ds_script.specs.Orders.{beginning}
use Rattle.ds_script.specs.Doing.{Calls, Says}
use Rattle.ds_script.specs.ScriptTexts.{reply_text}
use Rattle.ds_script.proofs.Played.{one}
use Rattle.ds_script.proofs.Calling.{begun_by, has_begun, refused_by}
use Rattle.ds_script.proofs.Settles.{starts, call_leads}
use Rattle.ds_script_json.proofs.carry.whole.Goals as goal

pub finish-answer-requires : goal.finish-answer-requires
finish-answer-requires c = starts c.args.world.now c.begins.new.world c.args.process c.args.call c.begins.result c.begins.ensures (has_begun c.begins.result c.in-Begun.is)

pub returns-in-Begun-clause-played : goal.returns-in-Begun-clause-played
returns-in-Begun-clause-played c =
    call_leads c.args.world.now c.begins.new.world c.finish-answer.new.world c.args.process (beginning c.args.process c.args.call) c.begins.result c.finish-answer.result c.begins.ensures
    (begun_by c.begins.new.world c.args.process ToAnswer c.begins.result c.in-Begun.is) c.finish-answer.ensures.finishes

pub returns-in_default-clause-played : goal.returns-in_default-clause-played
returns-in_default-clause-played c =
    one (Calls c.args.process (beginning c.args.process c.args.call)) (Says (reply_text c.begins.new.world c.args.process c.begins.result)) c.args.world.now c.begins.new.world (beginning c.args.process c.args.call) c.begins.result refl c.begins.ensures
    (refused_by c.begins.new.world c.args.process ToAnswer c.begins.result c.in_default.not-Begun c.in_default.not-Entered)
