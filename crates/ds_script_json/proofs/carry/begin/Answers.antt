use Rattle.std.proofs.Common.{refl}
use Rattle.ds_script.specs.Orders.{beginning}
use Rattle.ds_script.specs.Doing.{Once, Says}
use Rattle.ds_script.specs.ScriptTexts.{reply_text}
use Rattle.ds_script.proofs.Played.{one}
use Rattle.ds_script_json.proofs.carry.begin.Goals as goal

pub returns-clause-played : goal.returns-clause-played
returns-clause-played c =
    one (Once c.args.process (beginning c.args.process c.args.call)) (Says (reply_text c.begins.new.world c.args.process c.begins.result)) c.args.world.now c.begins.new.world
    (beginning c.args.process c.args.call) c.begins.result refl c.begins.ensures refl
