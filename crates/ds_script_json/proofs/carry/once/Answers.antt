use Rattle.std.proofs.Common.{refl}
use Rattle.ds_script.specs.Doing.{Once, Says}
use Rattle.ds_script.specs.ScriptTexts.{reply_text}
use Rattle.ds_script.proofs.Played.{one}
use Rattle.ds_script_json.proofs.carry.once.Goals as goal

pub returns-clause-played : goal.returns-clause-played
returns-clause-played c =
    one (Once c.args.process c.args.event.now) (Says (reply_text c.take.new.world c.args.process c.take.result)) c.args.world.now c.take.new.world c.args.event.now c.take.result refl c.take.ensures.fits refl
