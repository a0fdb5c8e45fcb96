use Rattle.ds_script_json.proofs.Carrying.{driven}
use Rattle.ds_script_json.proofs.carry.run.Goals as goal

pub returns-clause-played : goal.returns-clause-played
returns-clause-played c =
    driven c.args.world.now c.drive.new.world c.args.process c.args.until c.drive.result c.halted.result c.requires c.drive.ensures (c.halted.ensures.text c.drive.new.world)

pub returns-clause-shows : goal.returns-clause-shows
returns-clause-shows c = c.halted.ensures.shows c.drive.new.world
