use Rattle.ds_server.specs.WorldDesks.{leaves}
use Rattle.ds_server.proofs.world.WorldDesk.leave.Goals as goal

pub returns : goal.returns
returns c = leaves c.args.process c.requires.free
