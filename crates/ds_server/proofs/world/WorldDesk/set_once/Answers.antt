use Rattle.ds_server.specs.WorldDesks.{sets_no_key}
use Rattle.ds_server.proofs.world.WorldDesk.set_once.Goals as goal

pub returns-clause-does : goal.returns-clause-does
returns-clause-does c = sets_no_key c.args._process c.args._cell c.args._text.now c.args._key.now
