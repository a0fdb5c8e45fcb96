use Rattle.ds_server.specs.WorldDesks.{has_no_keys}
use Rattle.ds_server.proofs.world.WorldDesk.resolve.Goals as goal

pub returns-clause-does : goal.returns-clause-does
returns-clause-does c = has_no_keys c.args._key.now
