use Rattle.ds_server.specs.WorldDesks.{lists}
use Rattle.ds_server.proofs.world.WorldDesk.history.Goals as goal

pub returns-clause-does : goal.returns-clause-does
returns-clause-does c = lists c.args.from c.args.most c.listing.result c.listing.ensures
