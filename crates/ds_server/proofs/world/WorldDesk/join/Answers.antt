use Rattle.ds_server.specs.WorldDesks.{joins}
use Rattle.ds_server.proofs.world.WorldDesk.join.Goals as goal

pub returns-clause-does : goal.returns-clause-does
returns-clause-does c = let r = c.recovered.ensures.recovered in joins c.args.process r.answer c.recovered.result c.recovered.new.world r.whole r.tells
