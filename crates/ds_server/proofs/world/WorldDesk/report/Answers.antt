use Rattle.ds_server.specs.WorldDesks.{snapshots}
use Rattle.ds_server.proofs.Runs.{snapshot_runs}
use Rattle.ds_server.proofs.Worlds.{stays_seated}
use Rattle.ds_server.proofs.world.WorldDesk.report.Goals as goal

pub returns-clause-does : goal.returns-clause-does
returns-clause-does c = snapshots c.args.process c.settled.result c.settled.new.world c.settled.ensures.takes

pub returns-clause-sits : goal.returns-clause-sits
returns-clause-sits c =
    stays_seated c.args.process c.args.self.now c.settled.new.world (snapshot_runs c.args.process c.args.self.now c.settled.new.world c.settled.result c.settled.ensures.takes) c.settled.ensures.free c.requires
