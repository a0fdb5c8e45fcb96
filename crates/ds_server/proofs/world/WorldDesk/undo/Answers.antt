use Rattle.ds_server.specs.DeskCalls.{Undo}
use Rattle.ds_server.specs.Replies.{set_view}
use Rattle.ds_server.proofs.Runs.{does_runs}
use Rattle.ds_server.proofs.Worlds.{stays_seated}
use Rattle.ds_server.proofs.world.WorldDesk.undo.Goals as goal

pub returns-clause-sits : goal.returns-clause-sits
returns-clause-sits c =
    stays_seated c.args.process c.args.self.now c.undone.new.world (does_runs c.args.self.now c.undone.new.world (Undo c.args.process c.args.cell) (set_view c.undone.result) c.undone.ensures.does) c.undone.ensures.free c.requires.sits
