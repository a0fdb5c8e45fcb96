use Rattle.ds_server.specs.WorldDesks.{has_no_edit}
use Rattle.ds_server.proofs.Edits.{undo_holds}
use Rattle.ds_server.proofs.world.undone.Goals as goal

pub returns-in-Some-clause-does : goal.returns-in-Some-clause-does
returns-in-Some-clause-does c =
    undo_holds c.args.world.now c.edited.new.world c.args.process c.args.cell c.in-Some.text c.as_slice.result.now c.edited.result c.in-Some.ensures c.as_slice.ensures c.edited.ensures.edited

pub returns-in-None-clause-does : goal.returns-in-None-clause-does
returns-in-None-clause-does c = has_no_edit c.args.process c.args.cell c.in-None.ensures
