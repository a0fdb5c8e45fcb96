use Rattle.ds_state.specs.declared.answer.Answer.TheVariants.{Edit}
use Rattle.ds_core.specs.declared.event.Event.TheVariants.{BeginEdit}
use Rattle.ds_calls.specs.Whole.{request}
use Rattle.ds_calls.proofs.Runs.{whole_runs}
use Rattle.ds_server.specs.WorldDesks.{sets}
use Rattle.ds_server.proofs.Worlds.{stays_seated}
use Rattle.ds_server.proofs.world.WorldDesk.set.Goals as goal

pub returns-clause-does : goal.returns-clause-does
returns-clause-does c = let r = c.edited.ensures.edited in sets c.args.process c.args.cell c.args.text.now r.answer c.edited.result c.edited.new.world r.whole r.tells

pub returns-clause-sits : goal.returns-clause-sits
returns-clause-sits c =
    let r = c.edited.ensures.edited in
    stays_seated c.args.process c.args.self.now c.edited.new.world (whole_runs _ Edit c.args.process (BeginEdit (request c.args.process c.args.cell c.args.text.now)) c.args.self.now r.answer c.edited.new.world r.whole) c.edited.ensures.free c.requires.sits
