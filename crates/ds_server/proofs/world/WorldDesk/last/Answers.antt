use Rattle.ds_state.specs.declared.answer.Answer.TheVariants.{Recovery}
use Rattle.ds_core.specs.declared.event.Event.TheVariants.{BeginRecover}
use Rattle.ds_calls.proofs.Runs.{whole_runs}
use Rattle.ds_server.specs.WorldDesks.{tells}
use Rattle.ds_server.proofs.Worlds.{stays_seated}
use Rattle.ds_server.proofs.world.WorldDesk.last.Goals as goal

pub returns-clause-does : goal.returns-clause-does
returns-clause-does c = let r = c.recovered.ensures.recovered in tells c.args.process r.answer c.recovered.result c.recovered.new.world r.whole r.tells

pub returns-clause-sits : goal.returns-clause-sits
returns-clause-sits c =
    let r = c.recovered.ensures.recovered in
    stays_seated c.args.process c.args.self.now c.recovered.new.world (whole_runs _ Recovery c.args.process (BeginRecover c.args.process) c.args.self.now r.answer c.recovered.new.world r.whole) c.recovered.ensures.free c.requires
