use Rattle.std.proofs.Common.{◌<◌, Err, sym, subst}
use Rattle.ds_layout.specs.declared.layout.Layout.{Layout}
use Rattle.ds_calls.specs.declared.settle.SettleEnd.TheVariants.{Left}
use Rattle.ds_calls.specs.declared.settle.SettleStage.TheVariants.{Ends}
use Rattle.ds_calls.proofs.Runs.{settling_runs, run_keeps_layout}
use Rattle.ds_server.specs.declared.desk.CallRefusal.{CallRefusal}
use Rattle.ds_server.specs.WorldDesks.{TakesSnapshot, reports, is_refused, lacks}
use Rattle.ds_server.proofs.world.settled.Goals as goal

pub reported-requires : goal.reported-requires
reported-requires c =
    subst (λ (l : Layout). c.args.process < l.processes)
    (sym (run_keeps_layout c.args.world.now c.settle.new.world (settling_runs c.args.process c.args.world.now (Ends (Left c.in-Left.field-0)) c.settle.new.world c.in-Left.ensures.settles))) c.requires

pub returns-in-Left-clause-takes : goal.returns-in-Left-clause-takes
returns-in-Left-clause-takes c =
    let r = c.reported.ensures.reported in
    reports c.in-Left.field-0 c.settle.new.world c.reported.new.world r.answer c.reported.result c.in-Left.ensures.settles r.whole r.tells

pub returns-in-Refused-clause-takes : goal.returns-in-Refused-clause-takes
returns-in-Refused-clause-takes c =
    subst (λ (x : CallRefusal). TakesSnapshot c.args.process c.args.world.now (Err x) c.settle.new.world) (sym c.from.ensures)
    (is_refused c.in-Refused.refusal c.settle.new.world c.in-Refused.ensures.settles)

pub returns-in-NoMemory-clause-takes : goal.returns-in-NoMemory-clause-takes
returns-in-NoMemory-clause-takes c = lacks c.settle.new.world c.in-NoMemory.ensures.settles
