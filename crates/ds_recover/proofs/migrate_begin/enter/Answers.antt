use Rattle.std.proofs.Common.{◌≡◌, ◌<◌, ap, sym, subst}
use Rattle.ds_state.specs.Works.{PlainMigrateCall}
use Rattle.ds_state.specs.Value.{WorldValue, world_of}
use Rattle.ds_recover.specs.MigrationSteps.{fresh}
use Rattle.ds_recover.specs.MigrationTakes.{AllStopped}
use Rattle.ds_recover.proofs.MigrationGood.{entered_kept}
use Rattle.ds_recover.proofs.migrate_begin.enter.Goals as goal

pub invariant_of-world : goal.invariant_of-world
invariant_of-world c =
    let v : WorldValue = record { sheet = c.world.inside.words; situations = c.world.inside.situations.items; counted = c.world.inside.counted.items; open_edits = c.world.inside.open_edits.items; done = c.world.inside.done; settled = c.world.inside.settled; reports = c.world.inside.reports } in
    let e : PlainMigrateCall = c.args.call in
    let process : c.call.inside.process ≡ e.process = ap (λ (x : PlainMigrateCall). x.process) c.call.view_is in
    let low : e.process < v.sheet.layout.processes = subst (λ (x : WorldValue). e.process < x.sheet.layout.processes) (sym c.world.view_is) c.requires.process in
    let stopped : AllStopped (world_of v) = subst (λ (x : WorldValue). AllStopped (world_of x)) (sym c.world.view_is) c.requires.stopped in
    let first : e ≡ fresh e.process v.sheet.layout.processes = subst (λ (x : WorldValue). e ≡ fresh e.process x.sheet.layout.processes) (sym c.world.view_is) c.requires.first in
    rw (c.put.ensures.items, process) (entered_kept v e _ c.world.invariant low stopped first)
