use Rattle.std.proofs.Common.{◌≡◌, ◌<◌, ap, sym, subst}
use Rattle.ds_formula.specs.Cells.{index_of}
use Rattle.ds_state.specs.Works.{PlainWorkCall}
use Rattle.ds_state.specs.Value.{WorldValue, world_of}
use Rattle.ds_state.specs.declared.situation.Situation.TheVariants.{Idle}
use Rattle.ds_work.specs.WorkTakes.{IsAskedFor}
use Rattle.ds_work.proofs.Driving.{begun_kept}
use Rattle.ds_work.proofs.begin.start.Goals as goal

pub invariant_of-world : goal.invariant_of-world
invariant_of-world c =
    let v : WorldValue = record { sheet = c.world.inside.words; situations = c.world.inside.situations.items; counted = c.world.inside.counted.items; open_edits = c.world.inside.open_edits.items; done = c.world.inside.done; settled = c.world.inside.settled; reports = c.world.inside.reports } in
    let e : PlainWorkCall = c.args.call in
    let process : c.call.inside.process ≡ e.process = ap (λ (x : PlainWorkCall). x.process) c.call.view_is in
    let asked : IsAskedFor v.sheet.layout e.process c.args.next (index_of v.sheet.layout.shape c.args.cell) e = subst (λ (x : WorldValue). IsAskedFor x.sheet.layout e.process c.args.next (index_of x.sheet.layout.shape c.args.cell) e) (sym c.world.view_is) c.requires.asked in
    let low : e.process < v.sheet.layout.processes = subst (λ (x : WorldValue). e.process < x.sheet.layout.processes) (sym c.world.view_is) c.requires.process in
    let idle : (world_of v).situation e.process ≡ Idle c.args.next = subst (λ (x : WorldValue). (world_of x).situation e.process ≡ Idle c.args.next) (sym c.world.view_is) c.requires.idle in
    rw (c.put.ensures.items, process) (begun_kept v e c.args.next _ c.world.invariant (index_of v.sheet.layout.shape c.args.cell) asked low idle)
