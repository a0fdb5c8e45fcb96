use Rattle.std.proofs.Common.{◌≡◌, ◌<◌, ap, sym, subst}
use Rattle.ds_layout.specs.Places.{cells_of}
use Rattle.ds_state.specs.Works.{PlainRecoverCall}
use Rattle.ds_state.specs.Value.{WorldValue, world_of}
use Rattle.ds_recover.specs.RecoverySteps.{fresh}
use Rattle.ds_state.specs.LayoutsFit.{NoneMoves}
use Rattle.ds_recover.specs.RecoverBegun.{MayRecover}
use Rattle.ds_recover.proofs.RecoveryBegins.{entered_kept}
use Rattle.ds_recover.proofs.begin.enter.Goals as goal

pub invariant_of-world : goal.invariant_of-world
invariant_of-world c =
    let v : WorldValue = record { sheet = c.world.inside.words; situations = c.world.inside.situations.items; counted = c.world.inside.counted.items; open_edits = c.world.inside.open_edits.items; done = c.world.inside.done; settled = c.world.inside.settled; reports = c.world.inside.reports } in
    let e : PlainRecoverCall = c.args.call in
    let process : c.call.inside.process ≡ e.process = ap (λ (x : PlainRecoverCall). x.process) c.call.view_is in
    let low : e.process < v.sheet.layout.processes = subst (λ (x : WorldValue). e.process < x.sheet.layout.processes) (sym c.world.view_is) c.requires.process in
    let may : MayRecover ((world_of v).situation e.process) = subst (λ (x : WorldValue). MayRecover ((world_of x).situation e.process)) (sym c.world.view_is) c.requires.free in
    let alone : NoneMoves (world_of v) e.process = subst (λ (x : WorldValue). NoneMoves (world_of x) e.process) (sym c.world.view_is) c.requires.alone in
    let first : e ≡ fresh e.process (cells_of v.sheet.layout) v.sheet.layout.processes = subst (λ (x : WorldValue). e ≡ fresh e.process (cells_of x.sheet.layout) x.sheet.layout.processes) (sym c.world.view_is) c.requires.first in
    rw (c.put.ensures.items, process) (entered_kept v e _ c.world.invariant low may alone first)
