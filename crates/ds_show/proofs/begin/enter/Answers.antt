use Rattle.std.proofs.Common.{◌≡◌, ◌<◌, ◌+◌, ap, sym, subst}
use Rattle.ds_layout.specs.Places.{cells_of}
use Rattle.ds_state.specs.Works.{PlainShowCall}
use Rattle.ds_state.specs.Underway.{shows_under_way}
use Rattle.ds_state.specs.Value.{WorldValue, world_of}
use Rattle.ds_state.specs.declared.reports.TheConstants.{SETTLED_MOST}
use Rattle.ds_state.specs.declared.situation.Situation.TheVariants.{Idle}
use Rattle.ds_show.specs.ShowSteps.{fresh, rest_of}
use Rattle.ds_show.proofs.ShowBegins.{entered_kept}
use Rattle.ds_show.proofs.begin.enter.Goals as goal

pub invariant_of-world : goal.invariant_of-world
invariant_of-world c =
    let v : WorldValue = record { sheet = c.world.inside.words; situations = c.world.inside.situations.items; counted = c.world.inside.counted.items; open_edits = c.world.inside.open_edits.items; done = c.world.inside.done; settled = c.world.inside.settled; reports = c.world.inside.reports } in
    let e : PlainShowCall = c.args.call in
    let process : c.call.inside.process ≡ e.process = ap (λ (x : PlainShowCall). x.process) c.call.view_is in
    let low : e.process < v.sheet.layout.processes = subst (λ (x : WorldValue). e.process < x.sheet.layout.processes) (sym c.world.view_is) c.requires.process in
    let idle : (world_of v).situation e.process ≡ Idle (rest_of e) = subst (λ (x : WorldValue). (world_of x).situation e.process ≡ Idle (rest_of e)) (sym c.world.view_is) c.requires.idle in
    let first : e ≡ fresh e.process (rest_of e) (cells_of v.sheet.layout) v.sheet.layout.processes = subst (λ (x : WorldValue). e ≡ fresh e.process (rest_of e) (cells_of x.sheet.layout) x.sheet.layout.processes) (sym c.world.view_is) c.requires.first in
    let counts : v.settled + shows_under_way v.situations < SETTLED_MOST = subst (λ (x : WorldValue). x.settled + shows_under_way x.situations < SETTLED_MOST) (sym c.world.view_is) c.requires.counts in
    rw (c.put.ensures.items, process) (entered_kept v e _ c.world.invariant low idle first counts)
