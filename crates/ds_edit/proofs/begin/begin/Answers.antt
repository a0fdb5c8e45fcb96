use Rattle.std.proofs.Common.{◌<◌, sym, subst}
use Rattle.std.specs.Prelude.{IfErr}
use Rattle.ds_state.specs.Value.{WorldValue, world_of}
use Rattle.ds_state.specs.declared.refusal.Refusal.{Refusal}
use Rattle.ds_edit.specs.Begun.{Refuses}
use Rattle.ds_edit.proofs.Beginning.{situation_at, refuses_of, handed_on}
use Rattle.ds_edit.proofs.begin.begin.Goals as goal

pub returns-in_err-next-clause-refused : goal.returns-in_err-next-clause-refused
returns-in_err-next-clause-refused c =
    let v : WorldValue = record { sheet = c.world.inside.words; situations = c.world.inside.situations.items; counted = c.world.inside.counted.items; open_edits = c.world.inside.open_edits.items; done = c.world.inside.done; settled = c.world.inside.settled; reports = c.world.inside.reports } in
    let low : c.args.process < v.sheet.layout.processes = subst (λ (x : WorldValue). c.args.process < x.sheet.layout.processes) (sym c.world.view_is) c.requires.process in
    let at = situation_at v c.args.process c.index.result.now c.world.invariant.good low c.index.ensures in
    let refuses : Refuses (world_of v) c.args.process c.args.text.now c.in_err-next.field-0.0 = refuses_of (world_of v) c.args.process c.args.text.now c.index.result.now c.in_err-next.field-0.0 at c.in_err-next.ensures in
    subst (λ (x : WorldValue). IfErr c.from_residual.result (λ r. Refuses (world_of x) c.args.process c.args.text.now r)) c.world.view_is
    (handed_on c.from_residual.result c.in_err-next.field-0.0 (λ (r : Refusal). Refuses (world_of v) c.args.process c.args.text.now r) c.from_residual.ensures.1 refuses)
