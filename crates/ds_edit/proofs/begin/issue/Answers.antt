use Rattle.std.proofs.Common.{◌≡◌, length, ap, sym, subst, arith, vec_len}
use Rattle.ds_state.specs.Edits.{PlainEditCall, IsEdit}
use Rattle.ds_state.specs.CallsFit.{IsSheetOf, HasRefs}
use Rattle.ds_state.specs.Value.{WorldValue, world_of}
use Rattle.ds_edit.specs.Begun.{IsIdle}
use Rattle.ds_edit.specs.EditTakes.{rest_before}
use Rattle.ds_edit.proofs.Beginning.{issued_kept}
use Rattle.ds_edit.proofs.begin.issue.Goals as goal

pub invariant_of-world : goal.invariant_of-world
invariant_of-world c =
    let v : WorldValue = record { sheet = c.world.inside.words; situations = c.world.inside.situations.items; counted = c.world.inside.counted.items; open_edits = c.world.inside.open_edits.items; done = c.world.inside.done; settled = c.world.inside.settled; reports = c.world.inside.reports } in
    let e : PlainEditCall = c.args.call in
    let process : c.call.inside.process ≡ e.process = ap (λ (x : PlainEditCall). x.process) c.call.view_is in
    let long : vec_len c.world.inside.counted ≡ length v.counted = omega (arith, c.world.inside.counted.ok.0) in
    let sheet : IsSheetOf v.sheet.layout e = subst (λ (x : WorldValue). IsSheetOf x.sheet.layout e) (sym c.world.view_is) c.requires.sheet in
    let refs : HasRefs v.sheet.layout.shape e.text e.refs = subst (λ (x : WorldValue). HasRefs x.sheet.layout.shape e.text e.refs) (sym c.world.view_is) c.requires.refs in
    let idle : IsIdle (world_of v) e.process (rest_before e) = subst (λ (x : WorldValue). IsIdle (world_of x) e.process (rest_before e)) (sym c.world.view_is) c.requires.idle in
    rw (c.put.ensures.items, c.of-edit.ensures.value, c.len-since.ensures, process, long)
    (issued_kept v e _ c.world.invariant (subst (λ (x : PlainEditCall). IsEdit x) c.call.view_is c.call.invariant) sheet idle c.requires.first refs)
