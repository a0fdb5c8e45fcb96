use Rattle.std.specs.Prelude.{Option}
use Rattle.std.proofs.Common.{ℕ, ◌≡◌, arith, ap, sym, ◌∙◌, subst}
use Rattle.ds_state.specs.Edits.{PlainEditCall}
use Rattle.ds_state.specs.Value.{WorldValue}
use Rattle.ds_state.specs.declared.stage.Outcome.{Outcome}
use Rattle.ds_state.specs.declared.answer.EditEnd.{EditEnd}
use Rattle.ds_state.specs.declared.turn.Turn.{Turn}
use Rattle.ds_edit.specs.EditTakes.{IsEditing, StepsBy, turn_at, turn_with}
use Rattle.ds_edit.proofs.Driving.{editing_from, processes_are}
use Rattle.ds_edit.proofs.step.step.Goals as goal

pub edit_on-what-requires : goal.edit_on-what-requires
edit_on-what-requires c =
    let v : WorldValue = record { sheet = c.world.inside.words; situations = c.world.inside.situations.items; counted = c.world.inside.counted.items; open_edits = c.world.inside.open_edits.items; done = c.world.inside.done; settled = c.world.inside.settled; reports = c.world.inside.reports } in
    let p : ℕ = c.args.process in
    let e : PlainEditCall = c.in-Some.call.now in
    let here : IsEditing v p e = editing_from v p e c.index.result.now (omega arith) c.index.ensures c.in-Some.ensures.some in
    let at : IsEditing c.args.world.now p e = subst (λ (w : WorldValue). IsEditing w p e) c.world.view_is here in
    let stage : c.call.inside.stage ≡ e.stage = ap (λ (x : PlainEditCall). x.stage) c.call.view_is in
    (e, at, stage, c.want-access.ensures)

pub returns : goal.returns
returns c =
    let v : WorldValue = record { sheet = c.world.inside.words; situations = c.world.inside.situations.items; counted = c.world.inside.counted.items; open_edits = c.world.inside.open_edits.items; done = c.world.inside.done; settled = c.world.inside.settled; reports = c.world.inside.reports } in
    let p : ℕ = c.args.process in
    let e : PlainEditCall = c.in-Some.call.now in
    let here : IsEditing v p e = editing_from v p e c.index.result.now (omega arith) c.index.ensures c.in-Some.ensures.some in
    let at : IsEditing c.args.world.now p e = subst (λ (w : WorldValue). IsEditing w p e) c.world.view_is here in
    let stage : c.call.inside.stage ≡ e.stage = ap (λ (x : PlainEditCall). x.stage) c.call.view_is in
    let number : c.call.inside.number ≡ e.number = ap (λ (x : PlainEditCall). x.number) c.call.view_is in
    let processes : c.call.inside.processes ≡ c.args.world.now.sheet.layout.processes = ap (λ (x : PlainEditCall). x.processes) c.call.view_is ∙ processes_are v c.world.invariant.good p e here ∙ ap (λ (w : WorldValue). w.sheet.layout.processes) c.world.view_is in
    let turn : c.turn.result ≡ turn_at c.args.world.now.sheet.layout.processes e.number c.call.inside.stage = c.turn.ensures ∙ ap (λ (o : Option Outcome). turn_with c.call.inside.processes c.call.inside.number o) c.edit_on-what.ensures.outcome ∙ ap (λ (n : ℕ). turn_at n c.call.inside.number c.call.inside.stage) processes ∙ ap (λ (n : ℕ). turn_at c.args.world.now.sheet.layout.processes n c.call.inside.stage) number in
    subst (λ (x : Turn EditEnd). StepsBy c.args.world.now p x c.edit_on-what.new.world) (sym turn) (c.edit_on-what.ensures.takes e at)
