use Rattle.std.proofs.Common.{◌≡◌, ◌∙◌, arith, refl, sym, ap, subst, ℕ, List}
use Rattle.pm_board.specs.Views.{Sits}
use Rattle.ds_state.specs.declared.situation.Situation.TheVariants.{Idle}
use Rattle.ds_structure.specs.Calls.{edits, second_rest}
use Rattle.ds_edit.specs.Begun.{RefersTo}
use Rattle.ds_formula.specs.Cells.{index_of}
use Rattle.ds_state.specs.World.{PlainEdit}
use Rattle.ds_state.specs.declared.situation.Rest.{Rest}
use Rattle.ds_shared.proofs.Passing.{edit_off, edit_answers, edit_few, known_idle, stops_grow, stops_steps}
use Rattle.ds_shared.proofs.sheet.SharedSheet.edit.Goals as goal

pub returns-clause-stopped : goal.returns-clause-stopped
returns-clause-stopped g c =
    let asked = c.in-Ok.ensures.asked in
    let b = c.in-None.ensures.ended in (
      c.in-Ok.begun.0,
      record { is = asked.is; sheet = asked.sheet; edition = c.in-Ok.ensures.edition ∙ ap (λ (r : Rest). r.edition) c.rest.ensures; refs = asked.refs; only = subst (λ (z : List ℕ). RefersTo c.args.self.now.board.layout.shape z c.in-Ok.begun.0.refs) (sym (ap (λ (d : PlainEdit). d.text) asked.asked)) asked.only; first = c.in-Ok.ensures.first },
      asked.asked ∙ ap (λ (r : Rest). (let e : PlainEdit = record { process = c.args.pass.now.process; number = r.number; cell = index_of c.args.self.now.board.layout.shape c.args.cell; text = c.args.text.now } in e)) c.rest.ensures,
      edit_off c.args.self.now.board.layout c.in-Ok.begun.0 c.args.pass.now _ _ b.0 c.in-Ok.ensures.first (ap (λ (d : PlainEdit). d.process) asked.asked) refl b.2,
    )

pub returns-in-Some-clause-answered : goal.returns-in-Some-clause-answered
returns-in-Some-clause-answered g c =
    let asked = c.in-Ok.ensures.asked in
    let m = c.in-Some.ensures.ended in
    edit_answers c.args.self.now.board.layout c.args.cell c.args.text.now c.args.pass.now _ c.in-Ok.begun.0 c.edit.new.call c.in-Some.end m.0 m.2 c.in-Ok.ensures.first c.in-Some.ensures.same
    (asked.asked ∙ ap (λ (r : Rest). (let e : PlainEdit = record { process = c.args.pass.now.process; number = r.number; cell = index_of c.args.self.now.board.layout.shape c.args.cell; text = c.args.text.now } in e)) c.rest.ensures)
    (sym c.in-Some.ensures.fits.sheet.processes ∙ ap (λ l. l.processes) c.args.self.now.board.same) c.requires.cell

pub edit-requires-clause-sits : goal.edit-requires-clause-sits
edit-requires-clause-sits g c =
    let p = c.args.pass.now in
    let asked = c.in-Ok.ensures.asked.asked in
    let process : c.in-Ok.begun.0.process ≡ p.process = ap (λ (d : PlainEdit). d.process) asked in
    let number : c.in-Ok.begun.0.number ≡ p.number = ap (λ (d : PlainEdit). d.number) asked ∙ ap (λ (r : Rest). r.number) c.rest.ensures in
    subst (λ (z : ℕ × ℕ). Sits p.place.me z.0 (Idle (second_rest z.1))) (λ i. (sym process i, sym number i)) (known_idle p.place p.process p.number p.stopped c.if-pass.false p.known)

pub returns-clause-steps : goal.returns-clause-steps
returns-clause-steps g c =
    let b = c.in-None.ensures.ended in
    record { taken = b.0; steps = (stops_steps edits c.in-Ok.begun.0 c.args.pass.now.place.me _ _ b.0 b.2).0; asked = b.1 }

pub returns-clause-few : goal.returns-clause-few
returns-clause-few g c =
    let b = c.in-None.ensures.ended in
    let asked = c.in-Ok.ensures.asked in
    let steps = stops_steps edits c.in-Ok.begun.0 c.args.pass.now.place.me _ _ b.0 b.2 in
    let taken = steps.0 in
    let few = steps.1 in
    let most = edit_few c.in-Ok.begun.0 asked.is (c.in-Ok.ensures.edition ∙ ap (λ (r : Rest). r.edition) c.rest.ensures) c.in-Ok.ensures.first in
    (c.in-Ok.begun.0.refs, asked.only, (omega (arith, taken, few, most)))

pub returns-clause-kept : goal.returns-clause-kept
returns-clause-kept g c = λ t here. stops_grow edits c.in-Ok.begun.0 c.args.pass.now.place.me _ _ c.in-None.ensures.ended.0 t c.in-None.ensures.ended.2 here
