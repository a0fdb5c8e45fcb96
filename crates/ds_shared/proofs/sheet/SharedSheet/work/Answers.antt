use Rattle.std.proofs.Common.{◌≡◌, ◌∙◌, arith, refl, sym, ap, subst, ℕ}
use Rattle.pm_board.specs.Views.{Sits, deeds_at}
use Rattle.ds_state.specs.declared.situation.Situation.TheVariants.{Idle}
use Rattle.ds_structure.specs.Calls.{second_rest}
use Rattle.ds_formula.specs.Cells.{index_of}
use Rattle.ds_state.specs.declared.situation.Rest.{Rest}
use Rattle.ds_work.specs.WorkTakes.{IsAskedFor}
use Rattle.ds_shared.proofs.Passing.{done_still, known_idle, work_few, work_grows, work_off, work_answers, work_steps}
use Rattle.ds_shared.proofs.sheet.SharedSheet.work.Goals as goal

pub returns-clause-stopped : goal.returns-clause-stopped
returns-clause-stopped g c =
    let b = c.in-None.ensures.ended in (
      c.in-Ok.call,
      subst (λ (r : Rest). IsAskedFor c.args.self.now.board.layout c.args.pass.now.process r (index_of c.args.self.now.board.layout.shape c.args.cell) c.in-Ok.call) c.rest.ensures c.in-Ok.ensures,
      work_off c.args.self.now.board.layout c.in-Ok.call c.args.pass.now _ b.0 c.in-Ok.ensures.first c.in-Ok.ensures.process_is refl b.2,
    )

pub returns-in-Some-clause-answered : goal.returns-in-Some-clause-answered
returns-in-Some-clause-answered g c =
    let m = c.in-Some.ensures.ended in
    let asked = c.in-Ok.ensures in
    work_answers c.args.self.now.board.layout c.args.cell c.args.pass.now _ c.in-Ok.call c.work.new.call c.in-Some.end m.0 m.2 c.in-Some.ensures.same asked.first asked.process_is
    (ap (λ (r : Rest). r.number) asked.next_is ∙ ap (λ (r : Rest). r.number) c.rest.ensures) asked.cell_is c.requires.cell

pub work-requires-clause-sits : goal.work-requires-clause-sits
work-requires-clause-sits g c =
    let p = c.args.pass.now in
    let asked = c.in-Ok.ensures in
    let process : c.in-Ok.call.process ≡ p.process = asked.process_is in
    let number : c.in-Ok.call.next ≡ p.number = ap (λ (r : Rest). r.number) asked.next_is ∙ ap (λ (r : Rest). r.number) c.rest.ensures in
    subst (λ (z : ℕ × ℕ). Sits p.place.me z.0 (Idle (second_rest z.1))) (λ i. (sym process i, sym number i)) (known_idle p.place p.process p.number p.stopped c.if-pass.false p.known)

pub returns-clause-steps : goal.returns-clause-steps
returns-clause-steps g c =
    let b = c.in-None.ensures.ended in
    record { taken = b.0; steps = (work_steps c.args.self.now.board.layout c.in-Ok.call c.args.pass.now.place.me _ b.0 b.2).0; asked = b.1 }

pub returns-clause-few : goal.returns-clause-few
returns-clause-few g c =
    let b = c.in-None.ensures.ended in
    let steps = work_steps c.args.self.now.board.layout c.in-Ok.call c.args.pass.now.place.me _ b.0 b.2 in
    let taken = steps.0 in
    let few = steps.1 in
    let most = work_few c.args.self.now.board.layout c.in-Ok.call c.in-Ok.ensures.cells c.in-Ok.ensures.first in
    omega (arith, taken, few, most)

pub returns-clause-kept : goal.returns-clause-kept
returns-clause-kept g c = λ t here. work_grows c.args.self.now.board.layout c.in-Ok.call c.args.pass.now.place.me _ c.in-None.ensures.ended.0 t c.in-None.ensures.ended.2 here

pub returns-in-Some-clause-kept : goal.returns-in-Some-clause-kept
returns-in-Some-clause-kept g c = λ t here.
    let grows = c.in-Some.ensures.ended.2.did.grows in
    done_still c.in-Ok.call.process grows.late (deeds_at c.args.pass.now.place.me).done _ t grows.done here
