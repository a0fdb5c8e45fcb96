use Rattle.std.proofs.Common.{◌≡◌, ◌∙◌, arith, refl, sym, ap, subst, ℕ}
use Rattle.pm_board.specs.Views.{Sits}
use Rattle.ds_state.specs.declared.situation.Situation.TheVariants.{Idle}
use Rattle.ds_structure.specs.Calls.{second_rest, shows}
use Rattle.ds_layout.specs.Places.{cells_of}
use Rattle.ds_show.specs.ShowSteps.{fresh}
use Rattle.ds_state.specs.Works.{PlainShowCall}
use Rattle.ds_state.specs.declared.situation.Rest.{Rest}
use Rattle.ds_shared.proofs.Passing.{known_idle, show_few, show_off, show_answers, stops_grow, stops_steps}
use Rattle.ds_shared.proofs.sheet.SharedSheet.show.Goals as goal

pub returns-in-None-clause-stopped : goal.returns-in-None-clause-stopped
returns-in-None-clause-stopped g c =
    let b = c.in-None.ensures.ended in (
      refl,
      (
        c.in-Ok-fresh.call,
        c.in-Ok-fresh.ensures ∙ ap (λ (r : Rest). fresh c.args.pass.now.process r (cells_of c.args.self.now.board.layout) c.args.self.now.board.layout.processes) c.rest.ensures,
        show_off c.args.self.now.board.layout c.in-Ok-fresh.call c.args.pass.now _ _ b.0 (ap (λ (e : PlainShowCall). e.stage) c.in-Ok-fresh.ensures) (ap (λ (e : PlainShowCall). e.process) c.in-Ok-fresh.ensures) refl b.2,
      ),
    )

pub returns-in-Some-clause-answered : goal.returns-in-Some-clause-answered
returns-in-Some-clause-answered g c =
    let m = c.in-Some.ensures.ended in
    let own = ap (λ (e : PlainShowCall). e.process) c.in-Ok-fresh.ensures in (
      c.show.new.call,
      c.in-Some.ensures.same.0 ∙ own,
      show_answers c.args.self.now.board.layout c.args.pass.now _ c.in-Ok-fresh.call c.show.new.call c.in-Some.end m.0 m.2 (ap (λ (e : PlainShowCall). e.stage) c.in-Ok-fresh.ensures) own,
      c.read_off.ensures,
    )

pub show-requires-clause-sits : goal.show-requires-clause-sits
show-requires-clause-sits g c =
    let p = c.args.pass.now in
    let fresh_is = c.in-Ok-fresh.ensures in
    let process : c.in-Ok-fresh.call.process ≡ p.process = ap (λ (e : PlainShowCall). e.process) fresh_is in
    let number : c.in-Ok-fresh.call.next ≡ p.number = ap (λ (e : PlainShowCall). e.next) fresh_is ∙ ap (λ (r : Rest). r.number) c.rest.ensures in
    subst (λ (z : ℕ × ℕ). Sits p.place.me z.0 (Idle (second_rest z.1))) (λ i. (sym process i, sym number i)) (known_idle p.place p.process p.number p.stopped c.if-pass.false p.known)

pub read_off-requires-clause-room : goal.read_off-requires-clause-room
read_off-requires-clause-room g c =
    let cells : c.show.new.call.cells ≡ cells_of c.args.self.now.board.layout = sym c.in-Some.ensures.fits.cells ∙ ap cells_of c.args.self.now.board.same in
    let count = c.cells.ensures.value in
    let room = c.in-Ok.ensures.capacity in
    omega (arith, cells, count, room)

pub returns-in-None-clause-steps : goal.returns-in-None-clause-steps
returns-in-None-clause-steps g c =
    let b = c.in-None.ensures.ended in
    record { taken = b.0; steps = (stops_steps shows c.in-Ok-fresh.call c.args.pass.now.place.me _ _ b.0 b.2).0; asked = b.1 }

pub returns-in-None-clause-few : goal.returns-in-None-clause-few
returns-in-None-clause-few g c =
    let b = c.in-None.ensures.ended in
    let steps = stops_steps shows c.in-Ok-fresh.call c.args.pass.now.place.me _ _ b.0 b.2 in
    let taken = steps.0 in
    let few = steps.1 in
    let most = show_few c.in-Ok-fresh.call c.args.pass.now.process c.rest.result (cells_of c.args.self.now.board.layout) c.args.self.now.board.layout.processes c.in-Ok-fresh.ensures in
    omega (arith, taken, few, most)

pub returns-in-None-clause-kept : goal.returns-in-None-clause-kept
returns-in-None-clause-kept g c = λ t here. stops_grow shows c.in-Ok-fresh.call c.args.pass.now.place.me _ _ c.in-None.ensures.ended.0 t c.in-None.ensures.ended.2 here
