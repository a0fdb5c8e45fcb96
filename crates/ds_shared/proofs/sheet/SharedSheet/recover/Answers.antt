use Rattle.std.proofs.Common.{◌≡◌, ◌≤◌, ◌∙◌, arith, refl, sym, ap, subst, ℕ}
use Rattle.ds_layout.specs.Places.{cells_of}
use Rattle.ds_layout.specs.declared.place.TheConstants.{RECORDS}
use Rattle.ds_recover.specs.RecoverySteps.{next_number}
use Rattle.ds_state.specs.RecoverStages.{IsStage}
use Rattle.ds_state.specs.declared.recovery.RecoveryEnd.{RecoveryEnd}
use Rattle.ds_state.specs.declared.situation.Situation.{Situation}
use Rattle.ds_state.specs.declared.situation.Situation.TheVariants.{Idle}
use Rattle.pm_board.specs.Views.{Sits}
use Rattle.ds_structure.specs.Calls.{recoveries, recovery_doing, second_rest}
use Rattle.ds_shared.specs.Answers.{number_after}
use Rattle.ds_state.specs.Works.{PlainRecoverCall}
use Rattle.ds_shared.proofs.Passing.{known_at, number_few, number_is, recover_few, recover_off, recover_answers, stops_steps}
use Rattle.ds_shared.proofs.sheet.SharedSheet.recover.Goals as goal

pub returns-in-None-clause-stopped : goal.returns-in-None-clause-stopped
returns-in-None-clause-stopped g c =
    let b = c.in-None.ensures.ended in (
      c.fresh-call.result,
      c.fresh-call.ensures,
      recover_off c.args.self.now.board.layout c.fresh-call.result c.args.pass.now _ _ b.0 (ap (λ (e : PlainRecoverCall). e.stage) c.fresh-call.ensures) (ap (λ (e : PlainRecoverCall). e.process) c.fresh-call.ensures) refl b.2,
    )

pub returns-in-Some-clause-answered : goal.returns-in-Some-clause-answered
returns-in-Some-clause-answered g c =
    let m = c.in-Some.ensures.ended in
    recover_answers c.args.self.now.board.layout c.args.pass.now _ c.fresh-call.result c.recover.new.call c.in-Some.end m.0 m.2 (ap (λ (e : PlainRecoverCall). e.stage) c.fresh-call.ensures) (ap (λ (e : PlainRecoverCall). e.process) c.fresh-call.ensures) c.in-Some.ensures.same

pub next_after-pass-requires : goal.next_after-pass-requires
next_after-pass-requires g c =
    let e = c.in-Some.ensures.ended.2.ends in
    let f = c.recover.new.call in
    let at = subst (IsStage f) e.1 c.in-Some.ensures.fits.is.stage in
    subst (λ (end : RecoveryEnd). number_after end ≤ RECORDS) (sym e.2) (number_few f e.0 at)

pub invariant_of-pass : goal.invariant_of-pass
invariant_of-pass g c =
    let ended = c.in-Some.ensures.ended.2 in
    let e = ended.ends in
    let f = c.recover.new.call in
    let at = subst (IsStage f) e.1 c.in-Some.ensures.fits.is.stage in
    let number : next_number f.announcement e.0 ≡ c.next_after-pass.result = sym (c.next_after-pass.ensures ∙ (ap number_after e.2 ∙ number_is f e.0 at)) in
    let few : number_after c.in-Some.end ≤ RECORDS = subst (λ (end : RecoveryEnd). number_after end ≤ RECORDS) (sym e.2) (number_few f e.0 at) in
    let doing : recovery_doing f f.stage ≡ Idle (second_rest c.next_after-pass.result) = ap (recovery_doing f) e.1 ∙ ap (λ (n : ℕ). Idle (second_rest n)) number in
    let process = ap (λ (z : PlainRecoverCall). z.process) c.fresh-call.ensures in
    record {
      few = subst (λ (n : ℕ). n ≤ RECORDS) (sym c.next_after-pass.ensures) few;
      known = known_at c.recover.new.place c.args.pass.now.process c.next_after-pass.result (subst (λ (z : ℕ × Situation). Sits c.recover.new.place.me z.0 z.1) (λ i. (process i, doing i)) ended.sits);
    }

pub returns-in-None-clause-steps : goal.returns-in-None-clause-steps
returns-in-None-clause-steps g c =
    let b = c.in-None.ensures.ended in
    record { taken = b.0; steps = (stops_steps recoveries c.fresh-call.result c.args.pass.now.place.me _ _ b.0 b.2).0; asked = b.1 }

pub returns-in-None-clause-few : goal.returns-in-None-clause-few
returns-in-None-clause-few g c =
    let b = c.in-None.ensures.ended in
    let steps = stops_steps recoveries c.fresh-call.result c.args.pass.now.place.me _ _ b.0 b.2 in
    let taken = steps.0 in
    let few = steps.1 in
    let most = recover_few c.fresh-call.result c.args.pass.now.process (cells_of c.args.self.now.board.layout) c.args.self.now.board.layout.processes c.fresh-call.ensures in
    omega (arith, taken, few, most)
