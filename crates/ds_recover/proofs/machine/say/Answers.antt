use Rattle.std.proofs.Common.{◌≡◌, ap, ◌∙◌, sym, subst, refl, arith}
use Rattle.ds_state.specs.Works.{PlainRecoverCall}
use Rattle.ds_state.specs.RecoverStages.{IsStage}
use Rattle.ds_state.specs.declared.recovery.RecoverStage.{RecoverStage}
use Rattle.ds_state.specs.declared.recovery.RecoverStage.TheVariants.{StoreOutcome}
use Rattle.ds_state.specs.World.{announcement}
use Rattle.ds_state.specs.KnownRecovery.{phase_for}
use Rattle.ds_recover.specs.RecoverySteps.{number_of}
use Rattle.ds_recover.proofs.RecoveryReads.{staged}
use Rattle.ds_recover.proofs.RecoverySay.{said_announced}
use Rattle.ds_recover.proofs.machine.say.Goals as goal

pub invariant_of-call : goal.invariant_of-call
invariant_of-call c =
    let i = c.call.inside in
    let e : PlainRecoverCall = record { process = i.process; edition = i.edition; cells = i.cells; processes = i.processes; mark = i.mark; row = i.row; announcement = i.announcement; cell = i.cell; stage = i.stage } in
    let at : e.stage ≡ StoreOutcome c.args.counts = ap (λ (x : PlainRecoverCall). x.stage) c.call.view_is ∙ c.requires in
    let was : IsStage e (StoreOutcome c.args.counts) = subst (λ (s : RecoverStage). IsStage e s) at c.call.invariant.stage in
    let word : c.outcome-call-inside.result ≡ announcement (number_of e) (phase_for c.args.counts) = c.outcome-call-inside.ensures ∙ ap (λ (x : PlainRecoverCall). announcement (number_of x) (phase_for c.args.counts)) (sym c.call.view_is) in
    rw word
    (staged e _ c.call.invariant refl refl refl (said_announced (number_of e) c.args.counts (let n = was.0.few in let k = was.0.some in omega arith), was.1))
