-- The cell that a recovery's answer reports stands on both sides of its record's header.
use Rattle.std.proofs.Common.{◌≡◌, ◌<◌, ap, sym, ◌∙◌, subst, arith, inl, Some, None}
use Rattle.std.specs.Prelude.{Bool, Option}
use Rattle.ds_layout.specs.declared.header.Header.{Header}
use Rattle.ds_layout.specs.declared.place.Place.TheVariants as place
use Rattle.ds_state.specs.CallsFit.{RecoveryFits}
use Rattle.ds_state.specs.Headers.{SaysCell, HasCell}
use Rattle.ds_state.specs.KnownRecovery.{IsHeadersCell, Tells, phase_for}
use Rattle.ds_state.specs.Sound.{IsSound}
use Rattle.ds_state.specs.Works.{PlainRecoverCall}
use Rattle.ds_state.specs.World.{PlainWorld}
use Rattle.ds_state.specs.declared.recovery.RecoverStage.TheVariants.{Answer}
use Rattle.ds_state.specs.declared.situation.Situation.TheVariants.{Recovering}
use Rattle.ds_state.proofs.Saying.{announced_number}
use Rattle.ds_recover.specs.RecoverySteps.{at, number_of, end_of, NamesCell}
use Rattle.ds_recover.proofs.RecoveryLaws.{fits_of}

same_header : (a b : Header) → Some a ≡ Some b → a ≡ b
same_header a b is = cc

names_by : (e : PlainRecoverCall) (how : Option Bool) (w : PlainWorld) → IsSound w → RecoveryFits w e.process (at e (Answer how)) → NamesCell w e.process (end_of e how)
names_by e None w sound fits = tt
names_by e (Some how) w sound fits =
    let read : IsHeadersCell w e.process e.announcement e.cell = fits.resolved.3 in
    let tells : Tells e.announcement how = fits.resolved.2 in
    let there = fits.resolved.0 in
    let is = tells.is in
    let said = announced_number tells.number (phase_for how) in
    let both : HasCell w e.process (number_of e) = sound.headers e.process (number_of e) (inl (omega (arith, there, is, said))) in
    let one : both.cell ≡ e.cell = sym both.cached.of_cell ∙ ap (λ (h : Header). h.cell) (same_header both.cached.header read.header (sym both.cached.is ∙ read.is)) ∙ read.of_cell in
    (read, subst (λ c. SaysCell w.layout c (w.memory.persisted (place.Header e.process (number_of e)))) one both.persisted)

-- a recovery's answer names the cell that both sides of its record's header say
pub names_cell : (e : PlainRecoverCall) (how : Option Bool) (w : PlainWorld) → IsSound w → e.process < w.layout.processes → w.situation e.process ≡ Recovering e → e.stage ≡ Answer how → NamesCell w e.process (end_of e how)
names_cell e how w sound real was last = names_by e how w sound (fits_of (at e (Answer how)) w sound real (was ∙ ap (λ s. Recovering (at e s)) last))
