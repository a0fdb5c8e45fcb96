-- An edit that a recovery reports as not done is never linearized.
use Rattle.std.proofs.Common.{ℕ, ◌≡◌, ◌<◌, List, refl, ap, sym, ◌∙◌, subst, arith, Bool, true, false, Some, None}
use Rattle.ds_state.specs.declared.turn.Turn.{Turn}
use Rattle.ds_state.specs.declared.migration.MigrateEnd.{MigrateEnd}
use Rattle.ds_state.specs.declared.show.ShowEnd.{ShowEnd}
use Rattle.std.specs.Prelude.{Option, Contains}
use Rattle.ds_words.specs.Memory.{SameMemory}
use Rattle.ds_layout.specs.declared.announcement.Phase.TheVariants as phase
use Rattle.ds_layout.specs.declared.place.Place.TheVariants.{Announce}
use Rattle.ds_layout.specs.SheetMemory.{PerformsAt}
use Rattle.ds_state.specs.World.{PlainEdit, phase_among}
use Rattle.ds_state.specs.Works.{PlainRecoverCall}
use Rattle.ds_state.specs.CallsFit.{RecoveryFits}
use Rattle.ds_state.specs.KnownRecovery.{ResolvedFits, resolved_at, over}
use Rattle.ds_state.specs.Sound.{IsSound}
use Rattle.ds_state.specs.Spent.{IsSpent}
use Rattle.ds_state.specs.Value.{WorldValue, world_of}
use Rattle.ds_state.specs.declared.situation.Situation.TheVariants.{Recovering}
use Rattle.ds_state.specs.declared.stage.Outcome.{Outcome}
use Rattle.ds_state.specs.declared.stage.Outcome.TheVariants as outcome
use Rattle.ds_state.specs.declared.recovery.RecoverStage.{RecoverStage}
use Rattle.ds_state.specs.declared.recovery.RecoverStage.TheVariants as stages
use Rattle.ds_state.specs.EditEndings.{end_of as end_by, outcome_at}
use Rattle.ds_state.specs.declared.recovery.LastEdit.{LastEdit}
use Rattle.ds_state.specs.declared.answer.Answer.TheVariants.{Edit, Recovery}
use Rattle.ds_state.specs.declared.recovery.RecoveryEnd.TheVariants.{Last}
use Rattle.ds_state.specs.declared.turn.Turn.TheVariants as turns
use Rattle.ds_state.specs.declared.work.WorkEnd.{WorkEnd}
use Rattle.ds_recover.specs.RecoverySteps.{number_of, end_of, access_at}
use Rattle.ds_recover.proofs.RecoveryLaws.{fits_of, repeated}
use Rattle.ds_core.specs.MigrationEvents.{migration_reply}
use Rattle.ds_core.specs.RecoveryEvents.{recovery_reply, RecoveryStepsBy}
use Rattle.ds_core.specs.ShowEvents.{show_reply}
use Rattle.ds_core.specs.WorkEvents.{work_reply}
use Rattle.ds_core.specs.SpentNumbers.{IsOut}
use Rattle.ds_core.specs.StepEvents.{edits, works, reports, recoveries, migrations}
use Rattle.ds_core.specs.Takes.{Takes, WorldRun}
use Rattle.ds_core.specs.declared.event.Event.{Event}
use Rattle.ds_core.specs.declared.event.Event.TheVariants.{Step}
use Rattle.ds_core.specs.declared.reply.Reply.{Reply}
use Rattle.ds_core.specs.declared.reply.Reply.TheVariants.{Answered}
use Rattle.ds_core.proofs.Replied.{replied}
use Rattle.ds_core.proofs.Resolved.{at_answer, counted_done}
use Rattle.ds_core.proofs.Solo.{some_outcome}
use Rattle.ds_core.proofs.Spent.{stays_out}
use Rattle.ds_core.proofs.Turns.{recovery_turn}

edit_not_last : (processes number : ℕ) (told : LastEdit) (how : Outcome) → Recovery (Last told) ≡ Edit (end_by processes number how) → ⊥
edit_not_last processes number told outcome.Done is = absurd (cc)
edit_not_last processes number told (outcome.Overtaken noted seen) is = absurd (cc)

show_not_last : (what : Turn ShowEnd) (told : LastEdit) → Answered (Recovery (Last told)) ≡ show_reply what → ⊥
show_not_last turns.GoesOn told is = absurd (cc)
show_not_last (turns.Answers end) told is = absurd (cc)

work_not_last : (what : Turn WorkEnd) (told : LastEdit) → Answered (Recovery (Last told)) ≡ work_reply what → ⊥
work_not_last turns.GoesOn told is = absurd (cc)
work_not_last (turns.Answers end) told is = absurd (cc)

-- how a recovery ended that says so
told_how : (e : PlainRecoverCall) (how : Option Bool) (told : LastEdit) → Recovery (Last told) ≡ Recovery (end_of e how) → told.counts ≡ false → (how ≡ Some false) × (told.number ≡ number_of e)
told_how e None told is not = absurd (cc)
told_how e (Some true) told is not = absurd (let same : told ≡ record { number = number_of e; cell = e.cell; counts = true } = cc in let bad : false ≡ true = sym not ∙ ap (λ (t : LastEdit). t.counts) same in cc)
told_how e (Some false) told is not = (refl, (let same : told ≡ record { number = number_of e; cell = e.cell; counts = false } = cc in ap (λ (t : LastEdit). t.number) same))

pub resolved_out : (old mid : WorldValue) (p : ℕ) (told : LastEdit) → IsSound (world_of old) → RecoveryStepsBy old p (Answered (Recovery (Last told))) mid → told.counts ≡ false → IsSpent (world_of mid) p told.number × IsOut (world_of mid) p told.number
resolved_out old mid p told sound s not =
    let e : PlainRecoverCall = s.steps.recovery in
    let found = at_answer e e.stage (Recovery (Last told)) (s.is ∙ ap recovery_reply s.steps.is) in
    let how = told_how e found.how told found.is not in
    let at : e.stage ≡ stages.Answer (Some false) = found.at ∙ ap (λ x. stages.Answer x) how.0 in
    let low : e.process < old.sheet.layout.processes = rw s.steps.mine s.steps.there in
    let here : (world_of old).situation e.process ≡ Recovering e = ap (λ q. (world_of old).situation q) s.steps.mine ∙ s.steps.at in
    let fits : RecoveryFits (world_of old) e.process e = fits_of e (world_of old) sound low here in
    let r : ResolvedFits (world_of old) e.process e.announcement e.cell (over (Some false)) = subst (λ (x : RecoverStage). ResolvedFits (world_of old) e.process e.announcement e.cell (resolved_at x)) at fits.resolved in
    let same : SameMemory (world_of old).memory (world_of mid).memory = (subst (λ (x : RecoverStage). PerformsAt (access_at e x) e.process (world_of old).memory (world_of mid).memory s.steps.word) at s.steps.steps.memory).1 in
    let lost : phase_among old.counted e.process (number_of e) ≡ phase.NotDone = (repeated e (Some false) (world_of old) sound low here at).1 in
    let number : told.number ≡ number_of e = how.1 in
    let mine : e.process ≡ p = s.steps.mine in
    let persisted : (world_of mid).memory.persisted (Announce p) ≡ e.announcement = same.persisted (Announce p) ∙ ap (λ q. (world_of old).memory.persisted (Announce q)) (sym mine) ∙ r.1 in
    let word = r.2.is in (
      omega arith,
      (λ f there its is.
          let done = counted_done old.counted f (subst (λ (es : List PlainEdit). Contains es f) s.steps.steps.counted there) in
          let bad : phase.Done ≡ phase.NotDone = sym done ∙ ap (λ q. phase_among old.counted q f.number) (its ∙ sym mine) ∙ ap (λ n. phase_among old.counted e.process n) (is ∙ number) ∙ lost in
          cc),
    )

migration_not_last : (what : Turn MigrateEnd) (told : LastEdit) → Answered (Recovery (Last told)) ≡ migration_reply what → ⊥
migration_not_last turns.GoesOn told is = absurd (cc)
migration_not_last (turns.Answers end) told is = absurd (cc)

-- the number of an edit that a recovery reported as not done is spent, and no edit of it is ever linearized
pub told_not_done_never : (old mid new : WorldValue) (events : List Event) (replies : List Reply) (p : ℕ) (told : LastEdit) → IsSound (world_of old) → Takes old (Step p) (Answered (Recovery (Last told))) mid → told.counts ≡ false
    → WorldRun mid events replies new → IsSpent (world_of new) p told.number × IsOut (world_of new) p told.number
told_not_done_never old mid new events replies p told sound (recoveries s) not run =
    let o = resolved_out old mid p told sound s not in
    stays_out events replies mid new p told.number (recovery_turn old mid p (Answered (Recovery (Last told))) sound s).keeps.sound o.0 o.1 run
told_not_done_never old mid new events replies p told sound (edits s) not run = absurd (let found = some_outcome old.sheet.layout.processes s.steps.edit.number (Recovery (Last told)) (outcome_at s.steps.edit.stage) (replied old mid p (Answered (Recovery (Last told))) s) in edit_not_last old.sheet.layout.processes s.steps.edit.number told found.0 found.2)
told_not_done_never old mid new events replies p told sound (works s) not run = absurd (work_not_last s.what told s.is)
told_not_done_never old mid new events replies p told sound (migrations s) not run = absurd (migration_not_last s.what told s.is)
told_not_done_never old mid new events replies p told sound (reports s) not run = absurd (show_not_last s.what told s.is)
