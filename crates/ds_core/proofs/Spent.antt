-- An edit that was answered Overtaken is never linearized.
use Rattle.std.proofs.Common.{ℕ, ◌≡◌, ◌<◌, List, [], ◌∷◌, ◌++◌, refl, ap, sym, ◌∙◌, subst, arith, inl, inr, length}
use Rattle.ds_state.specs.declared.turn.Turn.{Turn}
use Rattle.ds_state.specs.declared.migration.MigrateEnd.{MigrateEnd}
use Rattle.ds_state.specs.declared.recovery.RecoveryEnd.{RecoveryEnd}
use Rattle.ds_state.specs.declared.show.ShowEnd.{ShowEnd}
use Rattle.std.specs.Prelude.{Contains}
use Rattle.std.proofs.lemmas.List.{append-nil}
use Rattle.std.proofs.lemmas.List.Elements.{All-contains, Contains-append_cases}
use Rattle.ds_state.specs.Edits.{text_parts}
use Rattle.ds_state.specs.World.{PlainEdit, edit_of}
use Rattle.ds_state.specs.Known.{AreBelow, Knowing, known_at}
use Rattle.ds_state.specs.Value.{WorldValue, world_of}
use Rattle.ds_state.specs.CallsFit.{CallFits, EditFits}
use Rattle.ds_state.specs.Sound.{IsSound}
use Rattle.ds_state.specs.declared.stage.Outcome.{Outcome}
use Rattle.ds_state.specs.declared.stage.Outcome.TheVariants as outcome
use Rattle.ds_state.specs.declared.stage.Stage.{Stage}
use Rattle.ds_state.specs.declared.stage.Stage.TheVariants.{Answer}
use Rattle.ds_state.specs.declared.situation.Situation.{Situation}
use Rattle.ds_state.specs.declared.situation.Situation.TheVariants.{Editing}
use Rattle.ds_edit.specs.EditTakes.{counted_at}
use Rattle.ds_state.specs.declared.turn.Turn.TheVariants as turns
use Rattle.ds_core.specs.MigrationEvents.{migration_reply}
use Rattle.ds_core.specs.EditEvents.{EditStepsBy}
use Rattle.ds_state.specs.EditEndings.{end_of, outcome_at}
use Rattle.ds_core.specs.Takes.{Takes, WorldRun}
use Rattle.ds_core.specs.SpentNumbers.{IsOut}
use Rattle.ds_core.proofs.Did.{Did, did, nothing, edit_begins, work_begins, show_begins, recovery_begins, migration_begins, steps, offers, evicts, stops, crashes}
use Rattle.ds_state.specs.Spent.{IsSpent}
use Rattle.ds_state.specs.Rely.{Keeps}
use Rattle.ds_state.proofs.Spent.{spent_grown, spent_stays, spent_evicted, spent_crashed, swap_unspent, answer_spent}
use Rattle.ds_state.proofs.Crashed.{was_counted}
use Rattle.ds_layout.specs.declared.place.Place.TheVariants.{Announce}
use Rattle.ds_edit.proofs.Sound.{step_sound}
use Rattle.ds_core.specs.declared.event.Event.{Event}
use Rattle.ds_core.specs.declared.event.Event.TheVariants.{Step}
use Rattle.ds_state.specs.declared.answer.Other.{Other}
use Rattle.ds_state.specs.declared.answer.Answer.TheVariants.{Edit}
use Rattle.ds_state.specs.declared.answer.EditEnd.TheVariants.{Overtaken}
use Rattle.ds_core.specs.declared.reply.Reply.{Reply}
use Rattle.ds_core.specs.declared.reply.Reply.TheVariants.{Answered}
use Rattle.ds_edit.proofs.Driving.{counted_cases, answers_at}
use Rattle.ds_core.proofs.Replied.{replied}
use Rattle.ds_core.proofs.Moves.{counts_at}
use Rattle.ds_core.specs.ShowEvents.{show_reply, ShowStepsBy}
use Rattle.ds_state.specs.declared.work.WorkEnd.{WorkEnd}
use Rattle.ds_core.specs.WorkEvents.{work_reply, WorkStepsBy}
use Rattle.ds_core.specs.RecoveryEvents.{recovery_reply, RecoveryStepsBy}
use Rattle.ds_core.specs.StepEvents.{edits, works, reports, recoveries, migrations}
use Rattle.ds_core.proofs.Turns.{IsTurn, LeavesEdits, edit_turn, show_turn, show_begins_turn, stop_turn, work_leaves, work_begins_leaves, offer_leaves, recovery_turn, recovery_begins_turn, migration_turn, migration_begins_turn}
use Rattle.ds_core.proofs.Solo.{some_outcome}
use Rattle.ds_state.proofs.Counting.{contains_one}

module _ (old new : WorldValue) (sound : IsSound (world_of old)) (p n : ℕ) (spent : IsSpent (world_of old) p n) (out : IsOut (world_of old) p n) where
  abbrev Stays : Type 0
  Stays = IsSpent (world_of new) p n × IsOut (world_of new) p n

  unchanged : new ≡ old → Stays
  unchanged same = subst (λ (v : WorldValue). IsSpent (world_of v) p n × IsOut (world_of v) p n) (sym same) (spent, out)

  same_list : new.counted ≡ old.counted → IsOut (world_of new) p n
  same_list counted = λ e there. out e (subst (λ (es : List PlainEdit). Contains es e) counted there)

  by_step : (q : ℕ) (reply : Reply) → EditStepsBy old q reply new → Stays
  by_step q reply h =
      let low : h.steps.edit.process < old.sheet.layout.processes = rw h.steps.mine h.steps.there in
      let here : (world_of old).situation h.steps.edit.process ≡ Editing h.steps.edit = ap (λ x. (world_of old).situation x) h.steps.mine ∙ h.steps.at in
      let kept : Keeps h.steps.edit.process (world_of old) (world_of new) = step_sound h.steps.edit h.steps.word (world_of old) (world_of new) sound low here h.steps.steps in
      let stays : IsOut (world_of new) p n = λ e there its is. elim (Contains-append_cases old.counted (counted_at (edit_of h.steps.edit) h.steps.edit.stage h.steps.word) e (subst (λ (es : List PlainEdit). Contains es e) h.steps.steps.counted there)) [
        | inl before ↦ out e before its is
        | inr now ↦ elim (counted_cases (edit_of h.steps.edit) h.steps.edit.stage h.steps.word) [
          | inl none ↦ (let c : Contains [] e = subst (λ (es : List PlainEdit). Contains es e) none now in let l = c.1 in omega arith)
          | inr one ↦ (
              let same : e ≡ edit_of h.steps.edit = contains_one (edit_of h.steps.edit) e (subst (λ (es : List PlainEdit). Contains es e) one now) in
              let swaps = counts_at (edit_of h.steps.edit) h.steps.edit.stage h.steps.word one in
              let mine : p ≡ h.steps.edit.process = sym its ∙ ap (λ (x : PlainEdit). x.process) same in
              let less : n < h.steps.edit.number = swap_unspent (world_of old) h.steps.edit sound low here swaps.0 n swaps.1 (subst (λ (x : ℕ). IsSpent (world_of old) x n) mine spent) in
              let k : e.number ≡ h.steps.edit.number = ap (λ (x : PlainEdit). x.number) same in
              omega arith)
        ]
      ] in
      (spent_stays h.steps.edit.process (world_of old) (world_of new) kept p n spent, stays)

  -- a process's turn that leaves the list
  by_turn : (q : ℕ) → IsTurn q old new → new.counted ≡ old.counted → Stays
  by_turn q t same = (spent_stays q (world_of old) (world_of new) t.keeps p n spent, same_list same)

  by_leaves : (q : ℕ) → LeavesEdits q old new → Stays
  by_leaves q l = by_turn q l.turn l.counted

  by_work : (q : ℕ) (reply : Reply) → WorkStepsBy old q reply new → Stays
  by_work q reply h = by_leaves q (work_leaves old new q reply sound h)

  by_recovery : (q : ℕ) (reply : Reply) → RecoveryStepsBy old q reply new → Stays
  by_recovery q reply h = by_turn q (recovery_turn old new q reply sound h) h.steps.steps.counted

  by_show : (q : ℕ) (reply : Reply) → ShowStepsBy old q reply new → Stays
  by_show q reply h = by_turn q (show_turn old new q reply sound h) h.steps.steps.counted

  by : (event : Event) (reply : Reply) → Did old new event reply → Stays
  by _ _ (nothing event reply none is same) = unchanged same
  by _ _ (edit_begins r number h) =
      let same = h.begun.begins.memory.persisted (Announce p) in
      (spent_grown (world_of old) (world_of new) p n (omega (arith, same)) spent, same_list h.begun.begins.counted)
  by _ _ (work_begins q cell h) = by_leaves q (work_begins_leaves old new q cell sound h)
  by _ _ (show_begins q h) = by_turn q (show_begins_turn old new q sound h) h.begun.begins.counted
  by _ _ (recovery_begins q h) = by_turn q (recovery_begins_turn old new q sound h) h.begun.begins.counted
  by _ _ (migration_begins q h) = by_turn q (migration_begins_turn old new q sound h) h.begun.counted
  by _ _ (steps q reply is (edits h)) = by_step q reply h
  by _ _ (steps q reply is (works h)) = by_work q reply h
  by _ _ (steps q reply is (reports h)) = by_show q reply h
  by _ _ (steps q reply is (recoveries h)) = by_recovery q reply h
  by _ _ (steps q reply is (migrations h)) = by_turn q (migration_turn old new q reply sound h) h.steps.steps.counted
  by _ _ (offers value h) = by_leaves value.task.process (offer_leaves old new value sound h)
  by _ _ (evicts word h) = (spent_evicted word (world_of old) (world_of new) sound h.evicts p n spent, same_list h.evicts.counted)
  by _ _ (stops q h) = by_turn q (stop_turn old new q sound h) h.stops.counted
  by _ _ (crashes h) = (spent_crashed (world_of old) (world_of new) h.crashes p n spent, λ e there. out e (was_counted (world_of old) (world_of new) sound h.crashes e there))

  pub one_event : (event : Event) (reply : Reply) → Takes old event reply new → Stays
  one_event event reply h = by event reply (did old new event reply h)

-- a number that is spent and of which no edit is linearized stays so through a run
pub stays_out : (events : List Event) (replies : List Reply) (old new : WorldValue) (p n : ℕ) → IsSound (world_of old) → IsSpent (world_of old) p n → IsOut (world_of old) p n → WorldRun old events replies new
    → IsSpent (world_of new) p n × IsOut (world_of new) p n
stays_out [] [] old new p n sound spent out run = unchanged old new sound p n spent out run
stays_out (event ∷ events) (reply ∷ replies) old new p n sound spent out run =
    let first = one_event old run.0 sound p n spent out event reply run.1.takes in
    stays_out events replies run.0 new p n run.1.good.sound first.0 first.1 run.2
stays_out [] (reply ∷ replies) old new p n sound spent out run = absurd run
stays_out (event ∷ events) [] old new p n sound spent out run = absurd run

-- what answers Overtaken is an edit that was overtaken
overtaken_how : (processes number n : ℕ) (other : Other) (how : Outcome) → Edit (Overtaken n other) ≡ Edit (end_of processes number how) → (n ≡ number) × ((noted : ℕ) × (seen : ℕ) × (how ≡ outcome.Overtaken noted seen))
overtaken_how processes number n other outcome.Done is = absurd (cc)
overtaken_how processes number n other (outcome.Overtaken noted seen) is = (cc, (noted, seen, refl))

pub overtaken_out : (old mid : WorldValue) (p n : ℕ) (other : Other) → IsSound (world_of old) → EditStepsBy old p (Answered (Edit (Overtaken n other))) mid → IsSpent (world_of mid) p n × IsOut (world_of mid) p n
overtaken_out old mid p n other sound h =
    let found = some_outcome old.sheet.layout.processes h.steps.edit.number (Edit (Overtaken n other)) (outcome_at h.steps.edit.stage) (replied old mid p (Answered (Edit (Overtaken n other))) h) in
    let last : h.steps.edit.stage ≡ Answer found.0 = answers_at h.steps.edit.stage found.0 found.1 in
    let how = overtaken_how old.sheet.layout.processes h.steps.edit.number n other found.0 found.2 in
    let stage : h.steps.edit.stage ≡ Answer (outcome.Overtaken how.1.0 how.1.1) = last ∙ ap (λ x. Answer x) how.1.2 in
    let low : h.steps.edit.process < old.sheet.layout.processes = rw h.steps.mine h.steps.there in
    let here : (world_of old).situation h.steps.edit.process ≡ Editing h.steps.edit = ap (λ q. (world_of old).situation q) h.steps.mine ∙ h.steps.at in
    let fits : EditFits (world_of old) h.steps.edit.process h.steps.edit = subst (λ (x : Situation). CallFits (world_of old) h.steps.edit.process x) here (sound.calls h.steps.edit.process low) in
    let knows : Knowing (world_of old) h.steps.edit.edition (edit_of h.steps.edit) h.steps.edit.refs fits.since (known_at (text_parts h.steps.edit.text) (length h.steps.edit.refs) (Answer (outcome.Overtaken how.1.0 how.1.1))) =
    subst (λ (s : Stage). Knowing (world_of old) h.steps.edit.edition (edit_of h.steps.edit) h.steps.edit.refs fits.since (known_at (text_parts h.steps.edit.text) (length h.steps.edit.refs) s)) stage fits.knows in
    let below : AreBelow (world_of old) h.steps.edit.process h.steps.edit.number = knows.standing in
    let kept : Keeps h.steps.edit.process (world_of old) (world_of mid) = step_sound h.steps.edit h.steps.word (world_of old) (world_of mid) sound low here h.steps.steps in
    let spent : IsSpent (world_of old) h.steps.edit.process h.steps.edit.number = answer_spent (world_of old) h.steps.edit sound low here found.0 last in
    let number : n ≡ h.steps.edit.number = how.0 in
    let counted : mid.counted ≡ old.counted = h.steps.steps.counted ∙ ap (λ s. old.counted ++ counted_at (edit_of h.steps.edit) s h.steps.word) last ∙ append-nil old.counted in (
      spent_stays h.steps.edit.process (world_of old) (world_of mid) kept p n (rw (number, sym h.steps.mine) spent),
      (λ e there its is.
          let l = All-contains (λ (f : PlainEdit). f.process ≡ h.steps.edit.process → f.number < h.steps.edit.number) old.counted e below (subst (λ (es : List PlainEdit). Contains es e) counted there) (its ∙ sym h.steps.mine) in
          omega arith),
    )

-- a show answers nothing as Overtaken
not_overtaken : (what : Turn ShowEnd) (n : ℕ) (other : Other) → Answered (Edit (Overtaken n other)) ≡ show_reply what → ⊥
not_overtaken turns.GoesOn n other is = absurd (cc)
not_overtaken (turns.Answers end) n other is = absurd (cc)

work_not_overtaken : (what : Turn WorkEnd) (n : ℕ) (other : Other) → Answered (Edit (Overtaken n other)) ≡ work_reply what → ⊥
work_not_overtaken turns.GoesOn n other is = absurd (cc)
work_not_overtaken (turns.Answers end) n other is = absurd (cc)

recovery_not_overtaken : (what : Turn RecoveryEnd) (n : ℕ) (other : Other) → Answered (Edit (Overtaken n other)) ≡ recovery_reply what → ⊥
recovery_not_overtaken turns.GoesOn n other is = absurd (cc)
recovery_not_overtaken (turns.Answers end) n other is = absurd (cc)

migration_not_overtaken : (what : Turn MigrateEnd) (n : ℕ) (other : Other) → Answered (Edit (Overtaken n other)) ≡ migration_reply what → ⊥
migration_not_overtaken turns.GoesOn n other is = absurd (cc)
migration_not_overtaken (turns.Answers end) n other is = absurd (cc)

-- the number of an edit that was answered Overtaken is spent, and no edit of it is ever linearized
pub overtaken_never : (old mid new : WorldValue) (events : List Event) (replies : List Reply) (p n : ℕ) (other : Other) → IsSound (world_of old) → Takes old (Step p) (Answered (Edit (Overtaken n other))) mid
    → WorldRun mid events replies new → IsSpent (world_of new) p n × IsOut (world_of new) p n
overtaken_never old mid new events replies p n other sound (edits h) run =
    let o = overtaken_out old mid p n other sound h in
    stays_out events replies mid new p n (edit_turn old mid p (Answered (Edit (Overtaken n other))) sound h).keeps.sound o.0 o.1 run
overtaken_never old mid new events replies p n other sound (works h) run = absurd (work_not_overtaken h.what n other h.is)
overtaken_never old mid new events replies p n other sound (reports h) run = absurd (not_overtaken h.what n other h.is)
overtaken_never old mid new events replies p n other sound (recoveries h) run = absurd (recovery_not_overtaken h.what n other h.is)
overtaken_never old mid new events replies p n other sound (migrations h) run = absurd (migration_not_overtaken h.what n other h.is)
