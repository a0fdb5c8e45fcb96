-- What each event adds to the counts, and that steps of a call end.
use Rattle.std.proofs.Common.{ℕ, ◌≡◌, ◌<◌, ◌+◌, [], refl, ap, sym, ◌∙◌, subst, arith}
use Rattle.ds_state.specs.declared.turn.Turn.{Turn}
use Rattle.ds_state.specs.declared.recovery.RecoveryEnd.{RecoveryEnd}
use Rattle.ds_state.specs.declared.show.ShowEnd.{ShowEnd}
use Rattle.std.specs.Prelude.{Option, Some, None, slice_index_or}
use Rattle.std.proofs.lemmas.List.{get_or-set_other}
use Rattle.ds_state.specs.Value.{WorldValue, world_of, SameReports}
use Rattle.ds_state.specs.Sound.{IsSound}
use Rattle.ds_state.specs.Reports.{PlainReports}
use Rattle.ds_state.specs.Works.{PlainShowCall}
use Rattle.ds_state.specs.CallsFit.{CallFits}
use Rattle.ds_state.specs.declared.show.ShowEnd.TheVariants as ends
use Rattle.ds_state.specs.declared.show.ShowStage.{ShowStage}
use Rattle.ds_state.specs.declared.show.ShowStage.TheVariants as stages
use Rattle.ds_state.specs.declared.situation.Situation.{Situation}
use Rattle.ds_state.specs.declared.situation.Situation.TheVariants.{Recovering, Showing, Migrating}
use Rattle.ds_state.specs.declared.stage.Outcome.{Outcome}
use Rattle.ds_state.specs.declared.stage.Outcome.TheVariants as outcome
use Rattle.ds_edit.specs.EditSteps.{rank}
use Rattle.ds_state.specs.EditEndings.{outcome_at}
use Rattle.ds_state.specs.declared.answer.Answer.TheVariants.{Show}
use Rattle.ds_state.specs.declared.show.ShowEnd.TheVariants.{Settled}
use Rattle.ds_state.specs.declared.turn.Turn.TheVariants as turns
use Rattle.ds_show.specs.ShowSteps as steps
use Rattle.ds_show.specs.ShowTakes as shows
use Rattle.ds_show.proofs.ShowKeeps as keeping
use Rattle.ds_core.specs.MigrationEvents.{MigrationStepsBy, migration_reply}
use Rattle.ds_core.specs.EditEvents.{reply_with, EditStepsBy}
use Rattle.ds_edit.specs.EditTakes.{done_with}
use Rattle.ds_core.proofs.Replied.{replied}
use Rattle.ds_state.specs.Works.{PlainRecoverCall}
use Rattle.ds_state.specs.declared.recovery.RecoverStage.{RecoverStage}
use Rattle.ds_state.specs.declared.recovery.RecoverStage.TheVariants as recover_stages
use Rattle.ds_state.specs.declared.work.WorkEnd.{WorkEnd}
use Rattle.ds_recover.specs.RecoverySteps as recover_steps
use Rattle.ds_recover.specs.MigrationSteps as migration_steps
use Rattle.ds_recover.specs.MigrationTakes as migration_takes
use Rattle.ds_recover.proofs.Migrating as migrating
use Rattle.ds_state.specs.Works.{PlainMigrateCall, old_words}
use Rattle.ds_state.specs.declared.migration.MigrateEnd.{MigrateEnd}
use Rattle.ds_state.specs.declared.migration.MigrateStage.{MigrateStage}
use Rattle.ds_state.specs.declared.migration.MigrateStage.TheVariants as migrate_stages
use Rattle.ds_recover.proofs.RecoveryRank.{each_falls}
use Rattle.ds_layout.specs.Places.{cells_of}
use Rattle.ds_work.specs.WorkTakes as work_events
use Rattle.ds_work.specs.WorkRank as work_ranks
use Rattle.ds_work.proofs.Turning.{turns_fall}
use Rattle.ds_core.proofs.Turns.{recovery_turn}
use Rattle.ds_core.specs.ShowEvents.{show_reply, ShowStepsBy}
use Rattle.ds_core.specs.WorkEvents.{work_reply, WorkStepsBy}
use Rattle.ds_core.specs.RecoveryEvents.{recovery_reply, RecoveryStepsBy}
use Rattle.ds_core.specs.StepEvents.{edits, works, reports, recoveries, migrations}
use Rattle.ds_core.specs.Takes.{Takes}
use Rattle.ds_core.proofs.Did as did_so
use Rattle.ds_core.proofs.Did.{Did, did, IsNothing, IsOfStep, nothing, edit_begins, work_begins, show_begins, recovery_begins, migration_begins, offers, evicts, stops, crashes}
use Rattle.ds_core.specs.Own.{IsInCall, left_in, steps_left}
use Rattle.ds_core.specs.Counts.{done_of, settled_of, IsReplyTo, KeepsReports}
use Rattle.ds_core.specs.declared.event.Event.{Event}
use Rattle.ds_core.specs.declared.event.Event.TheVariants.{BeginEdit, BeginWork, BeginShow, BeginRecover, BeginMigrate, Step, Offer, Evict, Stop, Crash}
use Rattle.ds_core.specs.declared.reply.Reply.{Reply}
use Rattle.ds_core.specs.declared.reply.Reply.TheVariants.{Begun, Entered, Stepped, Answered, Evicted, Stopped, Crashed}
use Rattle.ds_core.proofs.Bound.{edit_goes_on}

-- what an event with this answer adds
pub record Adds (old : WorldValue) (event : Event) (reply : Reply) (new : WorldValue) : Type 0 where
  pub reply_is : IsReplyTo event reply
  pub done : new.done ≡ old.done + done_of reply
  pub settled : new.settled ≡ old.settled + settled_of reply
  pub reports : KeepsReports old event reply new

outcome_adds : (processes number done : ℕ) (o : Option Outcome) → done_with done o ≡ done + done_of (reply_with processes number o)
outcome_adds processes number done None = omega arith
outcome_adds processes number done (Some outcome.Done) = refl
outcome_adds processes number done (Some (outcome.Overtaken noted seen)) = omega arith

step_adds : (old new : WorldValue) (p : ℕ) (reply : Reply) → EditStepsBy old p reply new → new.done ≡ old.done + done_of reply
step_adds old new p reply h = h.steps.done ∙ outcome_adds old.sheet.layout.processes h.steps.edit.number old.done (outcome_at h.steps.edit.stage) ∙ ap (λ (r : Reply). old.done + done_of r) (sym (replied old new p reply h))

-- where no show changes, none but an answered one does
keeps : (old : WorldValue) (event : Event) (reply : Reply) (new : WorldValue) → new.reports ≡ old.reports → KeepsReports old event reply new
keeps old (Step p) (Answered (Show Settled)) new same = λ q ne. ap (λ (r : PlainReports). slice_index_or r.values q []) same
keeps old event reply new same = same

-- an event that adds to no show
adds_none : (old new : WorldValue) (event : Event) (reply : Reply) → IsReplyTo event reply → new.done ≡ old.done + done_of reply → settled_of reply ≡ 0 → SameReports old new → Adds old event reply new
adds_none old new event reply is done none_done same = record { reply_is = is; done = done; settled = (let s = same.settled in omega (arith, s, none_done)); reports = keeps old event reply new same.reports }

none : (old new : WorldValue) → new.done ≡ old.done → new.done ≡ old.done + 0
none old new same = omega (arith, same)

unchanged : (old new : WorldValue) (event : Event) (reply : Reply) → IsReplyTo event reply → done_of reply ≡ 0 → settled_of reply ≡ 0 → new ≡ old → Adds old event reply new
unchanged old new event reply is none_done none_settled same = record {
  reply_is = is;
  done = (let d = ap (λ (v : WorldValue). v.done) same in omega (arith, d, none_done));
  settled = (let d = ap (λ (v : WorldValue). v.settled) same in omega (arith, d, none_settled));
  reports = keeps old event reply new (ap (λ (v : WorldValue). v.reports) same);
}

-- an edit settles no show
edit_settles_none : (processes number : ℕ) (o : Option Outcome) → settled_of (reply_with processes number o) ≡ 0
edit_settles_none processes number None = refl
edit_settles_none processes number (Some outcome.Done) = refl
edit_settles_none processes number (Some (outcome.Overtaken noted seen)) = refl

edit_adds : (old new : WorldValue) (p : ℕ) (reply : Reply) → EditStepsBy old p reply new → IsReplyTo (Step p) reply → Adds old (Step p) reply new
edit_adds old new p reply h is = adds_none old new (Step p) reply is (step_adds old new p reply h) (ap settled_of (replied old new p reply h) ∙ edit_settles_none old.sheet.layout.processes h.steps.edit.number (outcome_at h.steps.edit.stage)) h.steps.reports

-- a show answers nothing as Done, and settles what it answers as Settled
show_done : (what : Turn ShowEnd) → done_of (show_reply what) ≡ 0
show_done turns.GoesOn = refl
show_done (turns.Answers end) = refl

show_settles : (what : Turn ShowEnd) → settled_of (show_reply what) ≡ shows.settled_by what
show_settles turns.GoesOn = refl
show_settles (turns.Answers ends.Settled) = refl
show_settles (turns.Answers (ends.Unsettled place word)) = refl

show_keeps : (old new : WorldValue) (p : ℕ) (what : Turn ShowEnd) → shows.StepsBy old p what new → KeepsReports old (Step p) (show_reply what) new
show_keeps old new p turns.GoesOn h = h.reports
show_keeps old new p (turns.Answers ends.Settled) h = λ q ne. ap (λ (r : PlainReports). slice_index_or r.values q []) h.reports ∙ get_or-set_other old.reports.values h.show.process q _ [] (λ same. ne (same ∙ h.mine))
show_keeps old new p (turns.Answers (ends.Unsettled place word)) h = h.reports

show_adds : (old new : WorldValue) (p : ℕ) (reply : Reply) → ShowStepsBy old p reply new → IsReplyTo (Step p) reply → Adds old (Step p) reply new
show_adds old new p reply h is = subst (λ (r : Reply). Adds old (Step p) r new) (sym h.is) (record {
  reply_is = subst (λ (r : Reply). IsReplyTo (Step p) r) h.is is;
  done = (let d = h.steps.done in omega (arith, d, show_done h.what));
  settled = (let s = h.steps.settled in omega (arith, s, show_settles h.what));
  reports = show_keeps old new p h.what h.steps;
})

-- work and a recovery answer nothing as Done or Settled
work_none : (what : Turn WorkEnd) → (done_of (work_reply what) ≡ 0) × (settled_of (work_reply what) ≡ 0)
work_none turns.GoesOn = (refl, refl)
work_none (turns.Answers end) = (refl, refl)

work_adds : (old new : WorldValue) (p : ℕ) (reply : Reply) → WorkStepsBy old p reply new → IsReplyTo (Step p) reply → Adds old (Step p) reply new
work_adds old new p reply h is =
    let n = work_none h.what in
    let zero_done : done_of reply ≡ 0 = ap done_of h.is ∙ n.0 in
    adds_none old new (Step p) reply is (let d = h.done in omega (arith, d, zero_done)) (ap settled_of h.is ∙ n.1) h.reports

recovery_none : (what : Turn RecoveryEnd) → (done_of (recovery_reply what) ≡ 0) × (settled_of (recovery_reply what) ≡ 0)
recovery_none turns.GoesOn = (refl, refl)
recovery_none (turns.Answers end) = (refl, refl)

recovery_adds : (old new : WorldValue) (p : ℕ) (reply : Reply) → RecoveryStepsBy old p reply new → IsReplyTo (Step p) reply → Adds old (Step p) reply new
recovery_adds old new p reply h is =
    let n = recovery_none h.what in
    let zero_done : done_of reply ≡ 0 = ap done_of h.is ∙ n.0 in
    adds_none old new (Step p) reply is (let d = h.steps.done in omega (arith, d, zero_done)) (ap settled_of h.is ∙ n.1) (record { settled = h.steps.settled; reports = h.steps.reports })

migration_none : (what : Turn MigrateEnd) → (done_of (migration_reply what) ≡ 0) × (settled_of (migration_reply what) ≡ 0)
migration_none turns.GoesOn = (refl, refl)
migration_none (turns.Answers end) = (refl, refl)

migration_adds : (old new : WorldValue) (p : ℕ) (reply : Reply) → MigrationStepsBy old p reply new → IsReplyTo (Step p) reply → Adds old (Step p) reply new
migration_adds old new p reply h is =
    let n = migration_none h.what in
    let zero_done : done_of reply ≡ 0 = ap done_of h.is ∙ n.0 in
    adds_none old new (Step p) reply is (let d = h.steps.done in omega (arith, d, zero_done)) (ap settled_of h.is ∙ n.1) (record { settled = h.steps.settled; reports = h.steps.reports })

nothing_adds : (reply : Reply) → IsNothing reply → (done_of reply ≡ 0) × (settled_of reply ≡ 0)
nothing_adds (Answered answer) none = absurd none
nothing_adds _ none = (refl, refl)

step_reply : (p : ℕ) (reply : Reply) → IsOfStep reply → IsReplyTo (Step p) reply
step_reply p Stepped is = tt
step_reply p (Answered answer) is = tt
step_reply p _ is = absurd is

adds_by : (old new : WorldValue) (event : Event) (reply : Reply) → Did old new event reply → Adds old event reply new
adds_by old new _ _ (nothing event reply none is same) = let zero = nothing_adds reply none in unchanged old new event reply is zero.0 zero.1 same
adds_by old new _ _ (edit_begins r number h) = adds_none old new (BeginEdit r) (Begun number) tt (none old new h.done) refl h.reports
adds_by old new _ _ (work_begins p cell h) = adds_none old new (BeginWork p cell) Entered tt (none old new h.done) refl h.reports
adds_by old new _ _ (show_begins p h) = adds_none old new (BeginShow p) Entered tt (none old new h.done) refl h.reports
adds_by old new _ _ (recovery_begins p h) = adds_none old new (BeginRecover p) Entered tt (none old new h.done) refl h.reports
adds_by old new _ _ (migration_begins p h) = adds_none old new (BeginMigrate p) Entered tt (none old new h.done) refl h.reports
adds_by old new _ _ (did_so.steps p reply is (edits h)) = edit_adds old new p reply h (step_reply p reply is)
adds_by old new _ _ (did_so.steps p reply is (works h)) = work_adds old new p reply h (step_reply p reply is)
adds_by old new _ _ (did_so.steps p reply is (reports h)) = show_adds old new p reply h (step_reply p reply is)
adds_by old new _ _ (did_so.steps p reply is (recoveries h)) = recovery_adds old new p reply h (step_reply p reply is)
adds_by old new _ _ (did_so.steps p reply is (migrations h)) = migration_adds old new p reply h (step_reply p reply is)
adds_by old new _ _ (offers value h) = adds_none old new (Offer value) Stepped tt (none old new h.done) refl h.reports
adds_by old new _ _ (evicts word h) = adds_none old new (Evict word) Evicted tt (none old new h.done) refl h.reports
adds_by old new _ _ (stops p h) = adds_none old new (Stop p) Stopped tt (none old new h.done) refl h.reports
adds_by old new _ _ (crashes h) = adds_none old new Crash Crashed tt (none old new h.done) refl h.reports

-- an event adds to the counts, and keeps of the snapshots, what its reply says
pub adds : (old new : WorldValue) (event : Event) (reply : Reply) → Takes old event reply new → Adds old event reply new
adds old new event reply h = adds_by old new event reply (did old new event reply h)

-- the process is still in a call, with fewer steps left
pub record StepsOn (p : ℕ) (old new : WorldValue) : Type 0 where
  pub calls : IsInCall ((world_of new).situation p)
  pub fewer : steps_left p new < steps_left p old

-- a step that does not answer leaves fewer
edit_falls : (old new : WorldValue) (p : ℕ) → IsSound (world_of old) → EditStepsBy old p Stepped new → StepsOn p old new
edit_falls old new p sound h =
    let g = edit_goes_on old new p sound h in
    let few = g.fewer in
    let a : steps_left p old ≡ rank h.steps.edit h.steps.edit.stage = ap left_in h.steps.at in
    let b : steps_left p new ≡ rank g.edit g.edit.stage = ap left_in g.edits in
    record { calls = subst IsInCall (sym g.edits) tt; fewer = omega (arith, few, a, b) }

goes_on : (what : Turn ShowEnd) → Stepped ≡ show_reply what → what ≡ turns.GoesOn
goes_on turns.GoesOn is = refl
goes_on (turns.Answers end) is = absurd (cc)

after_on : (e : PlainShowCall) (s : ShowStage) (word : ℕ) → steps.effect_at s ≡ turns.GoesOn → steps.after e s word ≡ Showing (steps.next_at e s word)
after_on e (stages.Answer end) word is = absurd (cc)
after_on e _ word is = refl

falls_on : (e : PlainShowCall) (s : ShowStage) (f : PlainShowCall) → steps.effect_at s ≡ turns.GoesOn → steps.Falls e s f → steps.rank f < steps.rank (steps.at e s)
falls_on e (stages.Answer end) f is h = absurd (cc)
falls_on e _ f is h = h

show_falls : (old new : WorldValue) (p : ℕ) → IsSound (world_of old) → ShowStepsBy old p Stepped new → StepsOn p old new
show_falls old new p sound h =
    let e : PlainShowCall = h.steps.show in
    let goes : steps.effect_at e.stage ≡ turns.GoesOn = sym h.steps.is ∙ goes_on h.what h.is in
    let fits = subst (λ (s : Situation). CallFits (world_of old) p s) h.steps.at (sound.calls p h.steps.there) in
    let now : (world_of new).situation p ≡ Showing (steps.next_at e e.stage h.steps.word) = ap (λ q. (world_of new).situation q) (sym h.steps.mine) ∙ h.steps.steps.situation ∙ after_on e e.stage h.steps.word goes in
    let fall : steps.rank (steps.next_at e e.stage h.steps.word) < steps.rank e = falls_on e e.stage (steps.next_at e e.stage h.steps.word) goes (keeping.falls e e.stage h.steps.word fits.1.is.stage) in
    let a : steps_left p old ≡ steps.rank e = ap left_in h.steps.at in
    let b : steps_left p new ≡ steps.rank (steps.next_at e e.stage h.steps.word) = ap left_in now in
    record { calls = subst IsInCall (sym now) tt; fewer = omega (arith, fall, a, b) }

work_falls : (old new : WorldValue) (p : ℕ) → IsSound (world_of old) → WorkStepsBy old p Stepped new → StepsOn p old new
work_falls old new p sound h = by h.what h.steps h.is
  where
    by : (what : Turn WorkEnd) → work_events.StepsBy (world_of old) p what (world_of new) → Stepped ≡ work_reply what → StepsOn p old new
    by turns.GoesOn s is =
        let g = turns_fall p (world_of old) (world_of new) sound s in
        let less = g.fewer in
        let a : steps_left p old ≡ work_ranks.steps_left s.work.cells s.work = ap left_in s.works in
        let b : steps_left p new ≡ work_ranks.steps_left g.work.cells g.work = ap left_in g.works in
        let c : work_ranks.steps_left g.work.cells g.work ≡ work_ranks.steps_left s.work.cells g.work = ap (λ r. work_ranks.steps_left r g.work) g.cells in
        record { calls = subst IsInCall (sym g.works) tt; fewer = omega (arith, less, a, b, c) }
    by (turns.Answers end) s is = absurd (cc)

recovery_goes : (what : Turn RecoveryEnd) → Stepped ≡ recovery_reply what → what ≡ turns.GoesOn
recovery_goes turns.GoesOn is = refl
recovery_goes (turns.Answers end) is = absurd (cc)

recovery_after : (e : PlainRecoverCall) (s : RecoverStage) (word : ℕ) → recover_steps.effect_at e s ≡ turns.GoesOn → recover_steps.after e s word ≡ Recovering (recover_steps.next_at e s word)
recovery_after e (recover_stages.Answer how) word is = absurd (cc)
recovery_after e _ word is = refl

recovery_lower : (e f : PlainRecoverCall) (s : RecoverStage) → recover_steps.effect_at e s ≡ turns.GoesOn → recover_steps.Falls e s f → recover_steps.rank e.cells f.stage < recover_steps.rank e.cells s
recovery_lower e f (recover_stages.Answer how) is h = absurd (cc)
recovery_lower e f _ is h = h

recovery_falls : (old new : WorldValue) (p : ℕ) → IsSound (world_of old) → RecoveryStepsBy old p Stepped new → StepsOn p old new
recovery_falls old new p sound h =
    let e : PlainRecoverCall = h.steps.recovery in
    let f : PlainRecoverCall = recover_steps.next_at e e.stage h.steps.word in
    let goes : recover_steps.effect_at e e.stage ≡ turns.GoesOn = sym h.steps.is ∙ recovery_goes h.what h.is in
    let fits = subst (λ (s : Situation). CallFits (world_of old) p s) h.steps.at (sound.calls p h.steps.there) in
    let now : (world_of new).situation p ≡ Recovering f = ap (λ q. (world_of new).situation q) (sym h.steps.mine) ∙ h.steps.steps.situation ∙ recovery_after e e.stage h.steps.word goes in
    let fall : recover_steps.rank e.cells f.stage < recover_steps.rank e.cells e.stage = recovery_lower e f e.stage goes (each_falls e h.steps.word fits.is) in
    let turn = recovery_turn old new p Stepped sound h in
    let now_fits = subst (λ (s : Situation). CallFits (world_of new) p s) now (turn.keeps.sound.calls p (rw h.steps.steps.layout h.steps.there)) in
    let cells : f.cells ≡ e.cells = sym now_fits.cells ∙ ap cells_of h.steps.steps.layout ∙ fits.cells in
    let a : steps_left p old ≡ recover_steps.rank e.cells e.stage = ap left_in h.steps.at in
    let b : steps_left p new ≡ recover_steps.rank f.cells f.stage = ap left_in now in
    let c = ap (λ n. recover_steps.rank n f.stage) cells in
    record { calls = subst IsInCall (sym now) tt; fewer = omega (arith, fall, a, b, c) }

migration_goes : (what : Turn MigrateEnd) → Stepped ≡ migration_reply what → what ≡ turns.GoesOn
migration_goes turns.GoesOn is = refl
migration_goes (turns.Answers end) is = absurd (cc)

migration_after : (e : PlainMigrateCall) (s : MigrateStage) (word : ℕ) → migration_takes.effect_at s ≡ turns.GoesOn → migration_steps.after e s word ≡ Migrating (migration_steps.next_at e s word)
migration_after e (migrate_stages.Answer how) word is = absurd (cc)
migration_after e _ word is = refl

migration_lower : (s : MigrateStage) → migration_takes.effect_at s ≡ turns.GoesOn → (how : MigrateEnd) → s ≡ migrate_stages.Answer how → ⊥
migration_lower (migrate_stages.Answer how) is end at = cc
migration_lower _ is end at = cc

migration_processes : (e : PlainMigrateCall) (s : MigrateStage) (word : ℕ) → (migration_steps.next_at e s word).processes ≡ e.processes
migration_processes e migrate_stages.LoadVersion word = refl
migration_processes e (migrate_stages.LoadOld n) word = refl
migration_processes e _ word = refl

migration_falls : (old new : WorldValue) (p : ℕ) → IsSound (world_of old) → MigrationStepsBy old p Stepped new → StepsOn p old new
migration_falls old new p sound h =
    let e : PlainMigrateCall = h.steps.migration in
    let f : PlainMigrateCall = migration_steps.next_at e e.stage h.steps.word in
    let goes : migration_takes.effect_at e.stage ≡ turns.GoesOn = sym h.steps.is ∙ migration_goes h.what h.is in
    let fits = subst (λ (s : Situation). CallFits (world_of old) p s) h.steps.at (sound.calls p h.steps.there) in
    let now : (world_of new).situation p ≡ Migrating f = ap (λ q. (world_of new).situation q) (sym h.steps.mine) ∙ h.steps.steps.situation ∙ migration_after e e.stage h.steps.word goes in
    let fall : migration_steps.rank (old_words e.processes) f.stage < migration_steps.rank (old_words e.processes) e.stage = migrating.migration_falls e e.stage h.steps.word fits.is.stage (migration_lower e.stage goes) in
    let a : steps_left p old ≡ migration_steps.rank (old_words e.processes) e.stage = ap left_in h.steps.at in
    let b : steps_left p new ≡ migration_steps.rank (old_words f.processes) f.stage = ap left_in now in
    let c = ap (λ n. migration_steps.rank (old_words n) f.stage) (migration_processes e e.stage h.steps.word) in
    record { calls = subst IsInCall (sym now) tt; fewer = omega (arith, fall, a, b, c) }

-- a step that is not answered leaves the process in its call, with fewer steps
pub steps_on : (old new : WorldValue) (p : ℕ) → IsSound (world_of old) → Takes old (Step p) Stepped new → StepsOn p old new
steps_on old new p sound (edits h) = edit_falls old new p sound h
steps_on old new p sound (works h) = work_falls old new p sound h
steps_on old new p sound (reports h) = show_falls old new p sound h
steps_on old new p sound (recoveries h) = recovery_falls old new p sound h
steps_on old new p sound (migrations h) = migration_falls old new p sound h

-- each event does so, whatever it is
pub falls_by : (old new : WorldValue) (event : Event) (reply : Reply) → IsSound (world_of old) → Takes old event reply new → (p : ℕ) → event ≡ Step p → reply ≡ Stepped → steps_left p new < steps_left p old
falls_by old new event reply sound takes p is stepped =
    (steps_on old new p sound (subst (λ (r : Reply). Takes old (Step p) r new) stepped (subst (λ (x : Event). Takes old x reply new) is takes))).fewer
