-- Each event of a plain world is one of the core's, from a value on.
use Rattle.std.proofs.Common.{ℕ, ◌≡◌, ◌≢◌, ◌+◌, ◌<◌, ◌≤◌, Bool, true, false, List, length, length-set, refl, sym, ap, ◌∙◌, subst, inl, inr, arith}
use Rattle.std.specs.Prelude.{Contains, Option, Some, None, if◌then◌else◌}
use Rattle.std.proofs.lemmas.Bool.{cases_eq}
use Rattle.std.proofs.lemmas.List.Elements.{All-contains, Contains-append_left}
use Rattle.ds_layout.specs.declared.layout.Layout.{Layout}
use Rattle.ds_layout.specs.Places.{cells_of}
use Rattle.ds_state.specs.Edits.{PlainEditCall}
use Rattle.ds_state.specs.Works.{PlainWorkCall, PlainShowCall, PlainRecoverCall}
use Rattle.ds_state.specs.World.{PlainEdit, PlainIssue, PlainWorld, edit_of}
use Rattle.ds_state.specs.Reports.{PlainReports}
use Rattle.ds_state.specs.Value.{WorldValue, world_of, IsGood, first_rest}
use Rattle.ds_state.specs.CallsFit.{CallFits, IdleFits, EditFits}
use Rattle.ds_state.specs.Crashes.{is_lost, survivors, CrashesTo}
use Rattle.ds_state.specs.Dones.{HasAnswered}
use Rattle.ds_state.specs.Sound.{IsSound}
use Rattle.ds_state.specs.Underway.{reports_in, shows_under_way}
use Rattle.ds_state.specs.EditEndings.{outcome_at}
use Rattle.ds_state.specs.declared.answer.Answer.{Answer}
use Rattle.ds_state.specs.declared.answer.Answer.TheVariants as answers
use Rattle.ds_state.specs.declared.show.ShowEnd.{ShowEnd}
use Rattle.ds_state.specs.declared.show.ShowEnd.TheVariants.{Settled, Unsettled}
use Rattle.ds_state.specs.declared.show.ShowStage.{ShowStage}
use Rattle.ds_state.specs.declared.show.ShowStage.TheVariants as show_stage
use Rattle.ds_state.specs.declared.recovery.RecoverStage.{RecoverStage}
use Rattle.ds_state.specs.declared.recovery.RecoverStage.TheVariants as recover_stage
use Rattle.ds_state.specs.declared.reports.TheConstants.{SETTLED_MOST}
use Rattle.ds_state.specs.declared.situation.Situation.{Situation}
use Rattle.ds_state.specs.declared.situation.Situation.TheVariants.{Idle, Editing}
use Rattle.ds_state.specs.declared.stage.Outcome.{Outcome}
use Rattle.ds_state.specs.declared.stage.Outcome.TheVariants as outcome
use Rattle.ds_state.specs.declared.stage.Stage.{Stage}
use Rattle.ds_state.specs.declared.stage.Stage.TheVariants as stage
use Rattle.ds_state.specs.declared.turn.Turn.{Turn}
use Rattle.ds_state.specs.declared.turn.Turn.TheVariants as turns
use Rattle.ds_state.specs.declared.work.WorkEnd.{WorkEnd}
use Rattle.ds_state.specs.declared.work.WorkStage.{WorkStage}
use Rattle.ds_state.specs.declared.work.WorkStage.TheVariants as work_stage
use Rattle.ds_state.proofs.Dones.{still_answered, one_answered}
use Rattle.ds_state.proofs.Underway.{none_where}
use Rattle.ds_edit.specs.EditTakes as edits
use Rattle.ds_edit.proofs.Driving.{answers_at, goes_on_at}
use Rattle.ds_edit.proofs.Truth.{answer_true}
use Rattle.ds_work.specs.WorkTakes as works
use Rattle.ds_work.specs.WorkSteps as work_steps
use Rattle.ds_show.specs.ShowSteps as show_steps
use Rattle.ds_show.specs.ShowTakes as reports
use Rattle.ds_recover.specs.RecoverySteps as recovery_steps
use Rattle.ds_core.specs.Takes.{Takes, Fits}
use Rattle.ds_core.specs.Replies.{reply_of}
use Rattle.ds_core.specs.EditEvents.{edit_reply}
use Rattle.ds_core.specs.WorkEvents.{work_reply}
use Rattle.ds_core.specs.ShowEvents.{show_reply}
use Rattle.ds_core.specs.RecoveryEvents.{recovery_reply}
use Rattle.ds_core.specs.StepEvents as core
use Rattle.ds_core.specs.declared.event.Event.{Event}
use Rattle.ds_core.specs.declared.event.Event.TheVariants.{BeginEdit, BeginWork, BeginShow, BeginRecover, Step, Offer, Evict, Stop, Crash}
use Rattle.ds_core.specs.declared.reply.Reply.{Reply}
use Rattle.ds_core.specs.declared.reply.Reply.TheVariants as reply
use Rattle.ds_core.proofs.Closing.{to_filter}
use Rattle.ds_core.proofs.Crash as crash
use Rattle.ds_shared_runs.specs.History.{IsTidy, IsStanding, Moves, StepMoves, EditMoves, WorkMoves, ShowMoves, RecoveryMoves, edit, work, report, recovery}
use Rattle.ds_shared_runs.specs.Runs.{begun_by}
use Rattle.ds_shared_runs.proofs.Values.{tab, tab_length, value_on, value_is}
use Rattle.ds_shared_runs.proofs.Counted.{same_under, moved, answered_same}

-- the event is one of the core's from this value on, to one of the plain world
pub record Advanced (v : WorldValue) (event : Event) (reply : Reply) (w : PlainWorld) : Type 0 where
  pub next : WorldValue
  pub fits : Fits v event reply next
  pub is : world_of next ≡ w
  pub few : next.settled + shows_under_way next.situations ≤ v.settled + shows_under_way v.situations + begun_by event

-- ---- situations

edit_no : (e : PlainEditCall) (s : Stage) (word : ℕ) → reports_in (edits.after e s word) ≡ 0
edit_no e (stage.Answer how) word = refl
edit_no e _ word = refl

work_no : (e : PlainWorkCall) (s : WorkStage) (word : ℕ) → reports_in (work_steps.after e s word) ≡ 0
work_no e (work_stage.Answer end) word = refl
work_no e _ word = refl

recovery_no : (e : PlainRecoverCall) (s : RecoverStage) (word : ℕ) → reports_in (recovery_steps.after e s word) ≡ 0
recovery_no e (recover_stage.Answer how) word = refl
recovery_no e _ word = refl

settles : (e : PlainShowCall) (s : ShowStage) (word : ℕ) → reports.settled_by (show_steps.effect_at s) + reports_in (show_steps.after e s word) ≤ 1
settles e (show_stage.LoadAnnounce i) word = omega arith
settles e (show_stage.LoadMark i) word = omega arith
settles e (show_stage.LoadValue i) word = omega arith
settles e (show_stage.LoadKind i) word = omega arith
settles e (show_stage.AgainMark i) word = omega arith
settles e (show_stage.AgainAnnounce i) word = omega arith
settles e (show_stage.Answer Settled) word = omega arith
settles e (show_stage.Answer (Unsettled r n)) word = omega arith

-- an issue that is there after a recovery's step was there before
issue_was : (s : RecoverStage) (o : Option PlainIssue) (issue : PlainIssue) → recovery_steps.open_edit_at o s ≡ Some issue → o ≡ Some issue
issue_was (recover_stage.Answer how) o issue is = absurd (cc)
issue_was _ o issue is = is

kept_cells : (r : PlainReports) (e : PlainShowCall) (what : Turn ShowEnd) → (reports.reports_by r e what).cells ≡ r.cells
kept_cells r e turns.GoesOn = refl
kept_cells r e (turns.Answers Settled) = refl
kept_cells r e (turns.Answers (Unsettled p n)) = refl

kept_length : (r : PlainReports) (e : PlainShowCall) (what : Turn ShowEnd) → length (reports.reports_by r e what).values ≡ length r.values
kept_length r e turns.GoesOn = refl
kept_length r e (turns.Answers Settled) = length-set r.values e.process (show_steps.answered e)
kept_length r e (turns.Answers (Unsettled p n)) = refl

module _ (v : WorldValue) (good : IsGood v) (w : PlainWorld) (standing : IsStanding w) where
  abbrev t : IsTidy w
  t = standing.tidy

  abbrev at : ℕ → ℕ → PlainReports → WorldValue
  at d s r = value_on w t d s r

  abbrev over : Situation
  over = Idle first_rest

  abbrev now : List Situation
  now = tab w.situation w.layout.processes

  to_value : (P : PlainWorld → Type 0) (d s : ℕ) (r : PlainReports) → P w → P (world_of (at d s r))
  to_value P d s r h = subst P (sym (value_is w t d s r)) h

  as_long : w.layout ≡ v.sheet.layout → length v.situations ≡ length now
  as_long lay = good.situations ∙ ap (λ (l : Layout). l.processes) (sym lay) ∙ sym (tab_length w.situation w.layout.processes)

  -- what is left to say of an event
  finish : (event : Event) (reply : Reply) (d s : ℕ) (r : PlainReports) → Takes v event reply (at d s r) → w.layout ≡ v.sheet.layout → r.cells ≡ v.reports.cells → length r.values ≡ length v.reports.values
      → HasAnswered (world_of (at d s r)).counted (world_of (at d s r)).open_edits d → s + shows_under_way now ≤ v.settled + shows_under_way v.situations + begun_by event
      → v.settled + shows_under_way v.situations + begun_by event ≤ SETTLED_MOST → Advanced v event reply w
  finish event reply d s r takes lay cells values answered counts few = record {
    next = at d s r;
    fits = record {
      takes = takes;
      good = record {
        sound = to_value IsSound d s r standing.sound;
        situations = tab_length w.situation w.layout.processes;
        open_edits = tab_length w.open_edits w.layout.processes;
        reports = record {
          cells = cells ∙ good.reports.cells ∙ ap cells_of (sym lay);
          processes = values ∙ good.reports.processes ∙ ap (λ (l : Layout). l.processes) (sym lay);
        };
        answered = answered;
        counts = (let c = counts in let f = few in omega arith);
      };
    };
    is = value_is w t d s r;
    few = counts;
  }

  -- one process went on
  one : (p : ℕ) → p < v.sheet.layout.processes → w.layout ≡ v.sheet.layout → (d s : ℕ) (r : PlainReports) → ((q : ℕ) → q ≢ p → (world_of (at d s r)).situation q ≡ (world_of v).situation q)
      → shows_under_way now + reports_in ((world_of v).situation p) ≡ shows_under_way v.situations + reports_in ((world_of (at d s r)).situation p)
  one p low lay d s r others = moved v.situations now over p (as_long lay) (let l = good.situations in omega (arith, l, low)) others

  -- an event of a process by which the list, the issues, the counts and the snapshots stay
  quiet : (event : Event) (reply : Reply) (p : ℕ) → p < v.sheet.layout.processes → Takes v event reply (at v.done v.settled v.reports) → w.layout ≡ v.sheet.layout
      → (world_of (at v.done v.settled v.reports)).counted ≡ v.counted → ((q : ℕ) → (world_of (at v.done v.settled v.reports)).open_edits q ≡ (world_of v).open_edits q)
      → ((q : ℕ) → q ≢ p → (world_of (at v.done v.settled v.reports)).situation q ≡ (world_of v).situation q)
      → reports_in ((world_of (at v.done v.settled v.reports)).situation p) ≤ begun_by event
      → v.settled + shows_under_way v.situations + begun_by event ≤ SETTLED_MOST → Advanced v event reply w
  quiet event reply p low takes lay counted opens others rests few =
      let o = one p low lay v.done v.settled v.reports others in
      finish event reply v.done v.settled v.reports takes lay refl refl (answered_same v.counted _ (world_of v).open_edits _ v.done counted opens good.answered) (omega (arith, o, rests)) few

  -- ---- beginnings

  begins_edit : (r : _) (number : ℕ) → Moves (world_of v) (BeginEdit r) (reply.Begun number) w → v.settled + shows_under_way v.situations + 0 ≤ SETTLED_MOST → Advanced v (BeginEdit r) (reply.Begun number) w
  begins_edit r number m few =
      let k = to_value (λ (z : PlainWorld). Moves (world_of v) (BeginEdit r) (reply.Begun number) z) v.done v.settled v.reports m in
      let e : PlainEditCall = k.2.edit in
      let b = k.2.begins in
      let own : e.process ≡ r.process = ap (λ (d : PlainEdit). d.process) k.2.asked.asked in
      let low : e.process < v.sheet.layout.processes = subst (λ (n : ℕ). n < v.sheet.layout.processes) (sym own) k.0 in
      let idle : IdleFits (world_of v) e.process (edits.rest_before e) = subst (λ (x : Situation). CallFits (world_of v) e.process x) b.idle (good.sound.calls e.process low) in
      let o = one e.process low b.layout v.done v.settled v.reports b.others in
      let none : reports_in ((world_of (at v.done v.settled v.reports)).situation e.process) ≡ 0 = ap reports_in b.situation in
      let was : reports_in ((world_of v).situation e.process) ≡ 0 = ap reports_in b.idle in
      finish (BeginEdit r) (reply.Begun number) v.done v.settled v.reports
      (record { named = record { process = k.0; cell = k.1 }; begun = k.2; done = refl; reports = record { settled = refl; reports = refl } })
      b.layout refl refl
      (still_answered v.counted w.counted (world_of v).open_edits (world_of (at v.done v.settled v.reports)).open_edits v.done
      (λ f there. subst (λ (l : List PlainEdit). Contains l f) (sym b.counted) there)
      (λ f issue there here is. elim (cases_eq f.process e.process) [
        | inl mine ↦ (
            let given : Some issue ≡ Some (record { edit = edit_of e; since = length v.counted }) = sym here ∙ ap (λ q. (world_of (at v.done v.settled v.reports)).open_edits q) mine ∙ b.open_edits in
            let the : issue ≡ record { edit = edit_of e; since = length v.counted } = cc in
            let same : f ≡ edit_of e = sym is ∙ ap (λ (i : PlainIssue). i.edit) the in
            let l = All-contains (λ (x : PlainEdit). x.process ≡ e.process → x.number < e.number) v.counted f idle.below there mine in
            let n = ap (λ (x : PlainEdit). x.number) same in
            absurd (omega (arith, l, n)))
        | inr other ↦ sym (b.others_open_edits f.process other) ∙ here
      ])
      good.answered)
      (omega (arith, o, none, was)) few

  begins_work : (p : ℕ) (cell : _) → Moves (world_of v) (BeginWork p cell) reply.Entered w → v.settled + shows_under_way v.situations + 0 ≤ SETTLED_MOST → Advanced v (BeginWork p cell) reply.Entered w
  begins_work p cell m few =
      let k = to_value (λ (z : PlainWorld). Moves (world_of v) (BeginWork p cell) reply.Entered z) v.done v.settled v.reports m in
      let b = k.2.begins.turn in
      let own : k.2.work.process ≡ p = k.2.process_is in
      quiet (BeginWork p cell) reply.Entered p k.0
      (record { named = record { process = k.0; within = k.1 }; begun = k.2; done = refl; reports = record { settled = refl; reports = refl } })
      b.layout b.counted b.open_edits (λ q ne. b.others q (λ e. ne (e ∙ own)))
      (let n = ap (λ (q : ℕ). reports_in ((world_of (at v.done v.settled v.reports)).situation q)) (sym own) ∙ ap reports_in b.situation in omega (arith, n)) few

  begins_show : (p : ℕ) → Moves (world_of v) (BeginShow p) reply.Entered w → v.settled + shows_under_way v.situations + 1 ≤ SETTLED_MOST → Advanced v (BeginShow p) reply.Entered w
  begins_show p m few =
      let k = to_value (λ (z : PlainWorld). Moves (world_of v) (BeginShow p) reply.Entered z) v.done v.settled v.reports m in
      let b = k.1.begins in
      quiet (BeginShow p) reply.Entered p k.0
      (record { there = k.0; begun = k.1; done = refl; reports = record { settled = refl; reports = refl } })
      b.layout b.counted b.open_edits b.others
      (let n = ap reports_in b.situation in omega (arith, n)) few

  begins_recovery : (p : ℕ) → Moves (world_of v) (BeginRecover p) reply.Entered w → v.settled + shows_under_way v.situations + 0 ≤ SETTLED_MOST → Advanced v (BeginRecover p) reply.Entered w
  begins_recovery p m few =
      let k = to_value (λ (z : PlainWorld). Moves (world_of v) (BeginRecover p) reply.Entered z) v.done v.settled v.reports m in
      let b = k.1.begins in
      quiet (BeginRecover p) reply.Entered p k.0
      (record { there = k.0; begun = k.1; done = refl; reports = record { settled = refl; reports = refl } })
      b.layout b.counted b.open_edits b.others
      (let n = ap reports_in b.situation in omega (arith, n)) few

  -- ---- steps

  of_turn : {E : Type 0} (answer : E → Answer) (what : Turn E) (p : ℕ) (n : WorldValue) → core.StepsBy v p (reply_of answer what) n → Takes v (Step p) (reply_of answer what) n
  of_turn answer turns.GoesOn p n s = s
  of_turn answer (turns.Answers end) p n s = s

  module _ (e : PlainEditCall) (word done : ℕ) (k : edits.Steps e word (world_of v) (world_of (at done v.settled v.reports))) (fits : EditFits (world_of v) e.process e) (low_own : e.process < v.sheet.layout.processes) (here : (world_of v).situation e.process ≡ Editing e) where
    abbrev next : PlainWorld
    next = world_of (at done v.settled v.reports)

    grown : (f : PlainEdit) → Contains v.counted f → Contains next.counted f
    grown f there = subst (λ (l : List PlainEdit). Contains l f) (sym k.counted) (Contains-append_left v.counted (edits.counted_at (edit_of e) e.stage word) f there)

    goes_on : outcome_at e.stage ≡ None → (f : PlainEdit) (issue : PlainIssue) → Contains v.counted f → next.open_edits f.process ≡ Some issue → issue.edit ≡ f → (world_of v).open_edits f.process ≡ Some issue
    goes_on none f issue there given is = elim (cases_eq f.process e.process) [
      | inl same ↦ ap (λ q. (world_of v).open_edits q) same ∙ sym (ap (λ q. next.open_edits q) same ∙ k.open_edits ∙ goes_on_at e.stage _ none) ∙ given
      | inr other ↦ sym (k.others_open_edits f.process other) ∙ given
    ]

    closed : (how : Outcome) → e.stage ≡ stage.Answer how → next.open_edits e.process ≡ None
    closed how last = k.open_edits ∙ ap (λ s. edits.open_edit_at ((world_of v).open_edits e.process) s) last

    answered_on : (how : Outcome) → e.stage ≡ stage.Answer how → (f : PlainEdit) (issue : PlainIssue) → Contains v.counted f → next.open_edits f.process ≡ Some issue → issue.edit ≡ f → (world_of v).open_edits f.process ≡ Some issue
    answered_on how last f issue there given is = elim (cases_eq f.process e.process) [
      | inl same ↦ (let bad : Some issue ≡ None = sym given ∙ ap (λ q. next.open_edits q) same ∙ closed how last in absurd (cc))
      | inr other ↦ sym (k.others_open_edits f.process other) ∙ given
    ]

    by_answer : (how : Outcome) → e.stage ≡ stage.Answer how → HasAnswered next.counted next.open_edits (edits.done_with v.done (Some how))
    by_answer outcome.Done last =
        let t = answer_true e outcome.Done (world_of v) good.sound low_own last here in
        one_answered v.counted next.counted (world_of v).open_edits next.open_edits v.done (edit_of e) fits.since grown (answered_on outcome.Done last) fits.open_edits (closed outcome.Done last) t.holds good.answered
    by_answer (outcome.Overtaken noted seen) last = still_answered v.counted next.counted (world_of v).open_edits next.open_edits v.done grown (answered_on (outcome.Overtaken noted seen) last) good.answered

    by_outcome : (o : Option Outcome) → outcome_at e.stage ≡ o → HasAnswered next.counted next.open_edits (edits.done_with v.done o)
    by_outcome None is = still_answered v.counted next.counted (world_of v).open_edits next.open_edits v.done grown (goes_on is) good.answered
    by_outcome (Some how) is = by_answer how (answers_at e.stage how is)

  steps_edit : (p : ℕ) (said : Reply) → p < v.sheet.layout.processes → EditMoves (world_of v) p said w → v.settled + shows_under_way v.situations + 0 ≤ SETTLED_MOST → Advanced v (Step p) said w
  steps_edit p said low m few =
      let e : PlainEditCall = m.edit in
      let done : ℕ = edits.done_at v.done e.stage in
      let k = to_value (λ (z : PlainWorld). edits.Steps e m.word (world_of v) z) done v.settled v.reports m.steps in
      let what : Turn _ = edits.turn_at v.sheet.layout.processes e.number e.stage in
      let low_own : e.process < v.sheet.layout.processes = subst (λ (n : ℕ). n < v.sheet.layout.processes) (sym m.mine) low in
      let here : (world_of v).situation e.process ≡ Editing e = ap (world_of v).situation m.mine ∙ m.at in
      let o = one e.process low_own k.layout done v.settled v.reports k.others in
      let none : reports_in ((world_of (at done v.settled v.reports)).situation e.process) ≡ 0 = ap reports_in k.situation ∙ edit_no e e.stage m.word in
      let fits : EditFits (world_of v) e.process e = subst (λ (x : Situation). CallFits (world_of v) e.process x) here (good.sound.calls e.process low_own) in
      subst (λ (x : Reply). Advanced v (Step p) x w) (sym m.is)
      (finish (Step p) (edit_reply what) done v.settled v.reports
      (of_turn answers.Edit what p (at done v.settled v.reports) (core.edits (record {
        what = what;
        steps = record { there = low; edit = e; mine = m.mine; at = m.at; word = m.word; steps = k; is = refl; done = refl; reports = record { settled = refl; reports = refl } };
        is = refl;
      })))
      k.layout refl refl (by_outcome e m.word done k fits low_own here (outcome_at e.stage) refl) (omega (arith, o, none)) few)

  -- what a turn of work leaves
  record WorkLeaves (p : ℕ) (next : PlainWorld) : Type 0 where
    layout : next.layout ≡ v.sheet.layout
    counted : next.counted ≡ v.counted
    open_edits : (q : ℕ) → next.open_edits q ≡ (world_of v).open_edits q
    others : (q : ℕ) → q ≢ p → next.situation q ≡ (world_of v).situation q
    rests : reports_in (next.situation p) ≡ 0

  work_leaves : (e : PlainWorkCall) (next : PlainWorld) (what : Turn WorkEnd) → works.TakesTurn e (world_of v) next what → WorkLeaves e.process next
  work_leaves e next turns.GoesOn (works.steps word s none) = record { layout = s.layout; counted = s.counted; open_edits = s.open_edits; others = s.others; rests = ap reports_in s.situation ∙ work_no e e.stage word }
  work_leaves e next turns.GoesOn (works.reads content inputs is s) = let b = s.turn in record { layout = b.layout; counted = b.counted; open_edits = b.open_edits; others = b.others; rests = ap reports_in b.situation }
  work_leaves e next turns.GoesOn (works.lacked is b) = record { layout = b.layout; counted = b.counted; open_edits = b.open_edits; others = b.others; rests = ap reports_in b.situation }
  work_leaves e next (turns.Answers end) (works.answers end' is s) = record { layout = s.layout; counted = s.counted; open_edits = s.open_edits; others = s.others; rests = ap reports_in s.situation }

  steps_work : (p : ℕ) (said : Reply) → p < v.sheet.layout.processes → WorkMoves (world_of v) p said w → v.settled + shows_under_way v.situations + 0 ≤ SETTLED_MOST → Advanced v (Step p) said w
  steps_work p said low m few =
      let k = to_value (λ (z : PlainWorld). works.TakesTurn m.work (world_of v) z m.what) v.done v.settled v.reports m.turn in
      let l : WorkLeaves p (world_of (at v.done v.settled v.reports)) = subst (λ (q : ℕ). WorkLeaves q (world_of (at v.done v.settled v.reports))) m.mine (work_leaves m.work _ m.what k) in
      subst (λ (x : Reply). Advanced v (Step p) x w) (sym m.is)
      (quiet (Step p) (work_reply m.what) p low
      (of_turn answers.Work m.what p (at v.done v.settled v.reports) (core.works (record {
        what = m.what;
        steps = record { inside = low; work = m.work; mine = m.mine; works = m.at; is = m.good; turn = k };
        is = refl;
        done = refl;
        reports = record { settled = refl; reports = refl };
      })))
      l.layout l.counted l.open_edits l.others (let n = l.rests in omega (arith, n)) few)

  steps_show : (p : ℕ) (said : Reply) → p < v.sheet.layout.processes → ShowMoves (world_of v) p said w → v.settled + shows_under_way v.situations + 0 ≤ SETTLED_MOST → Advanced v (Step p) said w
  steps_show p said low m few =
      let e : PlainShowCall = m.report in
      let what : Turn ShowEnd = show_steps.effect_at e.stage in
      let settled : ℕ = v.settled + reports.settled_by what in
      let kept : PlainReports = reports.reports_by v.reports e what in
      let k = to_value (λ (z : PlainWorld). show_steps.Steps e m.word (world_of v) z) v.done settled kept m.steps in
      let low_own : e.process < v.sheet.layout.processes = subst (λ (n : ℕ). n < v.sheet.layout.processes) (sym m.mine) low in
      let was : reports_in ((world_of v).situation e.process) ≡ 1 = ap reports_in (ap (world_of v).situation m.mine ∙ m.at) in
      let o = one e.process low_own k.layout v.done settled kept k.others in
      let one_less = settles e e.stage m.word in
      let is_now : reports_in ((world_of (at v.done settled kept)).situation e.process) ≡ reports_in (show_steps.after e e.stage m.word) = ap reports_in k.situation in
      subst (λ (x : Reply). Advanced v (Step p) x w) (sym m.is)
      (finish (Step p) (show_reply what) v.done settled kept
      (of_turn answers.Show what p (at v.done settled kept) (core.reports (record {
        what = what;
        steps = record { there = low; show = e; mine = m.mine; at = m.at; word = m.word; steps = k; is = refl; done = refl; settled = refl; reports = refl };
        is = refl;
      })))
      k.layout (kept_cells v.reports e what) (kept_length v.reports e what)
      (answered_same v.counted _ (world_of v).open_edits _ v.done k.counted k.open_edits good.answered)
      (omega (arith, o, was, one_less, is_now)) few)

  steps_recovery : (p : ℕ) (said : Reply) → p < v.sheet.layout.processes → RecoveryMoves (world_of v) p said w → v.settled + shows_under_way v.situations + 0 ≤ SETTLED_MOST → Advanced v (Step p) said w
  steps_recovery p said low m few =
      let e : PlainRecoverCall = m.recovery in
      let what : Turn _ = recovery_steps.effect_at e e.stage in
      let k = to_value (λ (z : PlainWorld). recovery_steps.Steps e m.word (world_of v) z) v.done v.settled v.reports m.steps in
      let next : PlainWorld = world_of (at v.done v.settled v.reports) in
      let low_own : e.process < v.sheet.layout.processes = subst (λ (n : ℕ). n < v.sheet.layout.processes) (sym m.mine) low in
      let o = one e.process low_own k.layout v.done v.settled v.reports k.others in
      let none : reports_in (next.situation e.process) ≡ 0 = ap reports_in k.situation ∙ recovery_no e e.stage m.word in
      subst (λ (x : Reply). Advanced v (Step p) x w) (sym m.is)
      (finish (Step p) (recovery_reply what) v.done v.settled v.reports
      (of_turn answers.Recovery what p (at v.done v.settled v.reports) (core.recoveries (record {
        what = what;
        steps = record { there = low; recovery = e; mine = m.mine; at = m.at; word = m.word; steps = k; is = refl; done = refl; settled = refl; reports = refl };
        is = refl;
      })))
      k.layout refl refl
      (still_answered v.counted next.counted (world_of v).open_edits next.open_edits v.done
      (λ f there. subst (λ (l : List PlainEdit). Contains l f) (sym k.counted) there)
      (λ f issue there given is. elim (cases_eq f.process e.process) [
        | inl same ↦ ap (λ q. (world_of v).open_edits q) same ∙ issue_was e.stage _ issue (sym k.open_edits ∙ sym (ap (λ q. next.open_edits q) same) ∙ given)
        | inr other ↦ sym (k.others_open_edits f.process other) ∙ given
      ])
      good.answered)
      (omega (arith, o, none)) few)

  steps : (p : ℕ) (said : Reply) → p < v.sheet.layout.processes → StepMoves (world_of v) p said w → v.settled + shows_under_way v.situations + 0 ≤ SETTLED_MOST → Advanced v (Step p) said w
  steps p said low (edit m) few = steps_edit p said low m few
  steps p said low (work m) few = steps_work p said low m few
  steps p said low (report m) few = steps_show p said low m few
  steps p said low (recovery m) few = steps_recovery p said low m few

  -- ---- the others

  offers : (value : _) → Moves (world_of v) (Offer value) reply.Stepped w → v.settled + shows_under_way v.situations + 0 ≤ SETTLED_MOST → Advanced v (Offer value) reply.Stepped w
  offers value m few =
      let k = to_value (λ (z : PlainWorld). Moves (world_of v) (Offer value) reply.Stepped z) v.done v.settled v.reports m in
      let b = k.1.offers.turn in
      let own = k.1.mine in
      quiet (Offer value) reply.Stepped value.task.process k.1.waits.inside
      (record { waited = k.0; offered = k.1; done = refl; reports = record { settled = refl; reports = refl } })
      b.layout b.counted b.open_edits (λ q ne. b.others q (λ e. ne (e ∙ own)))
      (let n = ap (λ (q : ℕ). reports_in ((world_of (at v.done v.settled v.reports)).situation q)) (sym own) ∙ ap reports_in b.situation in omega (arith, n)) few

  evicts : (place : _) → Moves (world_of v) (Evict place) reply.Evicted w → v.settled + shows_under_way v.situations + 0 ≤ SETTLED_MOST → Advanced v (Evict place) reply.Evicted w
  evicts place m few =
      let k = to_value (λ (z : PlainWorld). Moves (world_of v) (Evict place) reply.Evicted z) v.done v.settled v.reports m in
      let u : shows_under_way now ≡ shows_under_way v.situations = same_under v.situations now over (as_long k.layout) (λ q low. k.situation q) in
      finish (Evict place) reply.Evicted v.done v.settled v.reports (record { evicts = k; done = refl; reports = record { settled = refl; reports = refl } })
      k.layout refl refl (answered_same v.counted _ (world_of v).open_edits _ v.done k.counted k.open_edits good.answered) (omega (arith, u)) few

  stops : (p : ℕ) → Moves (world_of v) (Stop p) reply.Stopped w → v.settled + shows_under_way v.situations + 0 ≤ SETTLED_MOST → Advanced v (Stop p) reply.Stopped w
  stops p m few =
      let k = to_value (λ (z : PlainWorld). Moves (world_of v) (Stop p) reply.Stopped z) v.done v.settled v.reports m in
      quiet (Stop p) reply.Stopped p k.0 (record { there = k.0; stops = k.1; done = refl; reports = record { settled = refl; reports = refl } })
      k.1.layout k.1.counted k.1.open_edits k.1.others (let n = ap reports_in k.1.situation in omega (arith, n)) few

  stays : (e : PlainEdit) → Contains v.counted e → ((issue : PlainIssue) → (world_of v).open_edits e.process ≡ Some issue → issue.edit ≢ e) → Contains (survivors (world_of v).memory v.counted) e
  unfolding survivors
  stays e there closed = to_filter (λ (f : PlainEdit). if is_lost (world_of v).memory f then false else true) v.counted e there (kept ((if is_lost (world_of v).memory e then false else true)) refl)
    where
      kept : (b : Bool) → (if is_lost (world_of v).memory e then false else true) ≡ b → (if is_lost (world_of v).memory e then false else true) ≡ true
      kept true is = is
      kept false is = (let o = crash.lost_open (world_of v) good.sound e there is in absurd (closed o.issue o.issued o.same))

  answered : CrashesTo (world_of v) (world_of (at v.done v.settled v.reports)) → HasAnswered (world_of (at v.done v.settled v.reports)).counted (world_of (at v.done v.settled v.reports)).open_edits v.done
  answered k = let a = good.answered in record {
    closed = a.closed;
    as_many = a.as_many;
    once = a.once;
    count = λ e there. subst (λ (l : List PlainEdit). Contains l e) (sym k.counted) (stays e (a.count e there) (λ issue is. a.answered e issue there is));
    answered = λ e issue inside is. a.answered e issue inside (sym (k.open_edits e.process) ∙ is);
  }

  crashes : Moves (world_of v) Crash reply.Crashed w → v.settled + shows_under_way v.situations + 0 ≤ SETTLED_MOST → Advanced v Crash reply.Crashed w
  crashes m few =
      let k = to_value (λ (z : PlainWorld). Moves (world_of v) Crash reply.Crashed z) v.done v.settled v.reports m in
      let none : shows_under_way now ≡ 0 = none_where now over (λ p low. ap reports_in (k.situation p (let l = tab_length w.situation w.layout.processes in let same = ap (λ (x : Layout). x.processes) k.layout in omega (arith, low, l, same)))) in
      finish Crash reply.Crashed v.done v.settled v.reports (record { crashes = k; done = refl; reports = record { settled = refl; reports = refl } })
      k.layout refl refl (answered k) (omega (arith, none)) few

  -- ---- each event

  pub advances : (event : Event) (said : Reply) → Moves (world_of v) event said w → v.settled + shows_under_way v.situations + begun_by event ≤ SETTLED_MOST → Advanced v event said w
  advances (BeginEdit r) (reply.Begun number) m few = begins_edit r number m few
  advances (BeginWork p cell) reply.Entered m few = begins_work p cell m few
  advances (BeginShow p) reply.Entered m few = begins_show p m few
  advances (BeginRecover p) reply.Entered m few = begins_recovery p m few
  advances (Step p) said m few = steps p said m.0 m.1 few
  advances (Offer value) reply.Stepped m few = offers value m few
  advances (Evict place) reply.Evicted m few = evicts place m few
  advances (Stop p) reply.Stopped m few = stops p m few
  advances Crash reply.Crashed m few = crashes m few
  advances event said m few = absurd m
