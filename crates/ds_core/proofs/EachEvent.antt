-- What each event does to a world's ledger.
use Rattle.std.proofs.Common.{ℕ, ◌≡◌, ◌≢◌, ◌+◌, ◌==◌, refl, ap, sym, ◌∙◌, subst, inl, inr, Some, None, true, false}
use Rattle.ds_state.specs.declared.turn.Turn.{Turn}
use Rattle.ds_state.specs.declared.migration.MigrateEnd.{MigrateEnd}
use Rattle.ds_state.specs.declared.recovery.RecoveryEnd.{RecoveryEnd}
use Rattle.ds_state.specs.declared.show.ShowEnd.{ShowEnd}
use Rattle.std.specs.Prelude.{Contains, Bool, nat_lt, if◌then◌else◌}
use Rattle.std.proofs.lemmas.Bool.{cases_eq}
use Rattle.ds_words.specs.Memory.{Memory, SameMemory}
use Rattle.ds_layout.specs.declared.place.Place.{Place}
use Rattle.ds_layout.specs.declared.place.Place.TheVariants.{Header}
use Rattle.ds_layout.specs.declared.layout.Layout.{Layout}
use Rattle.ds_layout.specs.Head.{head_of}
use Rattle.ds_layout.specs.SheetMemory.{PerformsAt}
use Rattle.ds_formula.specs.Cells.{index_of}
use Rattle.ds_state.specs.Edits.{PlainEditCall}
use Rattle.ds_state.specs.World.{PlainEdit}
use Rattle.ds_state.specs.Value.{WorldValue, world_of, IsGood}
use Rattle.ds_state.specs.declared.stage.Outcome.{Outcome}
use Rattle.ds_state.specs.declared.stage.Outcome.TheVariants as outcome
use Rattle.ds_state.specs.declared.stage.Stage.TheVariants.{Answer}
use Rattle.ds_state.specs.declared.situation.Situation.TheVariants.{Idle, Editing, Showing}
use Rattle.ds_state.specs.Works.{PlainShowCall}
use Rattle.ds_state.specs.KnownShow.{noted, reads_pending, reads_clean}
use Rattle.ds_state.specs.declared.show.ShowStage.{ShowStage}
use Rattle.ds_state.specs.declared.show.ShowStage.TheVariants as stages
use Rattle.ds_state.specs.declared.turn.Turn.TheVariants as turns
use Rattle.ds_show.specs.ShowSteps as shows
use Rattle.ds_edit.specs.EditTakes.{rest_before}
use Rattle.ds_edit.specs.EditSteps.{access_at}
use Rattle.ds_state.specs.EditEndings.{end_of, outcome_at, other_of}
use Rattle.ds_state.specs.declared.answer.Other.{Other}
use Rattle.ds_state.specs.declared.answer.Answer as replies
use Rattle.ds_state.specs.declared.answer.Answer.TheVariants.{Edit}
use Rattle.ds_state.specs.declared.answer.EditEnd.TheVariants.{Done, Overtaken}
use Rattle.ds_core.specs.MigrationEvents.{MigrationStepsBy, MigrationBegins, migration_reply}
use Rattle.ds_core.specs.EditEvents.{EditStepsBy}
use Rattle.ds_core.specs.ShowEvents.{show_reply, ShowBegins, ShowStepsBy}
use Rattle.ds_core.specs.StepEvents.{edits, works, reports, recoveries, migrations}
use Rattle.ds_core.specs.WorkEvents.{work_reply, WorkStepsBy, WorkBegins, TakesEntry}
use Rattle.ds_core.specs.RecoveryEvents.{recovery_reply, RecoveryStepsBy, RecoveryBegins}
use Rattle.ds_state.specs.declared.work.WorkEnd.{WorkEnd}
use Rattle.ds_core.specs.Takes.{Takes}
use Rattle.ds_core.specs.Moments.{Ledger}
use Rattle.ds_core.specs.LedgerSteps.{IsOvertakenBy, OneAccess, WordsMove, AnswerMoves, LedgerMoves}
use Rattle.ds_core.specs.declared.event.Event.{Event}
use Rattle.ds_core.specs.declared.event.Event.TheVariants.{BeginEdit, BeginWork, BeginShow, BeginRecover, BeginMigrate, Step, Offer, Evict, Stop, Crash}
use Rattle.ds_core.specs.declared.reply.Reply.{Reply}
use Rattle.ds_core.specs.declared.reply.Reply.TheVariants.{Begun, Entered, Refused, Stepped, Answered, WrongTask, Evicted, Stopped, Crashed, NotEnabled}
use Rattle.ds_core.proofs.Traces as traces
use Rattle.ds_core.proofs.Moves.{begins_move, step_moves}
use Rattle.ds_edit.proofs.Driving.{answers_at}
use Rattle.ds_core.proofs.Replied.{replied}
use Rattle.ds_core.proofs.Bound.{unanswered_at, after_on, same_layout}
use Rattle.ds_core.proofs.Solo.{some_outcome, after_answer}
use Rattle.ds_core.proofs.Ledgers.{IsOf, SaysSame, says_same, numbered, doubts, stays, issued, issue_of, issues_fit, pushed, push_of, own, counts_fit, closing, put_other, closed, close_of, closes_fit, stands_here, out_here, overtaken_here, doubted, stop_of, left, left_loses, crash_of}
use Rattle.ds_core.proofs.Carry.{StepFits}
use Rattle.ds_core.proofs.Turns.{LeavesEdits, show_turn, show_begins_turn, work_leaves, work_begins_leaves, offer_leaves}
use Rattle.ds_core.proofs.Moved.{put_here}
use Rattle.ds_core.proofs.Headers.{SidesStay, sides_same}
use Rattle.ds_core.proofs.Told.{Tells}
use Rattle.ds_core.proofs.Telling.{tells_quiet, tells_evicted, tells_stopped, tells_crashed}
use Rattle.ds_core.proofs.ToldEdits.{tells_begun, tells_edit_on, tells_counted, tells_answered, overtaken_is_out}
use Rattle.ds_core.proofs.ToldCalls.{show_sides, work_sides_of}
use Rattle.ds_core.proofs.Recovered.{tells_recovery_begun, tells_recovery_on}
use Rattle.ds_core.proofs.Resolved.{resolves}
use Rattle.ds_core.proofs.AtWork.{StaysAtWork, at_work_sure, work_says, work_stays, work_begins_stays, offer_stays}
use Rattle.ds_core.proofs.AtMigration.{migration_access, migration_says, migration_begins_says, tells_migration_on, tells_migration_begun}
use Rattle.ds_core.proofs.AtRecovery.{recovery_begins_after, recovery_access, recovery_pending, recovery_says}

-- ---- one event

if_next : (b : Bool) (x y : PlainShowCall) (n : ℕ) → x.next ≡ n → y.next ≡ n → (if b then x else y).next ≡ n
if_next true x y n a b = a
if_next false x y n a b = b

-- a show keeps the number of its process's next edit
next_stays : (e : PlainShowCall) (s : ShowStage) (word : ℕ) → (shows.next_at e s word).next ≡ e.next
next_stays e (stages.LoadAnnounce i) word = if_next (reads_pending word) _ _ e.next refl (if_next (nat_lt (i + 1) e.processes) _ _ e.next refl refl)
next_stays e (stages.LoadMark i) word = if_next (reads_clean e.processes word) _ _ e.next (if_next (nat_lt (i + 1) e.cells) _ _ e.next refl refl) refl
next_stays e (stages.LoadValue i) word = refl
next_stays e (stages.LoadKind i) word = if_next (nat_lt (i + 1) e.cells) _ _ e.next refl refl
next_stays e (stages.AgainMark i) word = if_next (word == noted e.marks i) _ _ e.next (if_next (nat_lt (i + 1) e.cells) _ _ e.next refl refl) refl
next_stays e (stages.AgainAnnounce i) word = if_next (word == noted e.announcements i) _ _ e.next (if_next (nat_lt (i + 1) e.processes) _ _ e.next refl refl) refl
next_stays e (stages.Answer end) word = refl

goes : (e : PlainShowCall) (s : ShowStage) (word : ℕ) → SaysSame (Showing e) (Showing (shows.next_at e s word))
goes e s word = record { number = ap (λ n. Some n) (next_stays e s word); doubt = refl }

the_answer : (a b : replies.Answer) → Answered b ≡ Answered a → b ≡ a
the_answer a b is = cc

-- the ledger after an event: it has moved as it may, it is the world's, and the words say its closed edits
pub record Next (place : ℕ) (layout : Layout) (l : Ledger) (v : WorldValue) (event : Event) (reply : Reply) (v' : WorldValue) : Type 0 where
  pub ledger : Ledger
  pub fits : StepFits place layout.shape (record { world = v; ledger = l }) event reply (record { world = v'; ledger = ledger })
  pub after : IsOf layout ledger v'
  pub tells : Tells ledger v'

still : (m : Memory Place) → SameMemory m m
still m = record { cached = λ r. refl; persisted = λ r. refl; buffer = λ q. refl }

module _ (place : ℕ) (layout : Layout) (l : Ledger) (v v' : WorldValue) (h : IsOf layout l v) (tells : Tells l v) (good : IsGood v') where
  unchanged : (event : Event) (reply : Reply) → Takes v event reply v → v' ≡ v → WordsMove (world_of v).memory event reply (world_of v).memory → LedgerMoves place layout.shape l event reply l → Next place layout l v event reply v'
  unchanged event reply takes is words ledger = subst (λ (x : WorldValue). Next place layout l v event reply x) (sym is)
      (record { ledger = l; fits = record { layout = refl; takes = takes; words = words; ledger = ledger }; after = h; tells = tells })

  kept_layout : (event : Event) (reply : Reply) → Takes v event reply v' → v'.sheet.layout ≡ layout
  kept_layout event reply t = same_layout v v' event reply t ∙ h.same

  begins : (r : _) (n : ℕ) → Takes v (BeginEdit r) (Begun n) v' → Next place layout l v (BeginEdit r) (Begun n) v'
  begins r n t =
      let e : PlainEditCall = t.begun.edit in
      let asked = t.begun.asked.asked in
      let process : e.process ≡ r.process = ap (λ (x : PlainEdit). x.process) asked in
      let number : e.number ≡ n = ap (λ (x : PlainEdit). x.number) asked in
      let edit : PlainEdit = record { process = r.process; number = n; cell = index_of layout.shape r.cell; text = r.text } in
      let s : traces.Issues (world_of v) edit (world_of v') =
      subst (λ (x : Layout). traces.Issues (world_of v) (record { process = r.process; number = n; cell = index_of x.shape r.cell; text = r.text }) (world_of v')) h.same
      (begins_move (world_of v) (world_of v') h.good.sound r.process _ r.text n t.begun) in
      let was : (world_of v).situation r.process ≡ Idle (rest_before e) = ap (λ q. (world_of v).situation q) (sym process) ∙ t.begun.begins.idle in
      let told : numbered ((world_of v).situation r.process) ≡ Some n = ap numbered was ∙ ap (λ i. Some i) number in
      let idle : (world_of v).situation e.process ≡ Idle (rest_before e) = t.begun.begins.idle in
      let all : (q : ℕ) → SaysSame ((world_of v).situation q) ((world_of v').situation q) = λ q. elim (cases_eq q e.process) [
        | inl here ↦ (
            let now = ap (λ x. (world_of v').situation x) here ∙ t.begun.begins.situation in
            let before = ap (λ x. (world_of v).situation x) here ∙ idle in
            record { number = ap numbered now ∙ sym (ap numbered before); doubt = ap doubts now ∙ sym (ap doubts before) })
        | inr other ↦ says_same _ _ (t.begun.begins.others q other)
      ] in
      let sure : doubts ((world_of v).situation r.process) ≡ false = ap doubts was in
      let kept = kept_layout (BeginEdit r) (Begun n) t in
      record {
        ledger = issued layout l v v' h good kept place edit s all sure;
        fits = record {
          layout = kept ∙ sym h.same;
          takes = t;
          words = t.begun.begins.memory;
          ledger = issues_fit layout l v v' h good kept place edit s all sure (h.numbers r.process n told);
        };
        after = issue_of layout l v v' h good kept place edit s all sure;
        tells = tells_begun l (issued layout l v v' h good kept place edit s all sure) v v' edit tells s t.begun.begins.layout t.begun.begins.memory
            (λ q ne. t.begun.begins.others q (λ same. ne (same ∙ process))) ((all r.process).doubt ∙ sure) (h.numbers r.process n told) (refl {a = l.counted}) (λ q. refl {a = l.told q});
      }

  module _ (p : ℕ) (reply : Reply) (t : EditStepsBy v p reply v') where
    access : OneAccess p (world_of v).memory (world_of v').memory
    access = (access_at t.steps.edit t.steps.edit.stage, t.steps.word, subst (λ (q : ℕ). PerformsAt (access_at t.steps.edit t.steps.edit.stage) q (world_of v).memory (world_of v').memory t.steps.word) t.steps.mine t.steps.steps.memory)

    here : (world_of v).situation p ≡ Editing t.steps.edit
    here = t.steps.at

    pub sure : doubts ((world_of v).situation p) ≡ false
    sure = ap doubts t.steps.at

    pub other_same : (q : ℕ) → q ≢ p → SaysSame ((world_of v).situation q) ((world_of v').situation q)
    other_same q other = says_same _ _ (t.steps.steps.others q (λ same. other (same ∙ t.steps.mine)))

    pub all_same : outcome_at t.steps.edit.stage ≡ None → (q : ℕ) → SaysSame ((world_of v).situation q) ((world_of v').situation q)
    all_same goes q = elim (cases_eq q p) [
      | inl here ↦ (
          let now = ap (λ x. (world_of v').situation x) (here ∙ sym t.steps.mine) ∙ t.steps.steps.situation ∙ after_on t.steps.edit t.steps.edit.stage t.steps.word goes in
          let before = ap (λ x. (world_of v).situation x) here ∙ t.steps.at in
          record { number = ap numbered now ∙ sym (ap numbered before); doubt = ap doubts now ∙ sym (ap doubts before) })
      | inr other ↦ other_same q other
    ]

    idle_after : (how : Outcome) → t.steps.edit.stage ≡ Answer how → doubts ((world_of v').situation p) ≡ false
    idle_after how at = ap (λ x. doubts ((world_of v').situation x)) (sym t.steps.mine) ∙ ap doubts (t.steps.steps.situation ∙ after_answer t.steps.edit t.steps.edit.stage how t.steps.word at)

    pub number_after : (how : Outcome) → t.steps.edit.stage ≡ Answer how → numbered ((world_of v').situation p) ≡ Some (t.steps.edit.number + 1)
    number_after how at = ap (λ x. numbered ((world_of v').situation x)) (sym t.steps.mine) ∙ ap numbered (t.steps.steps.situation ∙ after_answer t.steps.edit t.steps.edit.stage how t.steps.word at)

  stepped : (p : ℕ) → EditStepsBy v p Stepped v' → Next place layout l v (Step p) Stepped v'
  stepped p t =
      let goes : outcome_at t.steps.edit.stage ≡ None = unanswered_at v.sheet.layout.processes t.steps.edit.number (outcome_at t.steps.edit.stage) (replied v v' p Stepped t) in
      let all = all_same p Stepped t goes in
      let kept = kept_layout (Step p) Stepped (edits t) in
      elim (step_moves v v' h.good.sound p Stepped t) [
        | inl s ↦ record {
          ledger = l;
          fits = record { layout = kept ∙ sym h.same; takes = edits t; words = access p Stepped t; ledger = inl refl };
          after = stays layout l v v' h good kept s all;
          tells = tells_edit_on layout l v v' h tells p Stepped t (s.open_edits p) ((all p).doubt ∙ sure p Stepped t);
        }
        | inr s ↦ record {
          ledger = pushed layout l v v' h good kept p s all (sure p Stepped t);
          fits = record { layout = kept ∙ sym h.same; takes = edits t; words = access p Stepped t; ledger = inr (counts_fit layout l v v' h good kept p s all (sure p Stepped t)) };
          after = push_of layout l v v' h good kept p s all (sure p Stepped t);
          tells = (let own = own layout l v v' h good kept p s all (sure p Stepped t) in
              tells_counted layout l v v' h tells p Stepped t (s.open_edits p) ((all p).doubt ∙ sure p Stepped t) (pushed layout l v v' h good kept p s all (sure p Stepped t)) own.o.it refl (λ q. refl)
              s.issue s.open_is own.edit);
        }
      ]

  answered_by : (p : ℕ) (how : Outcome) (number : ℕ) (answer : replies.Answer) → answer ≡ Edit (end_of v.sheet.layout.processes number how)
      → (t : EditStepsBy v p (Answered answer) v') → t.steps.edit.stage ≡ Answer how → t.steps.edit.number ≡ number → Next place layout l v (Step p) (Answered answer) v'
  answered_by p outcome.Done number answer is t at same =
      let t' : EditStepsBy v p (Answered (Edit (Done number))) v' = subst (λ (a : replies.Answer). EditStepsBy v p (Answered a) v') is t in
      let s : traces.Closes (world_of v) p number (λ issue. Contains v.counted issue.edit) (world_of v') = step_moves v v' h.good.sound p (Answered (Edit (Done number))) t' in
      let kept = kept_layout (Step p) (Answered answer) (edits t) in
      let now = number_after p (Answered answer) t outcome.Done at ∙ ap (λ n. Some (n + 1)) same in
      let others = other_same p (Answered answer) t in
      let sure = sure p (Answered answer) t in
      subst (λ (a : replies.Answer). Next place layout l v (Step p) (Answered a) v') (sym is) (record {
        ledger = closed layout l v v' h good kept p number _ true s now others sure;
        fits = record {
          layout = kept ∙ sym h.same;
          takes = edits t';
          words = access p (Answered answer) t;
          ledger = closes_fit layout l v v' h good kept p number _ true s now others sure (λ o. Unit {0}) (stands_here layout l v v' h good kept p number _ true s now others sure s.is) tt;
        };
        after = close_of layout l v v' h good kept p number _ true s now others sure;
        tells = (let c = closing layout l v v' h good kept p number _ true s now others sure in
            tells_answered layout l v v' h tells p (Answered answer) t outcome.Done at s.issue s.open_is (closed layout l v v' h good kept p number _ true s now others sure) (record { it = c.o.it; counts = true })
            (put_here l.told p (Some (record { it = c.o.it; counts = true }))) (λ q ne. put_other l.told p (Some (record { it = c.o.it; counts = true })) q ne) refl c.edit (stands_here layout l v v' h good kept p number _ true s now others sure s.is) s.closed (idle_after p (Answered answer) t outcome.Done at));
      })
  answered_by p (outcome.Overtaken noted seen) number answer is t at same =
      let other : Other = other_of (head_of v.sheet.layout.processes seen) in
      let t' : EditStepsBy v p (Answered (Edit (Overtaken number other))) v' = subst (λ (a : replies.Answer). EditStepsBy v p (Answered a) v') is t in
      let s : traces.Closes (world_of v) p number (traces.IsOvertakenBy (world_of v) other) (world_of v') = step_moves v v' h.good.sound p (Answered (Edit (Overtaken number other))) t' in
      let kept = kept_layout (Step p) (Answered answer) (edits t) in
      let now = number_after p (Answered answer) t (outcome.Overtaken noted seen) at ∙ ap (λ n. Some (n + 1)) same in
      let others = other_same p (Answered answer) t in
      let sure = sure p (Answered answer) t in
      subst (λ (a : replies.Answer). Next place layout l v (Step p) (Answered a) v') (sym is) (record {
        ledger = closed layout l v v' h good kept p number _ false s now others sure;
        fits = record {
          layout = kept ∙ sym h.same;
          takes = edits t';
          words = access p (Answered answer) t;
          ledger = closes_fit layout l v v' h good kept p number _ false s now others sure (IsOvertakenBy l other) (out_here layout l v v' h good kept p number _ false s now others sure s.is.out) (overtaken_here layout l v v' h good kept p number _ false s now others sure other s.is);
        };
        after = close_of layout l v v' h good kept p number _ false s now others sure;
        tells = (let c = closing layout l v v' h good kept p number _ false s now others sure in
            tells_answered layout l v v' h tells p (Answered answer) t (outcome.Overtaken noted seen) at s.issue s.open_is (closed layout l v v' h good kept p number _ false s now others sure) (record { it = c.o.it; counts = false })
            (put_here l.told p (Some (record { it = c.o.it; counts = false }))) (λ q ne. put_other l.told p (Some (record { it = c.o.it; counts = false })) q ne) refl c.edit (overtaken_is_out layout l v v' h tells p (Answered answer) t noted seen at s.issue s.open_is (closing layout l v v' h good kept p number _ false s now others sure).o.it (closing layout l v v' h good kept p number _ false s now others sure).edit) s.closed (idle_after p (Answered answer) t (outcome.Overtaken noted seen) at));
      })

  answered : (p : ℕ) (answer : replies.Answer) → EditStepsBy v p (Answered answer) v' → Next place layout l v (Step p) (Answered answer) v'
  answered p answer t =
      let found = some_outcome v.sheet.layout.processes t.steps.edit.number answer (outcome_at t.steps.edit.stage) (replied v v' p (Answered answer) t) in
      answered_by p found.0 t.steps.edit.number answer found.2 t (answers_at t.steps.edit.stage found.0 found.1) refl

  -- a turn of a process that leaves the list, its issues, and what each process says of its edits
  silent : (event : Event) (reply : Reply) → Takes v event reply v' → v'.counted ≡ v.counted → ((q : ℕ) → (world_of v').open_edits q ≡ (world_of v).open_edits q) → ((q : ℕ) → SaysSame ((world_of v).situation q) ((world_of v').situation q))
      → WordsMove (world_of v).memory event reply (world_of v').memory → LedgerMoves place layout.shape l event reply l → Tells l v' → Next place layout l v event reply v'
  silent event reply t counted pending all words ledger told =
      let kept = kept_layout event reply t in
      record {
        ledger = l;
        fits = record { layout = kept ∙ sym h.same; takes = t; words = words; ledger = ledger };
        after = stays layout l v v' h good kept (record { counted = counted; open_edits = pending }) all;
        tells = told;
      }

  -- a show begins
  shows_begin : (p : ℕ) → ShowBegins v p v' → Next place layout l v (BeginShow p) Entered v'
  shows_begin p t =
      let b = t.begun.begins in
      silent (BeginShow p) Entered t b.counted b.open_edits (λ q. elim (cases_eq q p) [
        | inl here ↦ (
            let now = ap (λ x. (world_of v').situation x) here ∙ b.situation in
            let before = ap (λ x. (world_of v).situation x) here ∙ b.idle in
            record { number = ap numbered now ∙ sym (ap numbered before); doubt = ap doubts now ∙ sym (ap doubts before) })
        | inr other ↦ says_same _ _ (b.others q other)
      ]) b.memory refl (tells_quiet l v v' p tells (show_begins_turn v v' p h.good.sound t) b.layout (λ c is. sides_same (world_of v).memory (world_of v').memory (Header p c.it.edit.number) b.memory) (b.open_edits p) (ap doubts b.situation))

  -- a show makes a step
  module _ (p : ℕ) (reply : Reply) (t : ShowStepsBy v p reply v') where
    show_access : OneAccess p (world_of v).memory (world_of v').memory
    show_access = (shows.access_at t.steps.show.stage, t.steps.word, subst (λ (q : ℕ). PerformsAt (shows.access_at t.steps.show.stage) q (world_of v).memory (world_of v').memory t.steps.word) t.steps.mine t.steps.steps.memory)

    after_says : (e : PlainShowCall) (s : ShowStage) (word : ℕ) → SaysSame (Showing e) (shows.after e s word)
    after_says e (stages.Answer end) word = record { number = refl; doubt = refl }
    after_says e (stages.LoadAnnounce i) word = goes e (stages.LoadAnnounce i) word
    after_says e (stages.LoadMark i) word = goes e (stages.LoadMark i) word
    after_says e (stages.LoadValue i) word = goes e (stages.LoadValue i) word
    after_says e (stages.LoadKind i) word = goes e (stages.LoadKind i) word
    after_says e (stages.AgainMark i) word = goes e (stages.AgainMark i) word
    after_says e (stages.AgainAnnounce i) word = goes e (stages.AgainAnnounce i) word

    show_says : (q : ℕ) → SaysSame ((world_of v).situation q) ((world_of v').situation q)
    show_says q = elim (cases_eq q p) [
      | inl here ↦ (
          let now : (world_of v').situation q ≡ shows.after t.steps.show t.steps.show.stage t.steps.word = ap (λ x. (world_of v').situation x) (here ∙ sym t.steps.mine) ∙ t.steps.steps.situation in
          let before : (world_of v).situation q ≡ Showing t.steps.show = ap (λ x. (world_of v).situation x) here ∙ t.steps.at in
          let s = after_says t.steps.show t.steps.show.stage t.steps.word in
          record { number = ap numbered now ∙ s.number ∙ sym (ap numbered before); doubt = ap doubts now ∙ s.doubt ∙ sym (ap doubts before) })
      | inr other ↦ says_same _ _ (t.steps.steps.others q (λ same. other (same ∙ t.steps.mine)))
    ]

    show_tells : Tells l v'
    show_tells = tells_quiet l v v' p tells (show_turn v v' p reply h.good.sound t) t.steps.steps.layout (λ c is. show_sides p c.it.edit.number v v' reply t) (t.steps.steps.open_edits p) ((show_says p).doubt ∙ ap doubts t.steps.at)

  show_stepped : (p : ℕ) → ShowStepsBy v p Stepped v' → Next place layout l v (Step p) Stepped v'
  show_stepped p t = silent (Step p) Stepped (reports t) t.steps.steps.counted t.steps.steps.open_edits (show_says p Stepped t) (show_access p Stepped t) (inl refl) (show_tells p Stepped t)

  show_answered : (p : ℕ) (answer : replies.Answer) → ShowStepsBy v p (Answered answer) v' → Next place layout l v (Step p) (Answered answer) v'
  show_answered p answer t =
      silent (Step p) (Answered answer) (reports t) t.steps.steps.counted t.steps.steps.open_edits (show_says p (Answered answer) t) (show_access p (Answered answer) t) (nothing t.what answer t.is) (show_tells p (Answered answer) t)
    where
      nothing : (what : Turn ShowEnd) (answer : replies.Answer) → Answered answer ≡ show_reply what → AnswerMoves l p answer l
      nothing turns.GoesOn answer is = absurd (cc)
      nothing (turns.Answers end) answer is = subst (λ (a : replies.Answer). AnswerMoves l p a l) (the_answer answer _ (sym is)) refl

  -- work begins, is offered an entry, makes a step
  work_tells : (p : ℕ) → (k : LeavesEdits p v v') → (a : StaysAtWork p v v') → ((n : ℕ) → SidesStay (world_of v).memory (world_of v').memory (Header p n)) → Tells l v'
  work_tells p k a sides = tells_quiet l v v' p tells k.turn k.layout (λ c is. sides c.it.edit.number) (k.open_edits p) (at_work_sure a.number _ a.now)

  work_begins : (p : ℕ) (cell : _) → WorkBegins v p cell v' → Next place layout l v (BeginWork p cell) Entered v'
  work_begins p cell t =
      let k = work_begins_leaves v v' p cell h.good.sound t in
      silent (BeginWork p cell) Entered t k.counted k.open_edits (work_says p v v' (work_begins_stays p v v' cell t) k.turn) t.begun.begins.turn.memory refl
      (work_tells p k (work_begins_stays p v v' cell t) (λ n. sides_same (world_of v).memory (world_of v').memory (Header p n) t.begun.begins.turn.memory))

  offers : (value : _) → TakesEntry v value v' → Next place layout l v (Offer value) Stepped v'
  offers value t =
      let k = offer_leaves v v' value h.good.sound t in
      silent (Offer value) Stepped t k.counted k.open_edits (work_says value.task.process v v' (offer_stays v v' value t) k.turn) t.offered.offers.turn.memory refl
      (work_tells value.task.process k (offer_stays v v' value t) (λ n. sides_same (world_of v).memory (world_of v').memory (Header value.task.process n) t.offered.offers.turn.memory))

  work_stepped : (p : ℕ) → WorkStepsBy v p Stepped v' → Next place layout l v (Step p) Stepped v'
  work_stepped p t =
      let k = work_leaves v v' p Stepped h.good.sound t in
      silent (Step p) Stepped (works t) k.counted k.open_edits (work_says p v v' (work_stays p v v' Stepped t) k.turn) k.words (inl refl)
      (work_tells p k (work_stays p v v' Stepped t) (λ n. work_sides_of p n v v' Stepped h.good.sound t))

  work_answered : (p : ℕ) (answer : replies.Answer) → WorkStepsBy v p (Answered answer) v' → Next place layout l v (Step p) (Answered answer) v'
  work_answered p answer t =
      let k = work_leaves v v' p (Answered answer) h.good.sound t in
      silent (Step p) (Answered answer) (works t) k.counted k.open_edits (work_says p v v' (work_stays p v v' (Answered answer) t) k.turn) k.words (nothing t.what answer t.is)
      (work_tells p k (work_stays p v v' (Answered answer) t) (λ n. work_sides_of p n v v' (Answered answer) h.good.sound t))
    where
      nothing : (what : Turn WorkEnd) (answer : replies.Answer) → Answered answer ≡ work_reply what → AnswerMoves l p answer l
      nothing turns.GoesOn answer is = absurd (cc)
      nothing (turns.Answers end) answer is = subst (λ (a : replies.Answer). AnswerMoves l p a l) (the_answer answer _ (sym is)) refl

  -- a recovery begins, and makes a step
  recovery_begins : (p : ℕ) → RecoveryBegins v p v' → Next place layout l v (BeginRecover p) Entered v'
  recovery_begins p t =
      let kept = kept_layout (BeginRecover p) Entered t in
      record {
        ledger = l;
        fits = record { layout = kept ∙ sym h.same; takes = t; words = t.begun.begins.memory; ledger = refl };
        after = recovery_begins_after layout l v v' h good p t;
        tells = tells_recovery_begun layout l v v' p h tells t;
      }

  recovery_goes : (what : Turn RecoveryEnd) → Stepped ≡ recovery_reply what → what ≡ turns.GoesOn
  recovery_goes turns.GoesOn is = refl
  recovery_goes (turns.Answers end) is = absurd (cc)

  recovery_stepped : (p : ℕ) → RecoveryStepsBy v p Stepped v' → Next place layout l v (Step p) Stepped v'
  recovery_stepped p t =
      let goes = recovery_goes t.what t.is in
      silent (Step p) Stepped (recoveries t) t.steps.steps.counted (recovery_pending v v' p Stepped t goes) (recovery_says v v' p Stepped t goes) (recovery_access v v' p Stepped t) (inl refl) (tells_recovery_on layout l v v' p Stepped h tells t goes)

  -- a migration begins, and makes a step
  migration_begins : (p : ℕ) → MigrationBegins v p v' → Next place layout l v (BeginMigrate p) Entered v'
  migration_begins p t = silent (BeginMigrate p) Entered t t.begun.counted t.begun.open_edits (migration_begins_says layout l v v' p h tells t) t.begun.memory refl (tells_migration_begun layout l v v' p h tells t)

  migration_stepped : (p : ℕ) → MigrationStepsBy v p Stepped v' → Next place layout l v (Step p) Stepped v'
  migration_stepped p t = silent (Step p) Stepped (migrations t) t.steps.steps.counted t.steps.steps.open_edits (migration_says v v' p Stepped t) (migration_access v v' p Stepped t) (inl refl) (tells_migration_on layout l v v' p Stepped h tells t)

  migration_answered : (p : ℕ) (answer : replies.Answer) → MigrationStepsBy v p (Answered answer) v' → Next place layout l v (Step p) (Answered answer) v'
  migration_answered p answer t =
      silent (Step p) (Answered answer) (migrations t) t.steps.steps.counted t.steps.steps.open_edits (migration_says v v' p (Answered answer) t) (migration_access v v' p (Answered answer) t) (nothing t.what answer t.is) (tells_migration_on layout l v v' p (Answered answer) h tells t)
    where
      nothing : (what : Turn MigrateEnd) (answer : replies.Answer) → Answered answer ≡ migration_reply what → AnswerMoves l p answer l
      nothing turns.GoesOn answer is = absurd (cc)
      nothing (turns.Answers end) answer is = subst (λ (a : replies.Answer). AnswerMoves l p a l) (the_answer answer _ (sym is)) refl

  recovery_answered : (p : ℕ) (answer : replies.Answer) → RecoveryStepsBy v p (Answered answer) v' → Next place layout l v (Step p) (Answered answer) v'
  recovery_answered p answer t =
      let kept = kept_layout (Step p) (Answered answer) (recoveries t) in
      let r = resolves layout l v v' h good tells p answer t in
      record {
        ledger = r.ledger;
        fits = record { layout = kept ∙ sym h.same; takes = recoveries t; words = recovery_access v v' p (Answered answer) t; ledger = r.moves };
        after = r.after;
        tells = r.tells;
      }

  evicts : (word : Place) → Takes v (Evict word) Evicted v' → Next place layout l v (Evict word) Evicted v'
  evicts word t =
      let kept = kept_layout (Evict word) Evicted t in
      record {
        ledger = l;
        fits = record { layout = kept ∙ sym h.same; takes = t; words = t.evicts.memory; ledger = refl };
        after = stays layout l v v' h good kept (record { counted = t.evicts.counted; open_edits = t.evicts.open_edits }) (λ q. says_same _ _ (t.evicts.situation q));
        tells = tells_evicted l v v' word tells t.evicts;
      }

  stops : (p : ℕ) → Takes v (Stop p) Stopped v' → Next place layout l v (Stop p) Stopped v'
  stops p t =
      let kept = kept_layout (Stop p) Stopped t in
      record {
        ledger = doubted layout l v v' h good kept p t.stops;
        fits = record { layout = kept ∙ sym h.same; takes = t; words = t.stops.memory; ledger = refl };
        after = stop_of layout l v v' h good kept p t.stops;
        tells = tells_stopped layout l v v' h tells p t (doubted layout l v v' h good kept p t.stops) refl refl;
      }

  crashes : Takes v Crash Crashed v' → Next place layout l v Crash Crashed v'
  crashes t =
      let kept = kept_layout Crash Crashed t in
      record {
        ledger = left layout l v v' h good kept t.crashes;
        fits = record { layout = kept ∙ sym h.same; takes = t; words = t.crashes.memory; ledger = left_loses layout l v v' h good kept t.crashes };
        after = crash_of layout l v v' h good kept t.crashes;
        tells = tells_crashed layout l v v' h tells good t.crashes (left layout l v v' h good kept t.crashes) (left_loses layout l v v' h good kept t.crashes);
      }

  pub next : (event : Event) (reply : Reply) → Takes v event reply v' → Next place layout l v event reply v'
  next (BeginEdit r) (Begun number) t = begins r number t
  next (BeginEdit r) (Refused why) t = unchanged (BeginEdit r) (Refused why) (subst (λ (x : WorldValue). Takes v (BeginEdit r) (Refused why) x) t.same t) t.same (still (world_of v).memory) refl
  next (BeginEdit r) NotEnabled t = unchanged (BeginEdit r) NotEnabled (subst (λ (x : WorldValue). Takes v (BeginEdit r) NotEnabled x) t.same t) t.same (still (world_of v).memory) refl
  next (BeginEdit r) _ t = absurd t
  next (Step p) Stepped (edits t) = stepped p t
  next (Step p) Stepped (reports t) = show_stepped p t
  next (Step p) Stepped (works t) = work_stepped p t
  next (Step p) Stepped (recoveries t) = recovery_stepped p t
  next (Step p) Stepped (migrations t) = migration_stepped p t
  next (Step p) (Answered answer) (edits t) = answered p answer t
  next (Step p) (Answered answer) (reports t) = show_answered p answer t
  next (Step p) (Answered answer) (works t) = work_answered p answer t
  next (Step p) (Answered answer) (recoveries t) = recovery_answered p answer t
  next (Step p) (Answered answer) (migrations t) = migration_answered p answer t
  next (Step p) NotEnabled t = unchanged (Step p) NotEnabled (subst (λ (x : WorldValue). Takes v (Step p) NotEnabled x) t.same t) t.same (still (world_of v).memory) refl
  next (Step p) _ t = absurd t
  next (Evict word) Evicted t = evicts word t
  next (Evict word) NotEnabled t = unchanged (Evict word) NotEnabled (subst (λ (x : WorldValue). Takes v (Evict word) NotEnabled x) t.same t) t.same (still (world_of v).memory) refl
  next (Evict word) _ t = absurd t
  next (BeginShow p) Entered t = shows_begin p t
  next (BeginShow p) (Refused why) t = unchanged (BeginShow p) (Refused why) (subst (λ (x : WorldValue). Takes v (BeginShow p) (Refused why) x) t.same t) t.same (still (world_of v).memory) refl
  next (BeginShow p) NotEnabled t = unchanged (BeginShow p) NotEnabled (subst (λ (x : WorldValue). Takes v (BeginShow p) NotEnabled x) t.same t) t.same (still (world_of v).memory) refl
  next (BeginShow p) _ t = absurd t
  next (Stop p) Stopped t = stops p t
  next (Stop p) NotEnabled t = unchanged (Stop p) NotEnabled (subst (λ (x : WorldValue). Takes v (Stop p) NotEnabled x) t.same t) t.same (still (world_of v).memory) refl
  next (Stop p) _ t = absurd t
  next Crash Crashed t = crashes t
  next Crash _ t = absurd t
  next (BeginWork q cell) Entered t = work_begins q cell t
  next (BeginWork q cell) (Refused why) t = unchanged (BeginWork q cell) (Refused why) (subst (λ (x : WorldValue). Takes v (BeginWork q cell) (Refused why) x) t.same t) t.same (still (world_of v).memory) refl
  next (BeginWork q cell) NotEnabled t = unchanged (BeginWork q cell) NotEnabled (subst (λ (x : WorldValue). Takes v (BeginWork q cell) NotEnabled x) t.same t) t.same (still (world_of v).memory) refl
  next (BeginWork q cell) _ t = absurd t
  next (BeginRecover q) Entered t = recovery_begins q t
  next (BeginRecover q) (Refused why) t = unchanged (BeginRecover q) (Refused why) (subst (λ (x : WorldValue). Takes v (BeginRecover q) (Refused why) x) t.same t) t.same (still (world_of v).memory) refl
  next (BeginRecover q) NotEnabled t = unchanged (BeginRecover q) NotEnabled (subst (λ (x : WorldValue). Takes v (BeginRecover q) NotEnabled x) t.same t) t.same (still (world_of v).memory) refl
  next (BeginRecover q) _ t = absurd t
  next (BeginMigrate q) Entered t = migration_begins q t
  next (BeginMigrate q) (Refused why) t = unchanged (BeginMigrate q) (Refused why) (subst (λ (x : WorldValue). Takes v (BeginMigrate q) (Refused why) x) t.same t) t.same (still (world_of v).memory) refl
  next (BeginMigrate q) NotEnabled t = unchanged (BeginMigrate q) NotEnabled (subst (λ (x : WorldValue). Takes v (BeginMigrate q) NotEnabled x) t.same t) t.same (still (world_of v).memory) refl
  next (BeginMigrate q) _ t = absurd t
  next (Offer value) Stepped t = offers value t
  next (Offer value) WrongTask t = unchanged (Offer value) WrongTask (subst (λ (x : WorldValue). Takes v (Offer value) WrongTask x) t.same t) t.same (still (world_of v).memory) refl
  next (Offer value) _ t = absurd t
