-- A step of an edit keeps a world good.
use Rattle.std.proofs.Common.{ℕ, ◌≡◌, ◌<◌, ◌≤◌, ◌*◌, ◌⊎◌, List, [], ◌∷◌, ◌++◌, refl, ap, sym, ◌∙◌, subst, arith, length, length-append, get_or, set, inl, inr, Bool, true, false, ◌==◌}
use Rattle.std.specs.Prelude.{Contains, Some, None, Option, if◌then◌else◌}
use Rattle.std.proofs.Math.ListN.{length-set}
use Rattle.std.proofs.lemmas.Bool.{eq-eqb, cases_eq}
use Rattle.std.proofs.lemmas.List.{get_or-set_same, get_or-set_other, get_or_default}
use Rattle.std.proofs.lemmas.List.Elements.{Contains-append_left}
use Rattle.ds_layout.specs.declared.layout.Layout.{Layout}
use Rattle.ds_layout.specs.declared.place.TheConstants.{RECORDS}
use Rattle.ds_layout.specs.SheetMemory.{SheetValue, memory, CanPerform, PerformsAt}
use Rattle.ds_state.specs.Edits.{PlainEditCall}
use Rattle.ds_state.specs.World.{PlainEdit, PlainIssue, edit_of}
use Rattle.ds_state.specs.Value.{first_rest, WorldValue, world_of, IsGood, IsReserved}
use Rattle.ds_state.specs.CallsFit.{CallFits, EditFits}
use Rattle.ds_state.specs.Sound.{IsSound}
use Rattle.ds_state.specs.declared.stage.Outcome.{Outcome}
use Rattle.ds_state.specs.declared.stage.Outcome.TheVariants as outcome
use Rattle.ds_state.specs.Dones.{HasAnswered}
use Rattle.ds_state.proofs.Dones.{still_answered, one_answered}
use Rattle.ds_edit.specs.EditAnswers.{IsTrueAnswer}
use Rattle.ds_edit.proofs.Truth.{answer_true}
use Rattle.ds_state.specs.declared.stage.Stage.{Stage}
use Rattle.ds_state.specs.declared.stage.Stage.TheVariants.{Swap, Answer}
use Rattle.ds_state.specs.declared.situation.Situation.{Situation}
use Rattle.ds_state.specs.declared.situation.Situation.TheVariants.{Idle, Editing}
use Rattle.ds_state.proofs.Few.{counted_few}
use Rattle.ds_state.proofs.Underway.{no_more}
use Rattle.ds_state.specs.Underway.{reports_in}
use Rattle.ds_edit.specs.EditSteps.{access_at}
use Rattle.ds_edit.specs.EditTakes.{IsEditing, Steps, StepsBy, after, counted_at, done_at, done_with, open_edit_at, turn_at}
use Rattle.ds_edit.proofs.Sound.{step_sound}
use Rattle.ds_edit.proofs.Possible.{can_perform}
use Rattle.ds_state.specs.EditEndings.{outcome_at}

-- the process's situation that was read says which edit it is in
pub editing_from : (v : WorldValue) (p : ℕ) (e : PlainEditCall) (read : Situation) → p < length v.situations → read ≡ get_or v.situations p read → read ≡ Editing e → IsEditing v p e
editing_from v p e read lt is here = record { there = lt; is = get_or_default v.situations p (Idle first_rest) read lt ∙ sym is ∙ here }

-- what is linearized at a stage is nothing, or the edit
pub counted_cases : (e : PlainEdit) (s : Stage) (word : ℕ) → (counted_at e s word ≡ []) ⊎ (counted_at e s word ≡ e ∷ [])
counted_cases e (Swap noted) word = won (word == noted)
  where
    won : (b : Bool) → ((if b then e ∷ [] else []) ≡ []) ⊎ ((if b then e ∷ [] else []) ≡ e ∷ [])
    won true = inr refl
    won false = inl refl
counted_cases e _ word = inl refl

-- an edit goes on to no show
no_show : (e : PlainEditCall) (s : Stage) (word : ℕ) → reports_in (after e s word) ≡ 0
no_show e (Answer how) word = refl
no_show e _ word = refl

-- which stage a step's outcome says
pub answers_at : (s : Stage) (how : Outcome) → outcome_at s ≡ Some how → s ≡ Answer how
answers_at (Answer how') how is = let same : how' ≡ how = cc in ap (λ h. Answer h) same
answers_at _ how is = absurd (cc)

-- at a stage that is no answer the process's open edit stays
pub goes_on_at : (s : Stage) (issue : Option PlainIssue) → outcome_at s ≡ None → open_edit_at issue s ≡ issue
goes_on_at (Answer how) issue is = absurd (cc)
goes_on_at _ issue is = refl

module _ (v : WorldValue) (g : IsGood v) (p : ℕ) (e : PlainEditCall) (at : IsEditing v p e) where
  pub low : p < v.sheet.layout.processes
  low = let t = at.there in let s = g.situations in omega arith

  fits : EditFits (world_of v) p e
  fits = subst (λ (x : Situation). CallFits (world_of v) p x) at.is (g.sound.calls p low)

  pub mine : e.process ≡ p
  mine = fits.mine

  here : (world_of v).situation e.process ≡ Editing e
  here = ap (λ q. (world_of v).situation q) mine ∙ at.is

  low_own : e.process < v.sheet.layout.processes
  low_own = rw mine low

  -- its access can be performed
  pub perform_at : CanPerform v.sheet.layout (memory v.sheet) p (access_at e e.stage)
  perform_at = subst (λ (q : ℕ). CanPerform v.sheet.layout (memory v.sheet) q (access_at e e.stage)) mine (can_perform e (world_of v) g.sound low_own here)

  pub open_edit_there : p < length v.open_edits
  open_edit_there = let l = low in let s = g.open_edits in omega arith

  pub processes_are : e.processes ≡ v.sheet.layout.processes
  processes_are = sym fits.sheet.processes

  module _ (word : ℕ) (sheet : SheetValue) (layout : sheet.layout ≡ v.sheet.layout) (performs : PerformsAt (access_at e e.stage) p (memory v.sheet) (memory sheet) word) where
    -- the world after the step
    pub next : WorldValue
    next = record v {
      sheet = sheet;
      situations = set v.situations p (after e e.stage word);
      counted = v.counted ++ counted_at (edit_of e) e.stage word;
      open_edits = set v.open_edits p (open_edit_at (get_or v.open_edits p None) e.stage);
      done = done_at v.done e.stage;
    }

    pub steps : Steps e word (world_of v) (world_of next)
    unfolding next
    steps = record {
      layout = layout;
      memory = subst (λ (q : ℕ). PerformsAt (access_at e e.stage) q (memory v.sheet) (memory sheet) word) (sym mine) performs;
      situation = ap (λ q. get_or (set v.situations p (after e e.stage word)) q (Idle first_rest)) mine ∙ get_or-set_same v.situations p (after e e.stage word) (Idle first_rest) at.there;
      others = λ q ne. get_or-set_other v.situations p q (after e e.stage word) (Idle first_rest) (λ same. ne (same ∙ sym mine));
      counted = refl;
      open_edits = ap (λ q. get_or (set v.open_edits p (open_edit_at (get_or v.open_edits p None) e.stage)) q None) mine ∙ get_or-set_same v.open_edits p (open_edit_at (get_or v.open_edits p None) e.stage) None open_edit_there
          ∙ ap (λ q. open_edit_at (get_or v.open_edits q None) e.stage) (sym mine);
      others_open_edits = λ q ne. get_or-set_other v.open_edits p q (open_edit_at (get_or v.open_edits p None) e.stage) None (λ same. ne (same ∙ sym mine));
    }

    next_sound : IsSound (world_of next)
    next_sound = (step_sound e word (world_of v) (world_of next) g.sound low_own here steps).sound

    -- what was answered Done is linearized, and is answered for good
    grown : (f : PlainEdit) → Contains v.counted f → Contains (world_of next).counted f
    unfolding next
    grown f there = Contains-append_left v.counted (counted_at (edit_of e) e.stage word) f there

    open_own : (world_of v).open_edits e.process ≡ Some (record { edit = edit_of e; since = fits.since })
    open_own = ap (λ q. (world_of v).open_edits q) mine ∙ fits.open_edits

    goes_on : outcome_at e.stage ≡ None → (f : PlainEdit) (issue : PlainIssue) → Contains v.counted f → (world_of next).open_edits f.process ≡ Some issue → issue.edit ≡ f → (world_of v).open_edits f.process ≡ Some issue
    goes_on none f issue there now is = elim (cases_eq f.process e.process) [
      | inl same ↦ ap (λ q. (world_of v).open_edits q) same ∙ sym (ap (λ q. (world_of next).open_edits q) same ∙ steps.open_edits ∙ goes_on_at e.stage _ none) ∙ now
      | inr other ↦ sym (steps.others_open_edits f.process other) ∙ now
    ]

    closed : (how : Outcome) → e.stage ≡ Answer how → (world_of next).open_edits e.process ≡ None
    closed how last = steps.open_edits ∙ ap (λ s. open_edit_at ((world_of v).open_edits e.process) s) last

    answered_on : (how : Outcome) → e.stage ≡ Answer how → (f : PlainEdit) (issue : PlainIssue) → Contains v.counted f → (world_of next).open_edits f.process ≡ Some issue → issue.edit ≡ f → (world_of v).open_edits f.process ≡ Some issue
    answered_on how last f issue there now is = elim (cases_eq f.process e.process) [
      | inl same ↦ (let bad : Some issue ≡ None = sym now ∙ ap (λ q. (world_of next).open_edits q) same ∙ closed how last in absurd (cc))
      | inr other ↦ sym (steps.others_open_edits f.process other) ∙ now
    ]

    by_answer : (how : Outcome) → e.stage ≡ Answer how → HasAnswered (world_of next).counted (world_of next).open_edits (done_with v.done (Some how))
    by_answer outcome.Done last =
        let t : IsTrueAnswer (world_of v) (edit_of e) outcome.Done = answer_true e outcome.Done (world_of v) g.sound low_own last here in
        one_answered v.counted (world_of next).counted (world_of v).open_edits (world_of next).open_edits v.done (edit_of e) fits.since grown (answered_on outcome.Done last) open_own (closed outcome.Done last) t.holds g.answered
    by_answer (outcome.Overtaken noted seen) last = still_answered v.counted (world_of next).counted (world_of v).open_edits (world_of next).open_edits v.done grown (answered_on (outcome.Overtaken noted seen) last) g.answered

    by_outcome : (o : Option Outcome) → outcome_at e.stage ≡ o → HasAnswered (world_of next).counted (world_of next).open_edits (done_with v.done o)
    by_outcome None is = still_answered v.counted (world_of next).counted (world_of v).open_edits (world_of next).open_edits v.done grown (goes_on is) g.answered
    by_outcome (Some how) is = by_answer how (answers_at e.stage how is)

    pub next_kept : (room more : ℕ) → v.sheet.layout.processes * RECORDS ≤ room → room ≤ more → IsReserved next more
    unfolding next
    next_kept room more reserved larger = record {
      good = record {
        sound = next_sound;
        situations = length-set v.situations p (after e e.stage word) ∙ g.situations ∙ ap (λ (l : Layout). l.processes) (sym layout);
        open_edits = length-set v.open_edits p (open_edit_at (get_or v.open_edits p None) e.stage) ∙ g.open_edits ∙ ap (λ (l : Layout). l.processes) (sym layout);
        reports = rw layout g.reports;
        answered = by_outcome (outcome_at e.stage) refl;
        counts = no_more v.situations p (after e e.stage word) v.settled _ at.there (no_show e e.stage word) g.counts;
      };
      reserved = (let same = ap (λ (l : Layout). l.processes) layout in omega arith);
    }

    -- an edit that is linearized finds room
    pub next_room : (room noted : ℕ) → v.sheet.layout.processes * RECORDS ≤ room → e.stage ≡ Swap noted → word ≡ noted → length v.counted < room
    unfolding next
    next_room room noted reserved is same =
        let few : length (v.counted ++ counted_at (edit_of e) e.stage word) ≤ 256 * sheet.layout.processes = counted_few (world_of next) next_sound in
        let one : counted_at (edit_of e) e.stage word ≡ edit_of e ∷ [] = ap (λ s. counted_at (edit_of e) s word) is ∙ counted_won noted same in
        let l = ap length one in
        let p = ap (λ (x : Layout). x.processes) layout in
        omega (arith, length-append v.counted (counted_at (edit_of e) e.stage word))
      where
        counted_won : (noted : ℕ) → word ≡ noted → counted_at (edit_of e) (Swap noted) word ≡ edit_of e ∷ []
        counted_won noted same = rw (eq-eqb word noted same) refl

    pub next_takes : StepsBy v p (turn_at v.sheet.layout.processes e.number e.stage) next
    unfolding next
    next_takes = record {
      there = low;
      edit = e;
      mine = mine;
      at = at.is;
      word = word;
      steps = steps;
      is = refl;
      done = refl;
      reports = record { settled = refl; reports = refl };
    }

    -- a world of these parts is that world
    pub next_is : (situation : Situation) (counted : List PlainEdit) (open_issue : Option PlainIssue) (done : ℕ)
        → situation ≡ after e e.stage word → counted ≡ v.counted ++ counted_at (edit_of e) e.stage word
        → open_issue ≡ open_edit_at (get_or v.open_edits p None) e.stage → done ≡ done_at v.done e.stage
        → (let w : WorldValue = record v { sheet = sheet; situations = set v.situations p situation; counted = counted; open_edits = set v.open_edits p open_issue; done = done } in w) ≡ next
    unfolding next
    next_is situation counted open_issue done a b c d =
        let made : Situation → List PlainEdit → Option PlainIssue → ℕ → WorldValue = λ s es i n. record v { sheet = sheet; situations = set v.situations p s; counted = es; open_edits = set v.open_edits p i; done = n } in
        ap (λ s. made s counted open_issue done) a
        ∙ ap (λ es. made (after e e.stage word) es open_issue done) b
        ∙ ap (λ i. made (after e e.stage word) (v.counted ++ counted_at (edit_of e) e.stage word) i done) c
        ∙ ap (λ n. made (after e e.stage word) (v.counted ++ counted_at (edit_of e) e.stage word) (open_edit_at (get_or v.open_edits p None) e.stage) n) d
