-- Each step of a recovery keeps a world good.
use Rattle.std.proofs.Common.{ℕ, ◌≡◌, ◌<◌, length, get_or, set, refl, ap, sym, ◌∙◌, subst, arith, inl, inr, Some, None}
use Rattle.ds_state.specs.declared.turn.Turn.{Turn}
use Rattle.ds_state.specs.declared.recovery.RecoveryEnd.{RecoveryEnd}
use Rattle.std.specs.Prelude.{Option, Contains}
use Rattle.std.proofs.Math.ListN.{length-set}
use Rattle.std.proofs.lemmas.Bool.{cases_eq}
use Rattle.std.proofs.lemmas.List.{get_or-set_same, get_or-set_other, get_or_default}
use Rattle.ds_layout.specs.declared.layout.Layout.{Layout}
use Rattle.ds_layout.specs.SheetMemory.{SheetValue, memory, CanPerform, PerformsAt}
use Rattle.ds_state.specs.Works.{PlainRecoverCall}
use Rattle.ds_state.specs.World.{PlainEdit, PlainIssue}
use Rattle.ds_state.specs.Underway.{reports_in}
use Rattle.ds_state.specs.Value.{WorldValue, first_rest, world_of, IsGood, IsReserved}
use Rattle.ds_state.specs.CallsFit.{CallFits, RecoveryFits}
use Rattle.ds_state.specs.declared.recovery.RecoverStage.{RecoverStage}
use Rattle.ds_state.specs.declared.recovery.RecoverStage.TheVariants.{Answer}
use Rattle.ds_state.specs.declared.situation.Situation.{Situation}
use Rattle.ds_state.specs.declared.situation.Situation.TheVariants.{Idle, Recovering}
use Rattle.ds_state.proofs.Dones.{still_answered}
use Rattle.ds_state.proofs.Underway.{no_more}
use Rattle.ds_recover.specs.RecoverySteps.{Steps, access_at, after, effect_at, open_edit_at}
use Rattle.ds_recover.specs.RecoverTakes.{open_edit_by, StepsBy}
use Rattle.ds_recover.proofs.RecoveryLaws.{steps as steps_keep}
use Rattle.ds_recover.proofs.RecoveryPossible.{possible}

-- the process's recovery
pub record IsRecovering (v : WorldValue) (p : ℕ) (e : PlainRecoverCall) : Type 0 where
  pub there : p < length v.situations
  pub is : (world_of v).situation p ≡ Recovering e

-- the process's situation that was read says which recovery it is in
pub recovering_from : (v : WorldValue) (p : ℕ) (e : PlainRecoverCall) (read : Situation) → p < length v.situations → read ≡ get_or v.situations p read → read ≡ Recovering e → IsRecovering v p e
recovering_from v p e read lt is here = record { there = lt; is = get_or_default v.situations p (Idle first_rest) read lt ∙ sym is ∙ here }

no_show : (e : PlainRecoverCall) (s : RecoverStage) (word : ℕ) → reports_in (after e s word) ≡ 0
no_show e (Answer how) word = refl
no_show e _ word = refl

-- what the effect says of the edit in doubt is what the stage says
pub resolved_by : (e : PlainRecoverCall) (s : RecoverStage) (issue : Option PlainIssue) → open_edit_by issue (effect_at e s) ≡ open_edit_at issue s
resolved_by e (Answer how) issue = refl
resolved_by e _ issue = refl

-- what is open after it was open before
was_open : (s : RecoverStage) (o : Option PlainIssue) (issue : PlainIssue) → open_edit_at o s ≡ Some issue → o ≡ Some issue
was_open (Answer how) o issue is = absurd (cc)
was_open _ o issue is = is

module _ (v : WorldValue) (g : IsGood v) (p : ℕ) (e : PlainRecoverCall) (at : IsRecovering v p e) where
  pub low : p < v.sheet.layout.processes
  low = let t = at.there in let s = g.situations in omega arith

  fits : RecoveryFits (world_of v) p e
  fits = subst (λ (x : Situation). CallFits (world_of v) p x) at.is (g.sound.calls p low)

  pub mine : e.process ≡ p
  mine = fits.mine

  here : (world_of v).situation e.process ≡ Recovering e
  here = ap (λ q. (world_of v).situation q) mine ∙ at.is

  low_own : e.process < v.sheet.layout.processes
  low_own = rw mine low

  -- its access can be performed
  pub perform_at : CanPerform v.sheet.layout (memory v.sheet) p (access_at e e.stage)
  perform_at = subst (λ (q : ℕ). CanPerform v.sheet.layout (memory v.sheet) q (access_at e e.stage)) mine (possible e (world_of v) low_own (subst (λ (q : ℕ). RecoveryFits (world_of v) q e) (sym mine) fits))

  pub open_edit_there : p < length v.open_edits
  open_edit_there = let l = low in let s = g.open_edits in omega arith

  module _ (word : ℕ) (sheet : SheetValue) (layout : sheet.layout ≡ v.sheet.layout) (performs : PerformsAt (access_at e e.stage) p (memory v.sheet) (memory sheet) word) where
    -- the world after the step
    pub next : WorldValue
    next = record v {
      sheet = sheet;
      situations = set v.situations p (after e e.stage word);
      open_edits = set v.open_edits p (open_edit_at (get_or v.open_edits p None) e.stage);
    }

    pub steps : Steps e word (world_of v) (world_of next)
    unfolding next
    steps = record {
      layout = layout;
      memory = subst (λ (q : ℕ). PerformsAt (access_at e e.stage) q (memory v.sheet) (memory sheet) word) (sym mine) performs;
      situation = ap (λ q. get_or (set v.situations p (after e e.stage word)) q (Idle first_rest)) mine ∙ get_or-set_same v.situations p (after e e.stage word) (Idle first_rest) at.there;
      others = λ q ne. get_or-set_other v.situations p q (after e e.stage word) (Idle first_rest) (λ same. ne (same ∙ sym mine));
      counted = refl;
      open_edits = ap (λ q. get_or (set v.open_edits p (open_edit_at (get_or v.open_edits p None) e.stage)) q None) mine ∙ get_or-set_same v.open_edits p (open_edit_at (get_or v.open_edits p None) e.stage) None open_edit_there
          ∙ ap (λ q. open_edit_at (get_or v.open_edits q None) e.stage) (sym mine);
      others_open_edits = λ q ne. get_or-set_other v.open_edits p q (open_edit_at (get_or v.open_edits p None) e.stage) None (λ same. ne (same ∙ sym mine));
    }

    open_before : (f : PlainEdit) (issue : PlainIssue) → Contains v.counted f → (world_of next).open_edits f.process ≡ Some issue → issue.edit ≡ f → (world_of v).open_edits f.process ≡ Some issue
    open_before f issue there now is = elim (cases_eq f.process e.process) [
      | inl same ↦ ap (λ q. (world_of v).open_edits q) same ∙ was_open e.stage ((world_of v).open_edits e.process) issue (sym steps.open_edits ∙ sym (ap (λ q. (world_of next).open_edits q) same) ∙ now)
      | inr other ↦ sym (steps.others_open_edits f.process other) ∙ now
    ]

    pub next_kept : (room : ℕ) → IsReserved v room → IsReserved next room
    unfolding next
    next_kept room kept = record {
      good = record {
        sound = (steps_keep e word (world_of v) (world_of next) g.sound low_own here steps).sound;
        situations = length-set v.situations p (after e e.stage word) ∙ g.situations ∙ ap (λ (l : Layout). l.processes) (sym layout);
        open_edits = length-set v.open_edits p (open_edit_at (get_or v.open_edits p None) e.stage) ∙ g.open_edits ∙ ap (λ (l : Layout). l.processes) (sym layout);
        reports = rw layout g.reports;
        answered = still_answered v.counted v.counted (world_of v).open_edits (world_of next).open_edits v.done (λ f there. there) open_before g.answered;
        counts = no_more v.situations p (after e e.stage word) v.settled _ at.there (no_show e e.stage word) g.counts;
      };
      reserved = (let same = ap (λ (l : Layout). l.processes) layout in let r = kept.reserved in omega arith);
    }

    pub next_takes : (what : Turn RecoveryEnd) → what ≡ effect_at e e.stage → StepsBy v p what next
    unfolding next
    next_takes what is = record {
      there = low;
      recovery = e;
      mine = mine;
      at = at.is;
      word = word;
      steps = steps;
      is = is;
      done = refl;
      settled = refl;
      reports = refl;
    }

    -- a world of these parts is that world
    pub next_is : (situation : Situation) (open_issue : Option PlainIssue) → situation ≡ after e e.stage word → open_issue ≡ open_edit_at (get_or v.open_edits p None) e.stage
        → (let w : WorldValue = record v { sheet = sheet; situations = set v.situations p situation; open_edits = set v.open_edits p open_issue } in w) ≡ next
    unfolding next
    next_is situation open_issue a b =
        let made : Situation → Option PlainIssue → WorldValue = λ s i. record v { sheet = sheet; situations = set v.situations p s; open_edits = set v.open_edits p i } in
        ap (λ s. made s open_issue) a ∙ ap (λ i. made (after e e.stage word) i) b
