-- What a process in recovery says of its edits, until it answers.
use Rattle.std.proofs.Common.{ℕ, ◌≡◌, refl, ap, sym, ◌∙◌, subst, inl, inr, Bool, true, Some, None}
use Rattle.std.specs.Prelude.{Option}
use Rattle.std.proofs.lemmas.Bool.{cases_eq}
use Rattle.ds_layout.specs.SheetMemory.{PerformsAt}
use Rattle.ds_layout.specs.declared.layout.Layout.{Layout}
use Rattle.ds_state.specs.World.{PlainIssue}
use Rattle.ds_state.specs.Works.{PlainShowCall, PlainRecoverCall}
use Rattle.ds_state.specs.CallsFit.{CallFits}
use Rattle.ds_state.specs.Value.{WorldValue, world_of, IsGood}
use Rattle.ds_state.specs.declared.situation.Situation.{Situation}
use Rattle.ds_state.specs.declared.situation.Situation.TheVariants.{Idle, Stopped, Editing, Working, Recovering, Showing, Migrating}
use Rattle.ds_state.specs.declared.recovery.RecoverStage.{RecoverStage}
use Rattle.ds_state.specs.declared.recovery.RecoverStage.TheVariants as stages
use Rattle.ds_state.specs.declared.turn.Turn.TheVariants as effects
use Rattle.ds_recover.specs.RecoverBegun.{MayRecover}
use Rattle.ds_recover.specs.RecoverySteps as steps
use Rattle.ds_core.specs.Moments.{Ledger}
use Rattle.ds_core.specs.LedgerSteps.{OneAccess}
use Rattle.ds_core.specs.RecoveryEvents.{RecoveryStepsBy, RecoveryBegins}
use Rattle.ds_core.specs.declared.reply.Reply.{Reply}
use Rattle.ds_core.proofs.Ledgers.{IsOf, IsOpenAs, SaysSame, says_same, doubts, numbered, no_some}

-- ---- it begins: an open edit of its process is in doubt

module _ (layout : Layout) (l : Ledger) (v v' : WorldValue) (h : IsOf layout l v) (good : IsGood v') (p : ℕ) (b : RecoveryBegins v p v') where
  doubted : (s : Situation) → (world_of v).situation p ≡ s → MayRecover s → (issue : PlainIssue) → (world_of v).open_edits p ≡ Some issue → doubts s ≡ true
  doubted (Idle n) is free issue at = absurd (let f = subst (λ (x : Situation). CallFits (world_of v) p x) is (h.good.sound.calls p b.there) in no_some ((world_of v).open_edits p) issue f.open_edits at)
  doubted Stopped is free issue at = refl
  doubted (Editing e) is free issue at = absurd free
  doubted (Working e) is free issue at = absurd free
  doubted (Recovering e) is free issue at = absurd free
  doubted (Showing e) is free issue at = absurd free
  doubted (Migrating e) is free issue at = absurd free

  same_doubt : (q : ℕ) (issue : PlainIssue) → (world_of v).open_edits q ≡ Some issue → doubts ((world_of v).situation q) ≡ doubts ((world_of v').situation q)
  same_doubt q issue was = elim (cases_eq q p) [
    | inl here ↦ ap (λ x. doubts ((world_of v).situation x)) here ∙ doubted ((world_of v).situation p) refl b.begun.free issue (ap (λ x. (world_of v).open_edits x) (sym here) ∙ was)
        ∙ sym (ap doubts (ap (λ x. (world_of v').situation x) here ∙ b.begun.begins.situation))
    | inr other ↦ ap doubts (sym (b.begun.begins.others q other))
  ]

  pub recovery_begins_after : IsOf layout l v'
  recovery_begins_after = record {
    good = good;
    same = b.begun.begins.layout ∙ h.same;
    counted = h.counted ∙ sym b.begun.begins.counted;
    none = λ q is. h.none q (sym (b.begun.begins.open_edits q) ∙ is);
    some = λ q issue is. (let was = sym (b.begun.begins.open_edits q) ∙ is in subst (λ (x : Bool). IsOpenAs l issue q x) (same_doubt q issue was) (h.some q issue was));
    numbers = λ q n is. elim (cases_eq q p) [
      | inl here ↦ absurd (let bad : None ≡ Some n = sym (ap numbered (ap (λ x. (world_of v').situation x) here ∙ b.begun.begins.situation)) ∙ is in cc)
      | inr other ↦ h.numbers q n (ap numbered (sym (b.begun.begins.others q other)) ∙ is)
    ];
  }

-- ---- it goes on

after_on : (f : PlainRecoverCall) (x : RecoverStage) (word : ℕ) → steps.effect_at f x ≡ effects.GoesOn → steps.after f x word ≡ Recovering (steps.next_at f x word)
after_on f (stages.Answer how) word is = absurd (cc)
after_on f _ word is = refl

same_pending : (f : PlainRecoverCall) (x : RecoverStage) (o : Option PlainIssue) → steps.effect_at f x ≡ effects.GoesOn → steps.open_edit_at o x ≡ o
same_pending f (stages.Answer how) o is = absurd (cc)
same_pending f _ o is = refl

module _ (v v' : WorldValue) (p : ℕ) (reply : Reply) (s : RecoveryStepsBy v p reply v') where
  pub recovery_access : OneAccess p (world_of v).memory (world_of v').memory
  recovery_access =
      let e : PlainRecoverCall = s.steps.recovery in
      (steps.access_at e e.stage, s.steps.word, subst (λ (q : ℕ). PerformsAt (steps.access_at e e.stage) q (world_of v).memory (world_of v').memory s.steps.word) s.steps.mine s.steps.steps.memory)

  after_shows_not : (f : PlainRecoverCall) (x : RecoverStage) (word : ℕ) (g : PlainShowCall) → steps.after f x word ≡ Showing g → ⊥
  after_shows_not f (stages.Answer how) word g is = (cc)
  after_shows_not f _ word g is = (cc)

  pub recovery_shows_not : (g : PlainShowCall) → (world_of v').situation p ≡ Showing g → ⊥
  recovery_shows_not g is = after_shows_not s.steps.recovery s.steps.recovery.stage s.steps.word g (sym s.steps.steps.situation ∙ ap (λ q. (world_of v').situation q) s.steps.mine ∙ is)

  module _ (goes : s.what ≡ effects.GoesOn) where
    on : steps.effect_at s.steps.recovery s.steps.recovery.stage ≡ effects.GoesOn
    on = sym s.steps.is ∙ goes

    pub recovery_now : (world_of v').situation p ≡ Recovering (steps.next_at s.steps.recovery s.steps.recovery.stage s.steps.word)
    recovery_now = ap (λ q. (world_of v').situation q) (sym s.steps.mine) ∙ s.steps.steps.situation ∙ after_on s.steps.recovery s.steps.recovery.stage s.steps.word on

    pub recovery_pending : (q : ℕ) → (world_of v').open_edits q ≡ (world_of v).open_edits q
    recovery_pending q = elim (cases_eq q s.steps.recovery.process) [
      | inl here ↦ ap (λ x. (world_of v').open_edits x) here ∙ s.steps.steps.open_edits ∙ same_pending s.steps.recovery s.steps.recovery.stage _ on ∙ ap (λ x. (world_of v).open_edits x) (sym here)
      | inr other ↦ s.steps.steps.others_open_edits q other
    ]

    pub recovery_says : (q : ℕ) → SaysSame ((world_of v).situation q) ((world_of v').situation q)
    recovery_says q = elim (cases_eq q p) [
      | inl here ↦ (
          let then_is = ap (λ x. (world_of v').situation x) here ∙ recovery_now in
          let before = ap (λ x. (world_of v).situation x) here ∙ s.steps.at in
          record { number = ap numbered then_is ∙ sym (ap numbered before); doubt = ap doubts then_is ∙ sym (ap doubts before) })
      | inr other ↦ says_same _ _ (s.steps.steps.others q (λ same. other (same ∙ s.steps.mine)))
    ]
