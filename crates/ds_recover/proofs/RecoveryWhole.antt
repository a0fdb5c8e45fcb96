-- Each step of a recovery keeps a world sound, and its answer is true.
use Rattle.std.proofs.Common.{ℕ, ◌≡◌, ◌<◌, ◌≤◌, ◌-◌, ◌/◌, refl, ap, sym, ◌∙◌, subst, arith, inl, inr, Some, None, true, false, ◌+◌}
use Rattle.std.specs.Prelude.{Option, Bool}
use Rattle.std.proofs.lemmas.List.Elements.{All-weaker}
use Rattle.ds_layout.specs.declared.place.Place.TheVariants.{Announce, Header}
use Rattle.ds_layout.specs.declared.announcement.Phase.TheVariants as phase
use Rattle.ds_state.specs.Works.{PlainRecoverCall}
use Rattle.ds_state.specs.World.{PlainEdit, PlainIssue, PlainWorld, announcement}
use Rattle.ds_state.specs.Known.{Standing, outside, inside, safe, Announced, last, pending, ended, word_of, AreBelow, StandsAs}
use Rattle.ds_state.specs.declared.stage.Outcome.TheVariants as outcome
use Rattle.ds_state.specs.KnownRecovery.{IsHeadersCell, Tells}
use Rattle.ds_state.specs.CallsFit.{CallFits, MaySay, IsInDoubt, DoubtFits, RecoveryFits}
use Rattle.ds_state.specs.Rely.{Keeps}
use Rattle.ds_state.specs.Sound.{IsSound}
use Rattle.ds_recover.specs.RecoverySteps.{StepsAt, at, number_of, cell_from, end_of, ResolvesAs}
use Rattle.ds_state.specs.declared.spread.Spread.TheVariants.{LoadRow, OrTold, FlushTold, BackTold}
use Rattle.ds_state.specs.declared.recovery.RecoverStage.{RecoverStage}
use Rattle.ds_state.specs.declared.recovery.RecoverStage.TheVariants.{LoadVersion, FlushVersion, BackVersion, LoadMark, FlushValue, FlushKind, BackValue, BackKind, Telling, Give, GiveDirty, FlushGiven, BackGiven, LoadAnnounce, LoadHeader, LoadHead, FlushHead, BackHead, LoadDone, OrMark, FlushMark, BackMark, StoreOutcome, FlushOutcome, BackOutcome, Answer}
use Rattle.ds_state.specs.declared.situation.Situation.{Situation}
use Rattle.ds_state.specs.declared.situation.Situation.TheVariants.{Recovering}
use Rattle.ds_recover.proofs.RecoveryResolve.{step_load_announce, step_load_header, step_load_head, step_load_done}
use Rattle.ds_recover.proofs.RecoverySay.{step_store_outcome}
use Rattle.ds_recover.proofs.RecoveryDoubt.{last_number, ended_reads}
use Rattle.ds_recover.proofs.RecoveryEnds.{step_answer, rests_none}
use Rattle.ds_recover.proofs.RecoveryLate.{step_or_mark, step_flush_mark, step_back_mark, step_flush_outcome, step_back_outcome}
use Rattle.ds_recover.proofs.RecoveryFree.{step_load_mark, step_flush_value, step_flush_kind, step_give, step_give_dirty, step_flush_given, step_back_given}
use Rattle.ds_recover.proofs.RecoveryTell.{step_back_value, step_back_kind, step_load_row, step_or_told, step_flush_told, step_back_told}
use Rattle.ds_recover.proofs.RecoveryWakes.{step_load_version, step_flush_version, step_back_version}
use Rattle.ds_recover.proofs.RecoveryHead.{step_flush_head, step_back_head}

module _ (e : PlainRecoverCall) (word : ℕ) (old new : PlainWorld) (sound : IsSound old) (real : e.process < old.layout.processes) where
  abbrev p : ℕ
  p = e.process

  steps : (s : RecoverStage) → old.situation p ≡ Recovering (at e s) → RecoveryFits old p (at e s) → StepsAt e s word old new → Keeps p old new
  steps LoadVersion was fits t = step_load_version e word old new sound real was t
  steps FlushVersion was fits t = step_flush_version e word old new sound real was t
  steps BackVersion was fits t = step_back_version e word old new sound real was fits t
  steps (LoadMark c) was fits t = step_load_mark e word old new sound real c was fits t
  steps (FlushValue c) was fits t = step_flush_value e word old new sound real c was fits t
  steps (FlushKind c) was fits t = step_flush_kind e word old new sound real c was fits t
  steps (BackValue c) was fits t = step_back_value e word old new sound real c was fits t
  steps (BackKind c) was fits t = step_back_kind e word old new sound real c was fits t
  steps (Telling c (LoadRow part)) was fits t = step_load_row e word old new sound real c part was fits t
  steps (Telling c (OrTold d)) was fits t = step_or_told e word old new sound real c d was fits t
  steps (Telling c (FlushTold d)) was fits t = step_flush_told e word old new sound real c d was fits t
  steps (Telling c (BackTold d)) was fits t = step_back_told e word old new sound real c d was fits t
  steps (Give c) was fits t = step_give e word old new sound real c was fits t
  steps (GiveDirty c) was fits t = step_give_dirty e word old new sound real c was fits t
  steps (FlushGiven c) was fits t = step_flush_given e word old new sound real c was fits t
  steps (BackGiven c) was fits t = step_back_given e word old new sound real c was fits t
  steps LoadAnnounce was fits t = step_load_announce e word old new sound real was fits t
  steps LoadHeader was fits t = step_load_header e word old new sound real was fits t
  steps LoadHead was fits t = step_load_head e word old new sound real was fits t
  steps FlushHead was fits t = step_flush_head e word old new sound real was fits t
  steps BackHead was fits t = step_back_head e word old new sound real was fits t
  steps LoadDone was fits t = step_load_done e word old new sound real was fits t
  steps (OrMark how) was fits t = step_or_mark e word old new sound real how was fits t
  steps (FlushMark how) was fits t = step_flush_mark e word old new sound real how was fits t
  steps (BackMark how) was fits t = step_back_mark e word old new sound real how was fits t
  steps (StoreOutcome how) was fits t = step_store_outcome e how word old new sound real was fits t
  steps (FlushOutcome how) was fits t = step_flush_outcome e word old new sound real how was fits t
  steps (BackOutcome how) was fits t = step_back_outcome e word old new sound real how was fits t
  steps (Answer how) was fits t = step_answer e how word old new sound real was fits t

  pub recovery_keeps_soundness : (s : RecoverStage) → old.situation p ≡ Recovering (at e s) → StepsAt e s word old new → Keeps p old new
  recovery_keeps_soundness s was t = steps s was (subst (λ (x : Situation). CallFits old p x) was (sound.calls p real)) t

below_all : (w : PlainWorld) (f : PlainEdit) → AreBelow w f.process 0 → AreBelow w f.process f.number
below_all w f h = All-weaker (λ (x : PlainEdit). x.process ≡ f.process → x.number < 0) (λ (x : PlainEdit). x.process ≡ f.process → x.number < f.number) (λ x k same. absurd (let l = k same in omega arith)) w.counted h

ended_true : (n word : ℕ) (how : Bool) → word ≡ announcement n phase.Done → Tells word how → (word / 4 - 1 ≡ n) × (how ≡ true)
ended_true n word true is k = (omega arith, refl)
ended_true n word false is k = absurd (let i = k.is in omega arith)

ended_false : (n word : ℕ) (how : Bool) → word ≡ announcement n phase.NotDone → Tells word how → (word / 4 - 1 ≡ n) × (how ≡ false)
ended_false n word false is k = (omega arith, refl)
ended_false n word true is k = absurd (let i = k.is in omega arith)

not_pending : (n word : ℕ) (how : Bool) → word ≡ announcement n phase.Pending → Tells word how → ⊥
not_pending n word true is k = let i = k.is in omega arith
not_pending n word false is k = let i = k.is in omega arith

smaller : (w : PlainWorld) (f : PlainEdit) (e : PlainRecoverCall) (how : Bool) → number_of e < f.number → AreBelow w f.process f.number → ResolvesAs w f (end_of e (Some how))
smaller w f e true less h = inr (less, h)
smaller w f e false less h = (omega arith, h, λ same. absurd (omega arith))

-- the answer resolves the edit in doubt
pub answer_resolves : (e : PlainRecoverCall) (how : Option Bool) (w : PlainWorld) (issue : PlainIssue) → RecoveryFits w e.process (at e (Answer how)) → w.open_edits e.process ≡ Some issue → ResolvesAs w issue.edit (end_of e how)
answer_resolves e None w issue fits is =
    let r = rests_none w e.process (w.open_edits e.process) fits.doubt (let a = fits.resolved.0 in let b = fits.resolved.2 in omega arith) in
    let h : IsInDoubt w e.process issue = subst (λ (o : Option PlainIssue). DoubtFits w e.process o) is fits.doubt in
    below_all w issue.edit (subst (λ (q : ℕ). AreBelow w q 0) (sym h.mine) r.below)
answer_resolves e (Some how) w issue fits is = by h.now h.said h.cached
  where
    h : IsInDoubt w e.process issue
    h = subst (λ (o : Option PlainIssue). DoubtFits w e.process o) is fits.doubt

    f : PlainEdit
    f = issue.edit

    tells : Tells e.announcement how
    tells = fits.resolved.2

    there : w.memory.cached (Announce e.process) ≡ e.announcement
    there = fits.resolved.0

    -- the cell that it found is the edit's
    its : f.number + 1 ≡ e.announcement / 4 → f.cell ≡ e.cell
    its own =
        let read : IsHeadersCell w e.process e.announcement e.cell = fits.resolved.3 in
        sym (ended_reads w e.process e.announcement how issue h there tells own (w.memory.cached (Header e.process (e.announcement / 4 - 1))) refl) ∙ ap cell_from read.is ∙ read.of_cell

    some : 4 ≤ e.announcement
    some = at_least how tells
      where
        at_least : (b : Bool) → Tells e.announcement b → 4 ≤ e.announcement
        at_least true k = let i = k.is in omega arith
        at_least false k = let i = k.is in omega arith

    by : (a : Announced) → MaySay h.standing a → w.memory.cached (Announce e.process) ≡ word_of w f a → ResolvesAs w f (end_of e (Some how))
    by last said c = outs h.standing said h.stands
      where
        n : f.number ≡ e.announcement / 4
        n = last_number w f.process f.number e.announcement how (sym c ∙ there) tells

        outs : (s : Standing) → MaySay s last → StandsAs w f s → ResolvesAs w f (end_of e (Some how))
        outs outside said stands = smaller w f e how (let k = n in let l = some in omega arith) stands
        outs (inside own) said stands = absurd said
        outs safe said stands = absurd said
    by pending said c = absurd (not_pending f.number e.announcement how (sym there ∙ c) tells)
    by (ended outcome.Done) said c = outs h.standing said h.stands
      where
        outs : (s : Standing) → MaySay s (ended outcome.Done) → StandsAs w f s → ResolvesAs w f (end_of e (Some how))
        outs safe said stands = let k = ended_true f.number e.announcement how (sym there ∙ c) tells in
            subst (λ (b : Bool). ResolvesAs w f (end_of e (Some b))) (sym k.1) (inl (k.0, its (let n = k.0 in let s = some in omega arith), stands))
        outs outside said stands = absurd said
        outs (inside own) said stands = absurd said
    by (ended (outcome.Overtaken a b)) said c = outs h.standing said h.stands
      where
        outs : (s : Standing) → MaySay s (ended (outcome.Overtaken a b)) → StandsAs w f s → ResolvesAs w f (end_of e (Some how))
        outs outside said stands = let k = ended_false f.number e.announcement how (sym there ∙ c) tells in
            subst (λ (b : Bool). ResolvesAs w f (end_of e (Some b))) (sym k.1) (let n = k.0 in (omega arith, stands, λ same. its (let s = some in omega arith)))
        outs safe said stands = absurd said
        outs (inside own) said stands = absurd said
