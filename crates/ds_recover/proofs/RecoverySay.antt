-- A recovery says how its edit in doubt ended.
use Rattle.std.proofs.Common.{ℕ, ◌≡◌, ◌<◌, ◌≤◌, ◌-◌, ◌⊎◌, refl, ap, sym, ◌∙◌, subst, arith, inl, inr, Some, true, false}
use Rattle.std.specs.Prelude.{Option, Bool}
use Rattle.ds_words.specs.Memory.{StoresAt}
use Rattle.ds_layout.specs.declared.place.TheConstants.{RECORDS}
use Rattle.ds_layout.specs.declared.place.Place.TheVariants.{Head, Mark, Value, Kind, Announce, Header}
use Rattle.ds_layout.specs.declared.place.Edition.TheVariants.{First}
use Rattle.ds_layout.specs.Announcement.{number_after}
use Rattle.ds_layout.specs.declared.announcement.Phase.TheVariants as phase
use Rattle.ds_layout.proofs.Packed.{announcement_of-announcement_word}
use Rattle.ds_state.specs.Works.{PlainRecoverCall}
use Rattle.ds_state.specs.RecoverStages.{IsAnnounced}
use Rattle.ds_state.specs.World.{PlainEdit, PlainIssue, PlainWorld, record_word, announcement}
use Rattle.ds_state.specs.Known.{Standing, outside, inside, safe, Announced, last, pending, ended, word_of, StandsAs, IsRecorded}
use Rattle.ds_state.specs.declared.stage.Outcome.{Outcome}
use Rattle.ds_state.specs.declared.stage.Outcome.TheVariants as outcome
use Rattle.ds_layout.specs.Mark.{IsHeldBy}
use Rattle.ds_state.specs.CallsFit.{CallFits, MaySay, rank, IsWritten, IsInDoubt, DoubtFits, RecoveryFits}
use Rattle.ds_state.specs.KnownRecovery.{phase_for, IsOpenAnd, IsHeadersCell, SettledAs}
use Rattle.ds_state.specs.WordsFit.{WordFits, IsKept}
use Rattle.ds_state.specs.Rely.{Grows, Keeps}
use Rattle.ds_state.specs.Sound.{IsSound}
use Rattle.ds_recover.specs.RecoverySteps.{StepsAt, at, number_of}
use Rattle.ds_state.specs.declared.recovery.RecoverStage.TheVariants.{StoreOutcome, FlushOutcome}
use Rattle.ds_state.specs.declared.situation.Situation.{Situation}
use Rattle.ds_state.specs.declared.situation.Situation.TheVariants.{Recovering}
use Rattle.ds_state.proofs.Found.{gave_counts}
use Rattle.ds_state.proofs.Stable.{standing_stable, word_stable, written_stable}
use Rattle.ds_state.specs.Headers.{SayNumber, SaysCell, HasCell}
use Rattle.ds_state.proofs.Saying.{announced_number, says_own}
use Rattle.ds_state.proofs.Frames.{MovesWord, Moves, grows_own, moves_sound, kept_stable}
use Rattle.ds_state.proofs.Bearing.{Mine, MyMarks, bears, all_stand, text_same, stored_marks}
use Rattle.ds_state.proofs.Buffers.{buffered}
use Rattle.ds_state.proofs.Accesses.{Turn, store_moves}
use Rattle.ds_recover.proofs.RecoveryFrame.{on, Passes, turn_of, recovery_mine, recovery_apart, recovery_keeps, recovery_fits}
use Rattle.ds_recover.proofs.RecoveryDoubt.{IsDoubted, pending_open, not_below}

-- how an edit is resolved, as its process announces it
abbrev pub outcome_for : Bool → Outcome
outcome_for true = outcome.Done
outcome_for false = outcome.Overtaken 0 0

abbrev pub standing_for : Bool → Standing
standing_for true = safe
standing_for false = outside

ended_word : (w : PlainWorld) (f : PlainEdit) (how : Bool) → announcement f.number (phase_for how) ≡ word_of w f (ended (outcome_for how))
ended_word w f true = refl
ended_word w f false = refl

-- the word that announces an outcome is an announcement of a record
pub said_announced : (n : ℕ) (how : Bool) → n < RECORDS → IsAnnounced (announcement n (phase_for how))
said_announced n true l = record { it = record { number = n; phase = phase.Done }; reads = announcement_of-announcement_word (record { number = n; phase = phase.Done }) l; some = omega arith; few = omega arith }
said_announced n false l = record { it = record { number = n; phase = phase.NotDone }; reads = announcement_of-announcement_word (record { number = n; phase = phase.NotDone }) l; some = omega arith; few = omega arith }

may_end : (how : Bool) → MaySay (standing_for how) (ended (outcome_for how))
may_end true = tt
may_end false = tt

stands_for : (w : PlainWorld) (f : PlainEdit) (how : Bool) → SettledAs w f how → StandsAs w f (standing_for how)
stands_for w f true h = h
stands_for w f false h = h

written_pending : (w : PlainWorld) (f : PlainEdit) (how : Bool) (a : Announced) → a ≡ pending → IsWritten w f a → IsWritten w f (ended (outcome_for how))
written_pending w f how last same h = absurd (let k : last ≡ pending = same in cc)
written_pending w f how pending same h = h
written_pending w f how (ended end) same h = h

-- what was said before is still so
said_before : (w : PlainWorld) (f : PlainEdit) (s : Standing) (b : Announced) (how : Bool) → StandsAs w f s → MaySay s b → rank b ≤ 1 → SettledAs w f how → MaySay (standing_for how) b
said_before w f s last false stands said order settled = tt
said_before w f s pending false stands said order settled = tt
said_before w f s pending true stands said order settled = tt
said_before w f s (ended how') how stands said order settled = absurd (omega arith)
said_before w f outside last true stands said order settled = absurd (not_below w f f (gave_counts w f.cell settled.safe.own f settled.safe.head) refl refl stands)
said_before w f (inside own) last true stands said order settled = absurd said
said_before w f safe last true stands said order settled = absurd said

module _ (e : PlainRecoverCall) (how : Bool) (word : ℕ) (old new : PlainWorld) (sound : IsSound old) (real : e.process < old.layout.processes)
    (was : old.situation e.process ≡ Recovering (at e (StoreOutcome how))) (fits : RecoveryFits old e.process (at e (StoreOutcome how))) (t : StepsAt e (StoreOutcome how) word old new) where
  abbrev p : ℕ
  p = e.process

  abbrev said_word : ℕ
  said_word = announcement (number_of e) (phase_for how)

  store : StoresAt (Announce p) said_word old.memory new.memory
  store = t.memory.1

  tn : Turn p old new
  tn = turn_of e (StoreOutcome how) word old new real was tt t

  abbrev h : IsOpenAnd old p e.announcement e.cell (λ f. SettledAs old f how)
  h = fits.resolved

  abbrev f : PlainEdit
  f = h.issue.edit

  number_is : number_of e ≡ f.number
  number_is = let w = h.it.is in omega arith

  more : (b : Bool) → announcement f.number phase.Pending ≤ announcement (number_of e) (phase_for b)
  more true = let n = number_is in omega arith
  more false = let n = number_is in omega arith

  moved : MovesWord old p (Announce p) (old.memory.cached (Announce p)) (old.memory.persisted (Announce p)) said_word (old.memory.persisted (Announce p))
  moved = ((let c = h.it.cached in let w = h.it.is in let m = more how in omega arith), omega arith, inl (refl, says))
    where
      -- it announces the number that is announced as pending
      says : (n : ℕ) → SayNumber said_word (old.memory.persisted (Announce p)) n → HasCell old p n
      says n (inl now) =
          let number = announced_number (number_of e) (phase_for how) in
          let pending = announced_number f.number phase.Pending in
          let same = number_is in
          let c = h.it.cached in
          let w = h.it.is in
          sound.headers p n (inl (omega (arith, now, number, pending, same, c, w)))
      says n (inr now) = sound.headers p n (inr now)

  moves : Moves p (Announce p) old new
  moves = store_moves p old new tn (Announce p) said_word (λ x. cc) moved store

  passes : Passes p e.row (StoreOutcome how) e.row (FlushOutcome how) old new
  passes = record {
    owes = λ r d x bit matters k o. absurd o;
    excuses = λ d x matters k o. absurd o;
    parts = λ r k o. absurd o;
    splits = λ f before last_of issue issued same k o. absurd o;
  }

  no_value : (r : ℕ) → (Announce p ≡ Value r) ⊎ (Announce p ≡ Kind r) → ⊥
  no_value r is = elim is [ inl x ↦ cc | inr x ↦ cc ]

  went : new.situation p ≡ Recovering (on e e.mark e.row said_word e.cell (FlushOutcome how))
  went = t.situation

  my : Mine p (Announce p) old new moves
  my = recovery_mine e e.mark e.row said_word e.cell (StoreOutcome how) (FlushOutcome how) old new was went (Announce p) moves passes (λ r is. absurd (no_value r is)) (λ r is. absurd (no_value r is))
      (λ d. store.elsewhere (Head d) (λ x. cc)) (λ d is. cc)

  marks : MyMarks p (Announce p) old new moves
  marks = stored_marks p (Announce p) old new moves (λ d is. cc) store.persisted store.buffer

  tells : (b : Bool) → SettledAs old f b → (n : ℕ) → announcement (number_of e) (phase_for b) ≡ announcement n phase.Done → IsKept old p n
  tells true k n is = record { edit = f; process_is = h.it.process; number_is = (let m = number_is in omega arith); safe = k.safe }
  tells false k n is = absurd (omega arith)

  word_fits : WordFits new (Announce p) (new.memory.cached (Announce p)) (new.memory.persisted (Announce p))
  word_fits = record {
    sides = (let s = (sound.words (Announce p)).sides in let l = moved.0 in let a = store.there in let b = store.persisted (Announce p) in omega arith);
    on_cached = λ n few is. kept_stable p (Announce p) old new moves tn.counted p n (tells how h.and n (sym store.there ∙ is));
    on_persisted = λ n few is. kept_stable p (Announce p) old new moves tn.counted p n ((sound.words (Announce p)).on_persisted n few (sym (store.persisted (Announce p)) ∙ is));
  }

  g : Grows p (Announce p) old new
  g = grows_own p (Announce p) old new moves tn.counted

  gf : Grows f.process (Announce p) old new
  gf = subst (λ (q : ℕ). Grows q (Announce p) old new) (sym h.it.process) g

  doubted : IsDoubted old p f.number (old.open_edits p)
  doubted = pending_open old p f.number (old.open_edits p) fits.doubt (h.it.cached ∙ h.it.is)

  mine_is : doubted.issue ≡ h.issue
  mine_is = let both : Some doubted.issue ≡ Some h.issue = sym doubted.issued ∙ h.it.issued in cc

  abbrev D : Type 0
  D = (d : IsInDoubt old p h.issue) × (d.now ≡ pending)

  doubt : D
  doubt = subst (λ (i : PlainIssue). (d : IsInDoubt old p i) × (d.now ≡ pending)) mine_is (doubted.doubt, doubted.now)

  few_before : rank doubt.0.before ≤ 1
  few_before = let o = doubt.0.order in let n = ap rank doubt.1 in omega arith

  in_doubt : IsInDoubt new p h.issue
  in_doubt = record {
    mine = doubt.0.mine;
    number = doubt.0.number;
    cell = rw tn.layout doubt.0.cell;
    text = doubt.0.text;
    standing = standing_for how;
    stands = standing_stable (Announce p) old new f gf (standing_for how) (stands_for old f how h.and);
    before = doubt.0.before;
    now = ended (outcome_for how);
    cached = store.there ∙ ap (λ (n : ℕ). announcement n (phase_for how)) number_is ∙ ended_word new f how;
    persisted = store.persisted (Announce p) ∙ doubt.0.persisted ∙ sym (word_stable (Announce p) old new f gf doubt.0.before);
    said = may_end how;
    said_before = said_before old f doubt.0.standing doubt.0.before how doubt.0.stands doubt.0.said_before few_before h.and;
    order = (let l = few_before in omega arith);
    written = written_stable (Announce p) old new f gf (λ x. cc) (ended (outcome_for how)) (written_pending old f how doubt.0.now doubt.1 doubt.0.written);
  }

  -- its header stands, and says its cell
  its_header : IsHeadersCell new p said_word e.cell
  its_header =
      let number : number_after said_word - 1 ≡ f.number = (let told = announced_number (number_of e) (phase_for how) in let same = number_is in omega (arith, told, same)) in
      let written : IsRecorded old First f 1 1 = subst (λ (a : Announced). IsWritten old f a) doubt.1 doubt.0.written in
      let there : new.memory.cached (Header p (number_after said_word - 1)) ≡ record_word f 0 =
      ap (λ n. new.memory.cached (Header p n)) number ∙ store.elsewhere (Header p f.number) (λ x. cc) ∙ ap (λ q. old.memory.cached (Header q f.number)) (sym h.it.process) ∙ written.cached 0 (omega arith) in
      subst (λ c. SaysCell new.layout c (new.memory.cached (Header p (number_after said_word - 1)))) h.own_is (says_own new f _ there (rw tn.layout doubt.0.cell) doubt.0.text)

  pub step_store_outcome : Keeps p old new
  step_store_outcome = moves_sound p (Announce p) old new moves tn.counted sound (bears p (Announce p) old new moves sound my)
      (all_stand p (Announce p) old new moves sound (buffered old sound) my (text_same old new moves.layout tn.counted) marks)
      (recovery_apart e e.mark e.row said_word e.cell (StoreOutcome how) (FlushOutcome how) old new was went (Announce p) moves passes)
      (λ d ne. recovery_keeps e e.mark e.row said_word e.cell (StoreOutcome how) (FlushOutcome how) old new was went (Announce p) moves passes t.open_edits d) word_fits
      (λ l. subst (λ (s : Situation). CallFits new p s) (sym went)
      (recovery_fits e e.mark e.row said_word e.cell (StoreOutcome how) (FlushOutcome how) old new was went fits tn.layout t.open_edits
      (subst (λ (o : Option PlainIssue). DoubtFits new p o) (sym h.it.issued) in_doubt)
      (λ r by. fits.freed r (subst (λ (x : ℕ). IsHeldBy p x) (store.elsewhere (Mark r) (λ x. cc)) by)) (
        store.there,
        record { number = number_of e; few = (let n = number_is in let k = h.it.number in omega arith); is = refl },
        its_header,
      )
      (store.buffer p ∙ fits.buffer) (said_announced (number_of e) how (let n = fits.is.stage.0.few in let k = fits.is.stage.0.some in omega arith), fits.is.stage.1)))
