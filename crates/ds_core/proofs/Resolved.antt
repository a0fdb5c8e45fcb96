-- A recovery's answer: what it does to the ledger, and what the words say after it.
use Rattle.std.proofs.Common.{ℕ, ◌≡◌, ◌≢◌, ◌<◌, ◌+◌, ◌-◌, ◌/◌, List, [], ◌∷◌, refl, ap, sym, ◌∙◌, subst, arith, inl, inr, zero, suc, Bool, true, false, Some, None}
use Rattle.std.specs.Prelude.{Option, Contains, if◌then◌else◌}
use Rattle.std.proofs.lemmas.Bool.{cases_eq}
use Rattle.std.proofs.lemmas.Bool.Decides.{eqb_tells}
use Rattle.ds_layout.specs.declared.place.Edition.TheVariants.{First}
use Rattle.ds_words.specs.Memory.{SameMemory}
use Rattle.ds_layout.specs.declared.announcement.Phase.{Phase}
use Rattle.ds_layout.specs.declared.announcement.Phase.TheVariants as phase
use Rattle.ds_layout.specs.declared.place.Place.TheVariants.{Header, Announce}
use Rattle.ds_layout.specs.declared.layout.Layout.{Layout}
use Rattle.ds_layout.specs.SheetMemory.{PerformsAt}
use Rattle.ds_state.specs.World.{PlainEdit, PlainIssue, PlainWorld, announcement, last_announcement, phase_among, is_edit_of}
use Rattle.ds_state.specs.Works.{PlainRecoverCall}
use Rattle.ds_state.specs.Known.{Standing, outside, inside, safe, Announced, last, pending, ended, word_of, phase_of, AreBelow, StandsAs, IsRecorded}
use Rattle.ds_state.specs.CallsFit.{CallFits, MaySay, DoubtFits, IsInDoubt, IsWritten, RecoveryFits}
use Rattle.ds_state.specs.KnownRecovery.{Tells as Announced_as, IsHeadersCell, ResolvedFits, resolved_at, over, phase_for}
use Rattle.ds_state.specs.Value.{WorldValue, world_of, IsGood}
use Rattle.ds_state.specs.declared.situation.Rest.{Rest}
use Rattle.ds_state.specs.declared.situation.Situation.{Situation}
use Rattle.ds_state.specs.declared.situation.Situation.TheVariants.{Idle}
use Rattle.ds_state.specs.declared.stage.Outcome.{Outcome}
use Rattle.ds_state.specs.declared.stage.Outcome.TheVariants as outcome
use Rattle.ds_state.specs.declared.recovery.RecoverStage.{RecoverStage}
use Rattle.ds_state.specs.declared.recovery.RecoverStage.TheVariants as stages
use Rattle.ds_state.proofs.Found.{gave_counts}
use Rattle.ds_state.specs.declared.answer.Answer.{Answer}
use Rattle.ds_state.specs.declared.answer.Answer.TheVariants.{Recovery}
use Rattle.ds_state.specs.declared.recovery.RecoveryEnd.TheVariants.{Last}
use Rattle.ds_recover.specs.RecoverySteps as steps
use Rattle.ds_recover.specs.RecoverySteps.{number_of, end_of}
use Rattle.ds_recover.proofs.RecoveryLaws.{repeated}
use Rattle.ds_core.specs.RecoveryEvents.{recovery_reply, RecoveryStepsBy}
use Rattle.ds_core.specs.Moments.{Placed, Closed, Ledger}
use Rattle.ds_core.specs.LedgerSteps.{put, next_number, told_of, Closes, Forgets, Repeats, Stands, AnswerMoves}
use Rattle.ds_core.specs.declared.reply.Reply.TheVariants.{Answered}
use Rattle.ds_core.proofs.Moved.{put_here}
use Rattle.ds_core.proofs.Closing.{contains_none}
use Rattle.ds_core.proofs.Headers.{sides_same}
use Rattle.ds_core.proofs.Ledgers.{IsOf, IsOpenAs, doubts, numbered, no_some, one_some, put_other, contains_edit, from_edits}
use Rattle.ds_core.proofs.Turns.{recovery_turn}
use Rattle.ds_core.proofs.Told.{cell_told, IsCounted, Tells, turn_leaves}
use Rattle.ds_core.proofs.Telling.{announced_number, tells_on, tells_closed, recorded_tells, told_by, below_out}

-- ---- how an edit ended, by the list

done_or : (b : Bool) (f : Phase) → f ≡ phase.Done → (if b then phase.Done else f) ≡ phase.Done
done_or true f is = refl
done_or false f is = is

itself : (x : PlainEdit) → is_edit_of x.process x.number x ≡ true
itself x = elim (eqb_tells x.process x.process) [
  | inr other ↦ absurd (other.1 refl)
  | inl same ↦ elim (eqb_tells x.number x.number) [
    | inr other ↦ absurd (other.1 refl)
    | inl is ↦ rw (same.0, is.0) refl
  ]
]

-- a linearized edit ended as done
pub counted_done : (es : List PlainEdit) (x : PlainEdit) → Contains es x → phase_among es x.process x.number ≡ phase.Done
counted_done [] x there = absurd (contains_none x there)
counted_done (y ∷ es) x (zero, lt, is) = ap (λ (z : PlainEdit). phase_among (z ∷ es) x.process x.number) is ∙ ap (λ (b : Bool). if b then phase.Done else phase_among es x.process x.number) (itself x)
counted_done (y ∷ es) x (suc k, lt, is) = done_or (is_edit_of x.process x.number y) (phase_among es x.process x.number) (counted_done es x (k, omega arith, is))

out_lost : (es : List PlainEdit) (p n : ℕ) → ((x : PlainEdit) → Contains es x → x.process ≡ p → x.number ≡ n → ⊥) → phase_among es p n ≡ phase.NotDone
out_lost [] p n none = refl
out_lost (y ∷ es) p n none =
    let rest = out_lost es p n (λ x there. none x (suc there.0, (let l = there.1 in omega arith), there.2)) in
    elim (eqb_tells y.process p) [
      | inr other ↦ rw other.0 rest
      | inl same ↦ elim (eqb_tells y.number n) [
        | inr apart ↦ rw (same.0, apart.0) rest
        | inl is ↦ absurd (none y (zero, omega arith, refl) same.1 is.1)
      ]
    ]

-- ---- at its answer

-- the recovery is at its answer, and this is what it reports
pub record IsAtAnswer (e : PlainRecoverCall) (s : RecoverStage) (answer : Answer) : Type 0 where
  pub how : Option Bool
  pub at : s ≡ stages.Answer how
  pub is : answer ≡ Recovery (end_of e how)

same_answer : (a b : Answer) → Answered a ≡ Answered b → a ≡ b
same_answer a b is = cc

-- a step of a recovery that is answered is at its answer, which is the one given
pub at_answer : (e : PlainRecoverCall) (s : RecoverStage) (answer : Answer) → Answered answer ≡ recovery_reply (steps.effect_at e s) → IsAtAnswer e s answer
at_answer e (stages.Answer how) answer is = record { how = how; at = refl; is = same_answer answer (Recovery (end_of e how)) is }
at_answer e _ answer is = absurd (cc)

-- the number that it leaves its process is announced
left_number : (word : ℕ) (how : Option Bool) (w : PlainWorld) (p cell : ℕ) → ResolvedFits w p word cell (over how) → steps.next_number word how ≡ word / 4
left_number word None w p cell r = let zero_word = r.2 in omega arith
left_number word (Some b) w p cell r = refl

announced_word : (word : ℕ) (how : Option Bool) (w : PlainWorld) (p cell : ℕ) → ResolvedFits w p word cell (over how) → w.memory.cached (Announce p) ≡ word
announced_word word None w p cell r = r.0
announced_word word (Some b) w p cell r = r.0

last_is : (es : List PlainEdit) (p n : ℕ) → last_announcement es p n / 4 ≡ n
last_is es p zero = refl
last_is es p (suc n) = announced_number n (phase_among es p n)

-- the world, with what it reports, after a recovery's answer
pub record IsResolved (layout : Layout) (l : Ledger) (p : ℕ) (answer : Answer) (v' : WorldValue) : Type 0 where
  pub ledger : Ledger
  pub moves : AnswerMoves l p answer ledger
  pub after : IsOf layout ledger v'
  pub tells : Tells ledger v'

-- a ledger that differs only in what it has of one process, whose recovery has answered
module _ (layout : Layout) (l l' : Ledger) (v v' : WorldValue) (h : IsOf layout l v) (good : IsGood v') (p : ℕ) (next : Rest) (same : v'.sheet.layout ≡ layout) (list : l'.counted ≡ l.counted) (counted : v'.counted ≡ v.counted)
    (gone : l'.opens p ≡ None) (opens : (q : ℕ) → q ≢ p → l'.opens q ≡ l.opens q) (told : (q : ℕ) → q ≢ p → l'.told q ≡ l.told q)
    (now : (world_of v').situation p ≡ Idle next) (others : (q : ℕ) → q ≢ p → (world_of v').situation q ≡ (world_of v).situation q)
    (none : (world_of v').open_edits p ≡ None) (pends : (q : ℕ) → q ≢ p → (world_of v').open_edits q ≡ (world_of v).open_edits q) (number : next.number ≡ next_number (l'.told p)) where
  open_on : (q : ℕ) (issue : PlainIssue) (b : Bool) → q ≢ p → IsOpenAs l issue q b → IsOpenAs l' issue q b
  open_on q issue b ne a = record {
    o = a.o;
    is = opens q ne ∙ a.is;
    edit = a.edit;
    mine = a.mine;
    doubt_is = a.doubt_is;
    running = λ on. (let r = a.running on in record { since = r.since; more = r.more; grown = list ∙ r.grown });
    only = λ f there is. a.only f (subst (λ (es : List Placed). Contains es f) list there) is;
  }

  pub rested : IsOf layout l' v'
  rested = record {
    good = good;
    same = same;
    counted = ap (λ (es : List Placed). Rattle.ds_core.proofs.Ledgers.edits es) list ∙ h.counted ∙ sym counted;
    none = λ q is. elim (cases_eq q p) [
      | inl here ↦ ap l'.opens here ∙ gone
      | inr other ↦ opens q other ∙ h.none q (sym (pends q other) ∙ is)
    ];
    some = λ q issue is. elim (cases_eq q p) [
      | inl here ↦ absurd (no_some ((world_of v').open_edits q) issue (ap (λ x. (world_of v').open_edits x) here ∙ none) is)
      | inr other ↦ subst (λ (b : Bool). IsOpenAs l' issue q b) (ap doubts (sym (others q other))) (open_on q issue _ other (h.some q issue (sym (pends q other) ∙ is)))
    ];
    numbers = λ q n is. elim (cases_eq q p) [
      | inl here ↦ one_some (numbered ((world_of v').situation q)) n next.number is (ap numbered (ap (λ x. (world_of v').situation x) here ∙ now)) ∙ number ∙ ap next_number (ap l'.told (sym here))
      | inr other ↦ h.numbers q n (ap numbered (sym (others q other)) ∙ is) ∙ ap next_number (sym (told q other))
    ];
  }

agree : (es : List Placed) (list : List PlainEdit) (it : Placed) (b d : Bool) → Rattle.ds_core.proofs.Ledgers.edits es ≡ list → IsCounted es it d → phase_among list it.edit.process it.edit.number ≡ phase_for b → b ≡ d
agree es list it true true same h is = refl
agree es list it false false same h is = refl
agree es list it true false same h is =
    let lost : phase_among list it.edit.process it.edit.number ≡ phase.NotDone = out_lost list it.edit.process it.edit.number (λ x there process number. (
    let r = from_edits es x (subst (λ (xs : List PlainEdit). Contains xs x) (sym same) there) in
    h r.0 r.1 (ap (λ (y : PlainEdit). y.process) r.2 ∙ process) (ap (λ (y : PlainEdit). y.number) r.2 ∙ number))) in
    absurd (let bad : phase.NotDone ≡ phase.Done = sym lost ∙ is in cc)
agree es list it false true same h is =
    let done = counted_done list it.edit (subst (λ (xs : List PlainEdit). Contains xs it.edit) same (contains_edit es it h)) in
    absurd (let bad : phase.Done ≡ phase.NotDone = sym done ∙ is in cc)

tells_some : (word : ℕ) (b : Bool) → Announced_as word b → word / 4 ≡ word / 4 - 1 + 1
tells_some word true k = let i = k.is in omega arith
tells_some word false k = let i = k.is in omega arith

none_above : (word : ℕ) (how : Option Bool) (w : PlainWorld) (p cell n : ℕ) (f : Phase) → ResolvedFits w p word cell (over how) → word ≡ announcement n f → (b : Bool) × (how ≡ Some b)
none_above word (Some b) w p cell n f r is = (b, refl)
none_above word None w p cell n f r is = absurd (let zero_word = r.2 in let some = ap (λ x. x / 4) is ∙ announced_number n f in omega arith)

not_pending : (word n : ℕ) (b : Bool) → Announced_as word b → word ≡ announcement n phase.Pending → ⊥
not_pending word n true k is = let i = k.is in omega arith
not_pending word n false k is = let i = k.is in omega arith

-- what the word of an ended edit says
tells_how : (word n : ℕ) (how : Outcome) (b : Bool) → Announced_as word b → word ≡ announcement n (phase_of how) → phase_of how ≡ phase_for b
tells_how word n outcome.Done true k is = refl
tells_how word n outcome.Done false k is = absurd (let i = k.is in omega arith)
tells_how word n (outcome.Overtaken x y) true k is = absurd (let i = k.is in omega arith)
tells_how word n (outcome.Overtaken x y) false k is = refl

may_repeat : (l l' : Ledger) (p : ℕ) (e : PlainRecoverCall) (how : Option Bool) (answer : Answer) → answer ≡ Recovery (end_of e how) → Repeats l p (end_of e how) l' → AnswerMoves l p answer l'
may_repeat l l' p e None answer is r = subst (λ (a : Answer). AnswerMoves l p a l') (sym is) (inr r)
may_repeat l l' p e (Some b) answer is r = subst (λ (a : Answer). AnswerMoves l p a l') (sym is) (inr (inr r))

may_forget : (l l' : Ledger) (p : ℕ) (e : PlainRecoverCall) (how : Option Bool) (answer : Answer) → answer ≡ Recovery (end_of e how) → Forgets l p (end_of e how) l' → AnswerMoves l p answer l'
may_forget l l' p e None answer is r = subst (λ (a : Answer). AnswerMoves l p a l') (sym is) (inl r)
may_forget l l' p e (Some b) answer is r = subst (λ (a : Answer). AnswerMoves l p a l') (sym is) (inr (inl r))

module _ (layout : Layout) (l : Ledger) (v v' : WorldValue) (h : IsOf layout l v) (good : IsGood v') (t : Tells l v) (p : ℕ) (answer : Answer) (s : RecoveryStepsBy v p (Answered answer) v') where
  abbrev e : PlainRecoverCall
  e = s.steps.recovery

  found : IsAtAnswer s.steps.recovery s.steps.recovery.stage answer
  found = at_answer s.steps.recovery s.steps.recovery.stage answer (s.is ∙ ap recovery_reply s.steps.is)

  fits : RecoveryFits (world_of v) p s.steps.recovery
  fits = subst (λ (x : Situation). CallFits (world_of v) p x) s.steps.at (h.good.sound.calls p s.steps.there)

  resolved : ResolvedFits (world_of v) p s.steps.recovery.announcement s.steps.recovery.cell (over found.how)
  resolved = subst (λ q. ResolvedFits (world_of v) q s.steps.recovery.announcement s.steps.recovery.cell (over found.how)) s.steps.mine
      (subst (λ (x : RecoverStage). ResolvedFits (world_of v) s.steps.recovery.process s.steps.recovery.announcement s.steps.recovery.cell (resolved_at x)) found.at fits.resolved)

  memory : SameMemory (world_of v).memory (world_of v').memory
  memory = (subst (λ (x : RecoverStage). PerformsAt (steps.access_at s.steps.recovery x) s.steps.recovery.process (world_of v).memory (world_of v').memory s.steps.word) found.at s.steps.steps.memory).1

  abbrev next : ℕ
  next = steps.next_number s.steps.recovery.announcement found.how

  abbrev resting : Rest
  resting = steps.rest_after s.steps.recovery found.how

  now : (world_of v').situation p ≡ Idle resting
  now = ap (λ q. (world_of v').situation q) (sym s.steps.mine) ∙ s.steps.steps.situation ∙ ap (λ (x : RecoverStage). steps.after s.steps.recovery x s.steps.word) found.at

  sure : doubts ((world_of v').situation p) ≡ false
  sure = ap doubts now

  gone : (world_of v').open_edits p ≡ None
  gone = ap (λ q. (world_of v').open_edits q) (sym s.steps.mine) ∙ s.steps.steps.open_edits ∙ ap (λ (x : RecoverStage). steps.open_edit_at ((world_of v).open_edits s.steps.recovery.process) x) found.at

  others : (q : ℕ) → q ≢ p → (world_of v').situation q ≡ (world_of v).situation q
  others q ne = s.steps.steps.others q (λ same. ne (same ∙ s.steps.mine))

  pends : (q : ℕ) → q ≢ p → (world_of v').open_edits q ≡ (world_of v).open_edits q
  pends q ne = s.steps.steps.others_open_edits q (λ same. ne (same ∙ s.steps.mine))

  cached_word : (world_of v).memory.cached (Announce p) ≡ s.steps.recovery.announcement
  cached_word = announced_word s.steps.recovery.announcement found.how (world_of v) p s.steps.recovery.cell resolved

  next_word : next ≡ (world_of v).memory.cached (Announce p) / 4
  next_word = left_number s.steps.recovery.announcement found.how (world_of v) p s.steps.recovery.cell resolved ∙ ap (λ x. x / 4) (sym cached_word)

  -- ---- it repeats what it reported before

  sees_cell : (b : Bool) → found.how ≡ Some b → s.steps.recovery.cell ≡ cell_told v.sheet.layout ((world_of v).memory.cached (Header p (number_of s.steps.recovery)))
  sees_cell b is =
      let read : IsHeadersCell (world_of v) p s.steps.recovery.announcement s.steps.recovery.cell = (subst (λ (o : Option Bool). ResolvedFits (world_of v) p s.steps.recovery.announcement s.steps.recovery.cell (over o)) is resolved).3 in
      sym (ap steps.cell_from read.is ∙ read.of_cell)

  told_cell : (b : Bool) (c : Closed) → found.how ≡ Some b → l.told p ≡ Some c → c.it.edit.number ≡ number_of s.steps.recovery → s.steps.recovery.cell ≡ c.it.edit.cell
  told_cell b c is told same = sees_cell b is ∙ ap (λ n. cell_told v.sheet.layout ((world_of v).memory.cached (Header p n))) (sym same) ∙ (t.told p c told).cached

  told_counts : (b : Bool) (c : Closed) → found.how ≡ Some b → l.told p ≡ Some c → c.it.edit.number ≡ number_of s.steps.recovery → b ≡ c.counts
  told_counts b c is told same =
      let k = t.told p c told in
      let low : s.steps.recovery.process < v.sheet.layout.processes = rw s.steps.mine s.steps.there in
      let at = ap (λ q. (world_of v).situation q) s.steps.mine ∙ s.steps.at in
      let r = repeated s.steps.recovery (Some b) (world_of v) h.good.sound low at (found.at ∙ ap (λ x. stages.Answer x) is) in
      agree l.counted v.counted c.it b c.counts h.counted k.counted
      (ap (λ q. phase_among v.counted q c.it.edit.number) (k.process ∙ sym s.steps.mine) ∙ ap (λ n. phase_among v.counted s.steps.recovery.process n) same ∙ r.1)

  repeats_by : (how : Option Bool) (o : Option Closed) → found.how ≡ how → l.told p ≡ o → steps.next_number s.steps.recovery.announcement how ≡ next_number o → ResolvedFits (world_of v) p s.steps.recovery.announcement s.steps.recovery.cell (over how)
      → end_of s.steps.recovery how ≡ told_of o
  repeats_by None None is told same r = refl
  repeats_by None (Some c) is told same r = absurd (omega arith)
  repeats_by (Some b) None is told same r = absurd (let k = tells_some s.steps.recovery.announcement b r.2 in omega arith)
  repeats_by (Some b) (Some c) is told same r =
      let some = tells_some s.steps.recovery.announcement b r.2 in
      let number : c.it.edit.number ≡ number_of s.steps.recovery = omega arith in
      ap (λ n. Last (record { number = n; cell = s.steps.recovery.cell; counts = b })) (sym number)
      ∙ ap (λ n. Last (record { number = c.it.edit.number; cell = n; counts = b })) (told_cell b c is told number)
      ∙ ap (λ (d : Bool). Last (record { number = c.it.edit.number; cell = c.it.edit.cell; counts = d })) (told_counts b c is told number)

  repeats_told : next ≡ next_number (l.told p) → end_of s.steps.recovery found.how ≡ told_of (l.told p)
  repeats_told same = repeats_by found.how (l.told p) refl refl same resolved

  -- what follows where no edit is closed under its number
  module _ (l' : Ledger) (list : l'.counted ≡ l.counted) (closed : l'.opens p ≡ None) (opens : (q : ℕ) → q ≢ p → l'.opens q ≡ l.opens q) (told : (q : ℕ) → l'.told q ≡ l.told q) (number : next ≡ next_number (l.told p)) where
    quiet_after : IsOf layout l' v'
    quiet_after = rested layout l l' v v' h good p resting (s.steps.steps.layout ∙ h.same) list s.steps.steps.counted closed opens (λ q ne. told q) now others gone pends (number ∙ ap next_number (sym (told p)))

    quiet_tells : Tells l' v'
    quiet_tells = tells_on p l l' v v' t (turn_leaves p v v' (recovery_turn v v' p (Answered answer) h.good.sound s)) s.steps.steps.layout told
        (λ q c is. subst (λ (es : List Placed). IsCounted es c.it c.counts) (sym list) (t.told q c is).counted)
        (λ c is. sides_same (world_of v).memory (world_of v').memory (Header p c.it.edit.number) memory)
        (λ issue is. absurd (no_some ((world_of v').open_edits p) issue gone is)) sure

  repeats : (world_of v).open_edits p ≡ None → IsResolved layout l p answer v'
  repeats none =
      let same = next_word ∙ t.announced p s.steps.there (ap doubts s.steps.at) none in
      record {
        ledger = l;
        moves = may_repeat l l p s.steps.recovery found.how answer found.is (record { none = h.none p none; repeats = repeats_told same; is = refl });
        after = quiet_after l refl (h.none p none) (λ q ne. refl) (λ q. refl) same;
        tells = quiet_tells l refl (h.none p none) (λ q ne. refl) (λ q. refl) same;
      }

  module _ (issue : PlainIssue) (is : (world_of v).open_edits p ≡ Some issue) where
    own : IsOpenAs l issue p true
    own = subst (λ (b : Bool). IsOpenAs l issue p b) (ap doubts s.steps.at) (h.some p issue is)

    doubt : IsInDoubt (world_of v) p issue
    doubt = subst (λ (o : Option PlainIssue). DoubtFits (world_of v) p o) is fits.doubt

    not_counted : AreBelow (world_of v) issue.edit.process issue.edit.number → IsCounted l.counted own.o.it false
    not_counted below = below_out l v own.o.it h.counted (subst (λ (x : PlainEdit). AreBelow (world_of v) x.process x.number) (sym own.edit) below)

    -- ---- the edit in doubt was never announced

    abbrev forgotten : Ledger
    forgotten = record l { opens = put l.opens p None }

    forgets : issue.edit.number ≡ (world_of v).memory.cached (Announce p) / 4 → AreBelow (world_of v) issue.edit.process issue.edit.number → IsResolved layout l p answer v'
    forgets number below =
        let same = next_word ∙ sym number ∙ t.opens p issue is in
        let none = put_here l.opens p None in
        record {
          ledger = forgotten;
          moves = may_forget l forgotten p s.steps.recovery found.how answer found.is (record {
            open_edit = own.o;
            was = own.is;
            doubt_is = own.doubt_is;
            out = λ there. not_counted below own.o.it there refl refl;
            repeats = repeats_told same;
            is = refl;
          });
          after = quiet_after forgotten refl none (λ q ne. put_other l.opens p None q ne) (λ q. refl) same;
          tells = quiet_tells forgotten refl none (λ q ne. put_other l.opens p None q ne) (λ q. refl) same;
        }

    -- ---- it is closed under its number

    module _ (b : Bool) (how : found.how ≡ Some b) (number : issue.edit.number + 1 ≡ (world_of v).memory.cached (Announce p) / 4) (written : IsRecorded (world_of v) First issue.edit 1 1) (counted : IsCounted l.counted own.o.it b) where
      abbrev ended_as : Closed
      ended_as = record { it = own.o.it; counts = b }

      abbrev ended_in : Ledger
      ended_in = record l { opens = put l.opens p None; told = put l.told p (Some ended_as) }

      stands : (c : Bool) → IsCounted l.counted own.o.it c → Stands l.counted own.o.it c
      stands true there = there
      stands false out = λ there. out own.o.it there refl refl

      word_number : s.steps.recovery.announcement / 4 ≡ issue.edit.number + 1
      word_number = ap (λ x. x / 4) (sym cached_word) ∙ sym number

      number_is : own.o.it.edit.number ≡ number_of s.steps.recovery
      number_is = ap (λ (x : PlainEdit). x.number) own.edit ∙ (let n = word_number in let same : issue.edit.number ≡ s.steps.recovery.announcement / 4 - 1 = omega arith in same)

      own_cell : issue.edit.cell ≡ s.steps.recovery.cell
      own_cell =
          let there = recorded_tells (world_of v) First issue.edit 1 (omega arith) written doubt.cell doubt.text in
          let same : issue.edit.number ≡ number_of s.steps.recovery = (let n = word_number in omega arith) in
          sym there.0 ∙ ap (λ q. cell_told v.sheet.layout ((world_of v).memory.cached (Header q issue.edit.number))) doubt.mine
          ∙ ap (λ n. cell_told v.sheet.layout ((world_of v).memory.cached (Header p n))) same ∙ sym (sees_cell b how)

      closes : Closes l p (number_of s.steps.recovery) true b (λ o. o.it.edit.cell ≡ s.steps.recovery.cell) ended_in
      closes = record {
        open_edit = own.o;
        was = own.is;
        number_is = number_is;
        doubt_is = own.doubt_is;
        stands = stands b counted;
        also = ap (λ (x : PlainEdit). x.cell) own.edit ∙ own_cell;
        is = refl;
      }

      after_close : IsOf layout ended_in v'
      after_close = rested layout l ended_in v v' h good p resting (s.steps.steps.layout ∙ h.same) refl s.steps.steps.counted (put_here l.opens p None) (λ q ne. put_other l.opens p None q ne) (λ q ne. put_other l.told p (Some ended_as) q ne)
          now others gone pends (next_word ∙ sym number ∙ ap (λ (x : PlainEdit). x.number + 1) (sym own.edit) ∙ ap next_number (sym (put_here l.told p (Some ended_as))))

      tells_close : Tells ended_in v'
      tells_close = tells_closed p l ended_in v v' t (recovery_turn v v' p (Answered answer) h.good.sound s) s.steps.steps.layout ended_as (put_here l.told p (Some ended_as)) (λ q ne. put_other l.told p (Some ended_as) q ne) refl
          (told_by l.counted (world_of v) p ended_as First issue.edit 1 own.edit doubt.mine counted (omega arith) written doubt.cell doubt.text)
          (sides_same (world_of v).memory (world_of v').memory (Header p ended_as.it.edit.number) memory) gone sure

      is_closed : IsResolved layout l p answer v'
      is_closed = record {
        ledger = ended_in;
        moves = subst (λ (a : Answer). AnswerMoves l p a ended_in) (sym (found.is ∙ ap (λ x. Recovery (end_of s.steps.recovery x)) how)) (inl closes);
        after = after_close;
        tells = tells_close;
      }

    stands_so : (st : Standing) (end : Outcome) (b : Bool) → MaySay st (ended end) → StandsAs (world_of v) issue.edit st → phase_of end ≡ phase_for b → IsCounted l.counted own.o.it b
    stands_so safe outcome.Done true said stands same =
        let counts = gave_counts (world_of v) issue.edit.cell stands.safe.own issue.edit stands.safe.head in
        let r = from_edits l.counted issue.edit (subst (λ (es : List PlainEdit). Contains es issue.edit) (sym h.counted) counts) in
        subst (λ (x : Placed). Contains l.counted x) (own.only r.0 r.1 (r.2 ∙ sym own.edit)) r.1
    stands_so outside (outcome.Overtaken x y) false said stands same = not_counted stands
    stands_so outside (outcome.Overtaken x y) true said stands same = absurd (cc)
    stands_so safe outcome.Done false said stands same = absurd (cc)
    stands_so outside outcome.Done b said stands same = absurd said
    stands_so safe (outcome.Overtaken x y) b said stands same = absurd said
    stands_so (inside _) end b said stands same = absurd said

    out_before : (st : Standing) → MaySay st last → StandsAs (world_of v) issue.edit st → AreBelow (world_of v) issue.edit.process issue.edit.number
    out_before outside said stands = stands
    out_before (inside _) said stands = absurd said
    out_before safe said stands = absurd said

    by_announced : (a : Announced) → MaySay doubt.standing a → (world_of v).memory.cached (Announce p) ≡ word_of (world_of v) issue.edit a → IsWritten (world_of v) issue.edit a → IsResolved layout l p answer v'
    by_announced last said c written = forgets (sym (ap (λ x. x / 4) c ∙ last_is v.counted issue.edit.process issue.edit.number)) (out_before doubt.standing said doubt.stands)
    by_announced pending said c written =
        let word = sym cached_word ∙ c in
        let some = none_above s.steps.recovery.announcement found.how (world_of v) p s.steps.recovery.cell issue.edit.number phase.Pending resolved word in
        absurd (not_pending s.steps.recovery.announcement issue.edit.number some.0 (subst (λ (o : Option Bool). ResolvedFits (world_of v) p s.steps.recovery.announcement s.steps.recovery.cell (over o)) some.1 resolved).2 word)
    by_announced (ended end) said c written =
        let word = sym cached_word ∙ c in
        let some = none_above s.steps.recovery.announcement found.how (world_of v) p s.steps.recovery.cell issue.edit.number (phase_of end) resolved word in
        let tells : Announced_as s.steps.recovery.announcement some.0 = (subst (λ (o : Option Bool). ResolvedFits (world_of v) p s.steps.recovery.announcement s.steps.recovery.cell (over o)) some.1 resolved).2 in
        let same = tells_how s.steps.recovery.announcement issue.edit.number end some.0 tells word in
        let number : suc issue.edit.number ≡ (world_of v).memory.cached (Announce p) / 4 = sym (announced_number issue.edit.number (phase_of end)) ∙ ap (λ x. x / 4) (sym c) in
        is_closed some.0 some.1 (omega arith) written (stands_so doubt.standing end some.0 said doubt.stands same)

  by_pending : (o : Option PlainIssue) → (world_of v).open_edits p ≡ o → IsResolved layout l p answer v'
  by_pending None is = repeats is
  by_pending (Some issue) is = by_announced issue is (doubt issue is).now (doubt issue is).said (doubt issue is).cached (doubt issue is).written

  pub resolves : IsResolved layout l p answer v'
  resolves = by_pending ((world_of v).open_edits p) refl
