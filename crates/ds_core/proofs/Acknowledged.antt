-- An edit that is answered Done stands in the last list exactly once, as it was asked for.
use Rattle.std.proofs.Common.{ℕ, ◌≡◌, ◌<◌, ◌≤◌, ◌+◌, ◌⊎◌, List, [], ◌∷◌, refl, ap, sym, ◌∙◌, subst, arith, inl, inr, zero, suc, length, Bool, true, false, cond, Some, None, map}
use Rattle.std.specs.Prelude.{Option, Contains, All, slice_get, filter}
use Rattle.std.proofs.lemmas.Bool.Decides.{eqb_tells}
use Rattle.std.proofs.lemmas.List.Elements.{All-contains}
use Rattle.ds_formula.specs.declared.cells.Shape.{Shape}
use Rattle.ds_formula.specs.Cells.{index_of}
use Rattle.ds_state.specs.World.{PlainEdit, is_edit_of}
use Rattle.ds_state.specs.Value.{WorldValue}
use Rattle.ds_core.specs.Requests.{PlainRequest}
use Rattle.ds_core.specs.Moments.{Placed, Open, Closed, Ledger, Moment, AreApart, NoneTwice, edits_in}
use Rattle.ds_core.specs.LedgerSteps.{Stands, told_of, Closes, Resolves}
use Rattle.ds_core.specs.Headline.{IsIssueOf, Happens, IsClosed, Headline, IsAcknowledged, IsToldDone}
use Rattle.ds_core.specs.declared.event.Event.{Event}
use Rattle.ds_core.specs.declared.event.Event.TheVariants.{BeginEdit, BeginWork, BeginShow, BeginRecover, BeginMigrate, Step, Offer, Evict, Stop, Crash}
use Rattle.ds_state.specs.declared.recovery.LastEdit.{LastEdit}
use Rattle.ds_state.specs.declared.answer.Answer.TheVariants.{Edit, Recovery}
use Rattle.ds_state.specs.declared.answer.EditEnd.TheVariants.{Done}
use Rattle.ds_state.specs.declared.recovery.RecoveryEnd.TheVariants.{Last}
use Rattle.ds_core.specs.declared.reply.Reply.{Reply}
use Rattle.ds_core.specs.declared.reply.Reply.TheVariants.{Begun, Answered}
use Rattle.ds_core.proofs.Moved.{put_here}
use Rattle.ds_core.proofs.Closing.{contains_none, up, IsAsked, orderly, asked, the_move}
use Rattle.ds_core.proofs.Unrepeated.{IsBehind, behind_closed, unrepeated}

abbrev test : ℕ → ℕ → Placed → Bool
test p n e = is_edit_of p n e.edit

-- how the test ends
its : (p n : ℕ) (e : Placed) → ((test p n e ≡ true) × (e.edit.process ≡ p) × (e.edit.number ≡ n)) ⊎ ((test p n e ≡ false) × (e.edit.process ≡ p → e.edit.number ≡ n → ⊥))
its p n e = elim (eqb_tells e.edit.process p) [
  | inl a ↦ elim (eqb_tells e.edit.number n) [
    | inl b ↦ inl (rw a.0 b.0, a.1, b.1)
    | inr b ↦ inr (rw a.0 b.0, λ x y. b.1 y)
  ]
  | inr a ↦ inr (rw a.0 refl, λ x y. a.1 x)
]

no_more : (p n : ℕ) (es : List Placed) → All (λ f. f.edit.process ≡ p → f.edit.number ≡ n → ⊥) es → filter (is_edit_of p n) (map (λ (e : Placed). e.edit) es) ≡ []
no_more p n [] all = refl
no_more p n (x ∷ es) all = elim (its p n x) [
  | inl is ↦ absurd (all 0 x (omega arith) is.1 is.2)
  | inr is ↦ subst (λ b. cond b (x.edit ∷ filter (is_edit_of p n) (map (λ (e : Placed). e.edit) es)) (filter (is_edit_of p n) (map (λ (e : Placed). e.edit) es)) ≡ []) (sym is.0)
      (no_more p n es (λ k d lt. all (suc k) d (omega arith)))
]

just_one : (p n : ℕ) (es : List Placed) (e : Placed) → NoneTwice es → Contains es e → e.edit.process ≡ p → e.edit.number ≡ n → filter (is_edit_of p n) (map (λ (e : Placed). e.edit) es) ≡ e.edit ∷ []
just_one p n [] e once there process number = absurd (contains_none e there)
just_one p n (x ∷ es) e once there process number = elim (its p n x) [
  | inl is ↦ subst (λ b. cond b (x.edit ∷ filter (is_edit_of p n) (map (λ (f : Placed). f.edit) es)) (filter (is_edit_of p n) (map (λ (f : Placed). f.edit) es)) ≡ e.edit ∷ []) (sym is.0)
      (ap (λ es'. x.edit ∷ es') (no_more p n es (λ k d lt a b. once.0 k d lt (a ∙ sym is.1) (b ∙ sym is.2))) ∙ ap (λ (f : Placed). f.edit ∷ []) (first is.1 is.2 there))
  | inr is ↦ subst (λ b. cond b (x.edit ∷ filter (is_edit_of p n) (map (λ (f : Placed). f.edit) es)) (filter (is_edit_of p n) (map (λ (f : Placed). f.edit) es)) ≡ e.edit ∷ []) (sym is.0)
      (just_one p n es e once.1 (later is.1 there) process number)
]
  where
    first : x.edit.process ≡ p → x.edit.number ≡ n → Contains (x ∷ es) e → x ≡ e
    first a b (zero, lt, is) = is
    first a b (suc k, lt, is) = absurd (All-contains (AreApart x) es e once.0 (k, omega arith, is) (process ∙ sym a) (number ∙ sym b))

    later : (x.edit.process ≡ p → x.edit.number ≡ n → ⊥) → Contains (x ∷ es) e → Contains es e
    later differs (zero, lt, is) = absurd (differs (ap (λ (f : Placed). f.edit.process) is ∙ process) (ap (λ (f : Placed). f.edit.number) is ∙ number))
    later differs (suc k, lt, is) = (k, omega arith, is)

-- the place of an element is below the list's length
pub within : {A : Type 0} (xs : List A) (k : ℕ) (x : A) → slice_get xs k ≡ Some x → k < length xs
within [] k x is = absurd (cc)
within (y ∷ xs) zero x is = omega arith
within (y ∷ xs) (suc k) x is = let l = within xs k x is in omega arith

pub record WasBegun (events : List Event) (replies : List Reply) (shape : Shape) (e : Placed) : Type 0 where
  pub request : PlainRequest
  pub begun : Happens events replies e.place (BeginEdit request) (Begun e.edit.number)
  pub process : request.process ≡ e.edit.process
  pub is : e.edit ≡ record { process = e.edit.process; number = e.edit.number; cell = index_of shape request.cell; text = request.text }

-- only the begin of an edit issues one
pub was_begun : (events : List Event) (replies : List Reply) (shape : Shape) (e : Placed) (event : Event) (reply : Reply) → Happens events replies e.place event reply → IsIssueOf shape event reply e.edit → WasBegun events replies shape e
was_begun events replies shape e (BeginEdit r) (Begun number) happens is =
    let process : r.process ≡ e.edit.process = sym (ap (λ (x : PlainEdit). x.process) is) in
    let n : number ≡ e.edit.number = sym (ap (λ (x : PlainEdit). x.number) is) in
    record {
      request = r;
      begun = subst (λ i. Happens events replies e.place (BeginEdit r) (Begun i)) n happens;
      process = process;
      is = is ∙ ap (λ i. record { process = i; number = number; cell = index_of shape r.cell; text = r.text }) process
          ∙ ap (λ i. record { process = e.edit.process; number = i; cell = index_of shape r.cell; text = r.text }) n;
    }
was_begun events replies shape e (BeginEdit r) _ happens is = absurd is
was_begun events replies shape e (BeginWork q cell) reply happens is = absurd is
was_begun events replies shape e (BeginShow q) reply happens is = absurd is
was_begun events replies shape e (BeginRecover q) reply happens is = absurd is
was_begun events replies shape e (BeginMigrate q) reply happens is = absurd is
was_begun events replies shape e (Step q) reply happens is = absurd is
was_begun events replies shape e (Offer value) reply happens is = absurd is
was_begun events replies shape e (Evict word) reply happens is = absurd is
was_begun events replies shape e (Stop q) reply happens is = absurd is
was_begun events replies shape e Crash reply happens is = absurd is

module _ (old : WorldValue) (events : List Event) (replies : List Reply) (new : WorldValue) (h : Headline old events replies new) where
  abbrev at : ℕ → Ledger
  at i = (h.run.moment i).ledger

  -- the process's edit was closed as one that is linearized, at this place
  module _ (k p n place : ℕ) (it : Placed) (lt : place < length events) (until : place ≤ k) (within_run : k ≤ length events) (closed : IsClosed h.run.moment place p it) (there : Contains (at place).counted it) (number : it.edit.number ≡ n) (spent : IsBehind p n (at (place + 1))) where
    stands : Contains (at (length events)).counted it
    stands = (h.closed place p it lt closed (length events) lt (omega arith)).1 there

    process : it.edit.process ≡ p
    process = ap (λ (x : Placed). x.edit.process) (sym closed.is) ∙ (orderly old events replies new h.run place (omega (arith, lt))).mine p closed.open_edit closed.was

    early : it.place < k
    early = let l = (orderly old events replies new h.run place (omega (arith, lt))).opens p closed.open_edit closed.was in let same = ap (λ (x : Placed). x.place) closed.is in omega arith

    pub begun : WasBegun events replies old.sheet.layout.shape it
    begun = let a = subst (λ (x : Placed). IsAsked old events replies new h.run x) closed.is ((asked old events replies new h.run place (omega (arith, lt))).opens p closed.open_edit closed.was) in was_begun events replies old.sheet.layout.shape it a.event a.reply a.happens a.issues

    last_list : edits_in (at (length events)) ≡ new.counted
    last_list = (h.run.fits (length events) (omega arith)).counted ∙ ap (λ (v : WorldValue). v.counted) h.run.last

    pub stands_once : IsAcknowledged old events replies k p n new.counted
    stands_once = record {
      request = begun.request;
      start = it.place;
      earlier = early;
      begun = subst (λ i. Happens events replies it.place (BeginEdit begun.request) (Begun i)) number begun.begun;
      mine = begun.process ∙ process;
      last = unrepeated old events replies new h.run place p n k it lt until within_run closed number spent;
      once = ap (λ (es : List PlainEdit). filter (is_edit_of p n) es) (sym last_list)
          ∙ just_one p n (at (length events)).counted it (h.run.fits (length events) (omega arith)).once stands process number
          ∙ ap (λ (x : PlainEdit). x ∷ []) (begun.is ∙ ap (λ i. record { process = i; number = it.edit.number; cell = index_of old.sheet.layout.shape begun.request.cell; text = begun.request.text }) process
          ∙ ap (λ i. record { process = p; number = i; cell = index_of old.sheet.layout.shape begun.request.cell; text = begun.request.text }) number);
    }

  -- at a place where an event closes it
  closed_at : (k p number : ℕ) (doubt counts : Bool) (And : Open → Type 0) (c : Closes (at k) p number doubt counts And (at (k + 1))) → IsClosed h.run.moment k p c.open_edit.it
  closed_at k p number doubt counts And c = record { open_edit = c.open_edit; was = c.was; is = refl; gone = ap (λ (l : Ledger). l.opens p) c.is ∙ put_here (at k).opens p None }

  -- its number is spent after that place
  spent_at : (k p number : ℕ) (doubt counts : Bool) (And : Open → Type 0) (c : Closes (at k) p number doubt counts And (at (k + 1))) → IsBehind p number (at (k + 1))
  spent_at k p number doubt counts And c = subst (λ n. IsBehind p n (at (k + 1))) c.number_is (behind_closed (at (k + 1)) p (record { it = c.open_edit.it; counts = counts })
      (ap (λ (l : Ledger). l.told p) c.is ∙ put_here (at k).told p _) (ap (λ (l : Ledger). l.opens p) c.is ∙ put_here (at k).opens p None))

  done_once : (k p n : ℕ) → Happens events replies k (Step p) (Answered (Edit (Done n))) → IsAcknowledged old events replies k p n new.counted
  done_once k p n done =
      let c : Closes (at k) p n false true (λ o. Unit {0}) (at (k + 1)) = h.run.ledger k (Step p) (Answered (Edit (Done n))) done in
      stands_once k p n k c.open_edit.it (within events k (Step p) done.event_is) (omega arith) (let l = within events k (Step p) done.event_is in omega arith) (closed_at k p n false true _ c) c.stands c.number_is
      (spent_at k p n false true _ c)

  -- ---- what a recovery reports

  -- the edit that is reported was closed at an earlier place
  record WasClosed (k q : ℕ) (c : Closed) : Type 0 where
    place : ℕ
    early : place < k
    closed : IsClosed h.run.moment place q c.it
    stands : Stands (at place).counted c.it c.counts
    spent : IsBehind q c.it.edit.number (at (place + 1))

  later : (k q : ℕ) (c : Closed) → WasClosed k q c → WasClosed (k + 1) q c
  later k q c w = record { place = w.place; early = (let l = w.early in omega arith); closed = w.closed; stands = w.stands; spent = w.spent }

  told_closed : (k : ℕ) → k ≤ length events → (q : ℕ) (c : Closed) → (at k).told q ≡ Some c → WasClosed k q c
  told_closed zero lt q c is = absurd (let first : (at 0).told q ≡ None = ap (λ (m : Moment). m.ledger.told q) h.run.first in let bad : None ≡ Some c = sym first ∙ is in cc)
  told_closed (suc k) lt q c is =
      let here : (at (k + 1)).told q ≡ Some c = ap (λ i. (at i).told q) (let same : k + 1 ≡ suc k = omega arith in same) ∙ is in
      up (λ i. WasClosed i q c) k (elim ((the_move old events replies new h.run k (omega arith)).moves.told q c here) [
        | inl before ↦ later k q c (told_closed k (omega arith) q c before)
        | inr now ↦ record {
          place = k;
          early = omega arith;
          closed = record { open_edit = now.o; was = now.was; is = now.same; gone = now.gone };
          stands = now.stands;
          spent = behind_closed (at (k + 1)) q c here now.gone;
        }
      ])

  -- ---- what is reported as done is linearized

  module _ (k p : ℕ) (told : LastEdit) (lt : k < length events) (counts : told.counts ≡ true) where
    abbrev IsDone : Type 0
    IsDone = IsToldDone old events replies k p told new.counted

    -- closed at this place as one that is linearized
    by_closed : (place : ℕ) (it : Placed) → place < length events → place ≤ k → IsClosed h.run.moment place p it → Contains (at place).counted it → it.edit.number ≡ told.number → it.edit.cell ≡ told.cell
        → IsBehind p told.number (at (place + 1)) → IsDone
    unfolding stands_once begun
    by_closed place it low until closed there number cell spent =
        let b = begun k p told.number place it low until (omega (arith, lt)) closed there number spent in
        record { it = stands_once k p told.number place it low until (omega (arith, lt)) closed there number spent; cell = sym cell ∙ ap (λ (x : PlainEdit). x.cell) b.is }

    by_told : (o : Option Closed) → (at k).told p ≡ o → Last told ≡ told_of o → IsDone
    by_told None is same = absurd (cc)
    by_told (Some c) is same =
        let one : told ≡ record { number = c.it.edit.number; cell = c.it.edit.cell; counts = c.counts } = cc in
        let w = told_closed k (omega arith) p c is in
        let early = w.early in
        by_closed w.place c.it (omega arith) (omega arith) w.closed (subst (λ (b : Bool). Stands (at w.place).counted c.it b) (sym (ap (λ (t : LastEdit). t.counts) one) ∙ counts) w.stands)
        (sym (ap (λ (t : LastEdit). t.number) one)) (sym (ap (λ (t : LastEdit). t.cell) one))
        (subst (λ n. IsBehind p n (at (w.place + 1))) (sym (ap (λ (t : LastEdit). t.number) one)) w.spent)

    by_moves : Resolves (at k) p (Last told) (at (k + 1)) → IsDone
    by_moves (inl c) = by_closed k c.open_edit.it lt (omega arith) (closed_at k p told.number true told.counts _ c) (subst (λ (b : Bool). Stands (at k).counted c.open_edit.it b) counts c.stands) c.number_is c.also
        (spent_at k p told.number true told.counts _ c)
    by_moves (inr (inl f)) = by_told ((at k).told p) refl f.repeats
    by_moves (inr (inr r)) = by_told ((at k).told p) refl r.repeats

  told_once : (k p : ℕ) (told : LastEdit) → Happens events replies k (Step p) (Answered (Recovery (Last told))) → told.counts ≡ true → IsToldDone old events replies k p told new.counted
  told_once k p told happens counts = by_moves k p told (within events k (Step p) happens.event_is) counts (h.run.ledger k (Step p) (Answered (Recovery (Last told))) happens)

-- an edit that was answered Done stands in the last list just once, as it was asked for
pub acknowledged_once : (old : WorldValue) (events : List Event) (replies : List Reply) (new : WorldValue) (k p n : ℕ) → Headline old events replies new → Happens events replies k (Step p) (Answered (Edit (Done n)))
    → IsAcknowledged old events replies k p n new.counted
acknowledged_once old events replies new k p n h done = done_once old events replies new h k p n done

-- an edit that a recovery reported as done stands in the last list just once, as it was asked for
pub resolved_once : (old : WorldValue) (events : List Event) (replies : List Reply) (new : WorldValue) (k p : ℕ) (told : LastEdit) → Headline old events replies new → Happens events replies k (Step p) (Answered (Recovery (Last told))) → told.counts ≡ true
    → IsToldDone old events replies k p told new.counted
resolved_once old events replies new k p told h happens counts = told_once old events replies new h k p told happens counts
