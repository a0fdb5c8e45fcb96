-- What every event of a run does to the ledger, in one record; and what follows for edits that are closed.
use Rattle.std.proofs.Common.{ℕ, ◌≡◌, ◌≢◌, ◌⊎◌, [], ◌∷◌, ◌++◌, refl, ap, sym, ◌∙◌, subst, inl, inr, Bool, true, false, Some, None}
use Rattle.std.specs.Prelude.{Option, Contains, filter, if◌then◌else◌}
use Rattle.std.proofs.lemmas.Bool.Decides.{eqb_tells}
use Rattle.ds_formula.specs.declared.cells.Shape.{Shape}
use Rattle.ds_state.specs.World.{PlainEdit}
use Rattle.ds_core.specs.Moments.{Placed, Open, Closed, Ledger}
use Rattle.ds_core.specs.Headline.{IsIssueOf}
use Rattle.ds_core.specs.LedgerSteps.{put, in_doubt, next_number, Stands, Issues, Counts, Closes, Forgets, Loses, AnswerMoves, LedgerMoves}
use Rattle.ds_core.specs.declared.event.Event.{Event}
use Rattle.ds_core.specs.declared.event.Event.TheVariants.{BeginEdit, BeginWork, BeginShow, BeginRecover, BeginMigrate, Step, Offer, Evict, Stop, Crash}
use Rattle.ds_state.specs.declared.answer.Answer.{Answer}
use Rattle.ds_state.specs.declared.answer.Answer.TheVariants.{Edit, Work, Recovery, Migration, Show}
use Rattle.ds_state.specs.declared.answer.EditEnd.TheVariants.{Done, Overtaken}
use Rattle.ds_state.specs.declared.recovery.RecoveryEnd.{RecoveryEnd}
use Rattle.ds_state.specs.declared.recovery.RecoveryEnd.TheVariants.{Last, Nothing}
use Rattle.ds_core.specs.declared.reply.Reply.{Reply}
use Rattle.ds_core.specs.declared.reply.Reply.TheVariants.{Begun, Entered, Refused, Stepped, Answered, WrongTask, Evicted, Stopped, Crashed, NotEnabled}

-- the open edit was begun just now, under the process's next number
abbrev pub IsFresh : ℕ → (PlainEdit → Type 0) → Ledger → ℕ → Open → Type 0
IsFresh k I old q o = (o.it.place ≡ k) × (o.it.edit.process ≡ q) × I o.it.edit × (o.it.edit.number ≡ next_number (old.told q))

-- the open edit is the one that the process had before
pub record WasOpen (old : Ledger) (q : ℕ) (now : Open) : Type 0 where
  pub o : Open
  pub was : old.opens q ≡ Some o
  pub same : now.it ≡ o.it

abbrev pub NoneGone : Ledger → Ledger → Type 0
NoneGone old new = (q : ℕ) (o : Open) → old.opens q ≡ Some o → new.opens q ≡ None → ⊥

pub record Pushes (old new : Ledger) : Type 0 where
  pub p : ℕ
  pub o : Open
  pub was : old.opens p ≡ Some o
  pub is : new.counted ≡ old.counted ++ o.it ∷ []
  pub keeps : NoneGone old new

-- some edits are left out of the list, open ones alone, and no open edit is closed
pub record Filters (old new : Ledger) : Type 0 where
  pub stays : Placed → Bool
  pub lost_open : (e : Placed) → Contains old.counted e → stays e ≡ false → (o : Open) × (old.opens e.edit.process ≡ Some o) × (o.it ≡ e)
  pub is : new.counted ≡ filter stays old.counted
  pub keeps : NoneGone old new

-- what is noted of a process is read of it
pub put_here : {A : Type 0} (f : ℕ → Option A) (p : ℕ) (x : Option A) → put f p x p ≡ x
put_here f p x = elim (eqb_tells p p) [
  | inl same ↦ subst (λ b. (if b then x else f p) ≡ x) (sym same.0) refl
  | inr other ↦ absurd (other.1 refl)
]

-- the process's open edit is closed under its number
pub record ClosesAs (old : Ledger) (q : ℕ) (c : Closed) (new : Ledger) : Type 0 where
  pub o : Open
  pub was : old.opens q ≡ Some o
  pub same : o.it ≡ c.it
  pub gone : new.opens q ≡ None
  pub stands : Stands old.counted c.it c.counts

-- it was answered before, or is now
abbrev pub IsToldSo : Ledger → Ledger → ℕ → Closed → Type 0
IsToldSo old new q c = (old.told q ≡ Some c) ⊎ ClosesAs old q c new

-- what is reported of a process stays, or an open edit is closed
abbrev pub TellsOn : Ledger → Ledger → ℕ → Type 0
TellsOn old new q = (new.told q ≡ old.told q) ⊎ ((c : Closed) × (new.told q ≡ Some c) × ClosesAs old q c new)

-- what an event may do to the ledger: begin and close edits, and add to the list or leave open ones out
pub record Moved (k : ℕ) (I : PlainEdit → Type 0) (old new : Ledger) : Type 0 where
  pub opens : (q : ℕ) (o : Open) → new.opens q ≡ Some o → IsFresh k I old q o ⊎ WasOpen old q o
  pub told : (q : ℕ) (c : Closed) → new.told q ≡ Some c → IsToldSo old new q c
  pub tells : (q : ℕ) → TellsOn old new q
  pub counted : (new.counted ≡ old.counted) ⊎ (Pushes old new ⊎ Filters old new)

put_cases : {A : Type 0} (f : ℕ → Option A) (p : ℕ) (x : Option A) (q : ℕ) (r : Option A) → put f p x q ≡ r → ((q ≡ p) × (x ≡ r)) ⊎ ((q ≢ p) × (f q ≡ r))
put_cases f p x q r h = elim (eqb_tells q p) [
  | inl same ↦ inl (same.1, subst (λ b. (if b then x else f q) ≡ r) same.0 h)
  | inr other ↦ inr (other.1, subst (λ b. (if b then x else f q) ≡ r) other.0 h)
]

was_open : (old : Ledger) (q : ℕ) (o : Open) → old.opens q ≡ Some o → WasOpen old q o
was_open old q o h = record { o = o; was = h; same = refl }

doubted : (old : Ledger) (q : ℕ) (o : Open) (x : Option Open) → old.opens q ≡ x → in_doubt x ≡ Some o → WasOpen old q o
doubted old q o None was h = absurd (cc)
doubted old q o (Some y) was h = let same : record y { doubt = true } ≡ o = cc in record { o = y; was = was; same = sym (ap (λ (z : Open). z.it) same) }

doubt_keeps : (x : Option Open) (o : Open) → x ≡ Some o → in_doubt x ≡ None → ⊥
doubt_keeps None o a b = absurd (cc)
doubt_keeps (Some y) o a b = absurd (cc)

-- no open edit is not some open edit
pub none_some : (x : Option Open) (o : Open) → x ≡ None → x ≡ Some o → ⊥
none_some x o a b = let e : None ≡ Some o = sym a ∙ b in cc

same_moved : (k : ℕ) (I : PlainEdit → Type 0) (old new : Ledger) → new ≡ old → Moved k I old new
same_moved k I old new h = subst (λ (l : Ledger). Moved k I old l) (sym h) (record { opens = λ q o is. inr (was_open old q o is); told = λ q c is. inl is; tells = λ q. inl refl; counted = inl refl })

issues_moved : (k : ℕ) (I : PlainEdit → Type 0) (old : Ledger) (edit : PlainEdit) (new : Ledger) → I edit → Issues k old edit new → Moved k I old new
issues_moved k I old edit new i h = subst (λ (l : Ledger). Moved k I old l) (sym h.is) (record {
  opens = λ q o is. elim (put_cases old.opens edit.process _ q (Some o) is) [
    | inl here ↦ inl (
        let one : record { it = record { place = k; edit = edit }; before = old.counted; doubt = false } ≡ o = let s = here.1 in cc in (
          sym (ap (λ (x : Open). x.it.place) one),
          sym (ap (λ (x : Open). x.it.edit.process) one) ∙ sym here.0,
          subst I (ap (λ (x : Open). x.it.edit) one) i,
          sym (ap (λ (x : Open). x.it.edit.number) one) ∙ h.next ∙ ap (λ x. next_number (old.told x)) (sym here.0),
        ))
    | inr there ↦ inr (was_open old q o there.1)
  ];
  told = λ q c is. inl is;
  tells = λ q. inl refl;
  counted = inl refl;
})

counts_moved : (k : ℕ) (I : PlainEdit → Type 0) (old : Ledger) (p : ℕ) (new : Ledger) → Counts old p new → Moved k I old new
counts_moved k I old p new h = subst (λ (l : Ledger). Moved k I old l) (sym h.is) (record {
  opens = λ q o is. inr (was_open old q o is);
  told = λ q c is. inl is;
  tells = λ q. inl refl;
  counted = inr (inl (record { p = p; o = h.open_edit; was = h.was; is = refl; keeps = λ q o was gone. none_some (old.opens q) o gone was }));
})

gone_moved : (k : ℕ) (I : PlainEdit → Type 0) (old : Ledger) (p : ℕ) (told : ℕ → Option Closed) → ((q : ℕ) (c : Closed) → told q ≡ Some c → IsToldSo old (record old { opens = put old.opens p None; told = told }) q c)
    → ((q : ℕ) → TellsOn old (record old { opens = put old.opens p None; told = told }) q)
    → Moved k I old (record old { opens = put old.opens p None; told = told })
gone_moved k I old p told so on = record {
  opens = λ q o is. elim (put_cases old.opens p None q (Some o) is) [ inl here ↦ absurd (let s = here.1 in cc) | inr there ↦ inr (was_open old q o there.1) ];
  told = so;
  tells = on;
  counted = inl refl;
}

closes_moved : (k : ℕ) (I : PlainEdit → Type 0) (old : Ledger) (p number : ℕ) (doubt counts : Bool) (And : Open → Type 0) (new : Ledger) → Closes old p number doubt counts And new → Moved k I old new
closes_moved k I old p number doubt counts And new h = subst (λ (l : Ledger). Moved k I old l) (sym h.is) (gone_moved k I old p _ so on)
  where
    so : (q : ℕ) (c : Closed) → put old.told p (Some (record { it = h.open_edit.it; counts = counts })) q ≡ Some c → IsToldSo old (record old { opens = put old.opens p None; told = put old.told p (Some (record { it = h.open_edit.it; counts = counts })) }) q c
    so q c is = elim (put_cases old.told p (Some (record { it = h.open_edit.it; counts = counts })) q (Some c) is) [
      | inl here ↦ (let one : record { it = h.open_edit.it; counts = counts } ≡ c = let s = here.1 in cc in inr (record {
        o = h.open_edit;
        was = ap old.opens here.0 ∙ h.was;
        same = ap (λ (x : Closed). x.it) one;
        gone = ap (λ x. put old.opens p None x) here.0 ∙ put_here old.opens p None;
        stands = subst (λ (x : Closed). Stands old.counted x.it x.counts) one h.stands;
      }))
      | inr there ↦ inl there.1
    ]

    on : (q : ℕ) → TellsOn old (record old { opens = put old.opens p None; told = put old.told p (Some (record { it = h.open_edit.it; counts = counts })) }) q
    on q = elim (put_cases old.told p (Some (record { it = h.open_edit.it; counts = counts })) q _ refl) [
      | inl here ↦ inr (
        record { it = h.open_edit.it; counts = counts },
        sym here.1,
        record {
          o = h.open_edit;
          was = ap old.opens here.0 ∙ h.was;
          same = refl;
          gone = ap (λ x. put old.opens p None x) here.0 ∙ put_here old.opens p None;
          stands = h.stands;
        },
      )
      | inr there ↦ inl (sym there.1)
    ]

forgets_moved : (k : ℕ) (I : PlainEdit → Type 0) (old : Ledger) (p : ℕ) (end : RecoveryEnd) (new : Ledger) → Forgets old p end new → Moved k I old new
forgets_moved k I old p end new h = subst (λ (l : Ledger). Moved k I old l) (sym h.is) (gone_moved k I old p old.told (λ q c is. inl is) (λ q. inl refl))

stop_moved : (k : ℕ) (I : PlainEdit → Type 0) (old : Ledger) (p : ℕ) (new : Ledger) → new ≡ record old { opens = put old.opens p (in_doubt (old.opens p)) } → Moved k I old new
stop_moved k I old p new h = subst (λ (l : Ledger). Moved k I old l) (sym h) (record {
  opens = λ q o is. elim (put_cases old.opens p (in_doubt (old.opens p)) q (Some o) is) [
    | inl here ↦ inr (doubted old q o (old.opens q) refl (ap (λ x. in_doubt (old.opens x)) here.0 ∙ here.1))
    | inr there ↦ inr (was_open old q o there.1)
  ];
  told = λ q c is. inl is;
  tells = λ q. inl refl;
  counted = inl refl;
})

loses_moved : (k : ℕ) (I : PlainEdit → Type 0) (old new : Ledger) → Loses old new → Moved k I old new
loses_moved k I old new h = subst (λ (l : Ledger). Moved k I old l) (sym h.is) (record {
  opens = λ q o is. inr (doubted old q o (old.opens q) refl is);
  told = λ q c is. inl is;
  tells = λ q. inl refl;
  counted = inr (inr (record { stays = h.stays; lost_open = h.lost_open; is = refl; keeps = λ q o was gone. doubt_keeps (old.opens q) o was gone }));
})

answer_moved : (k : ℕ) (I : PlainEdit → Type 0) (old : Ledger) (p : ℕ) (answer : Answer) (new : Ledger) → AnswerMoves old p answer new → Moved k I old new
answer_moved k I old p (Edit (Done number)) new h = closes_moved k I old p number _ _ _ new h
answer_moved k I old p (Edit (Overtaken number other)) new h = closes_moved k I old p number _ _ _ new h
answer_moved k I old p (Recovery (Last told)) new (inl h) = closes_moved k I old p told.number _ _ _ new h
answer_moved k I old p (Recovery (Last told)) new (inr (inl h)) = forgets_moved k I old p _ new h
answer_moved k I old p (Recovery (Last told)) new (inr (inr h)) = same_moved k I old new h.is
answer_moved k I old p (Recovery Nothing) new (inl h) = forgets_moved k I old p _ new h
answer_moved k I old p (Recovery Nothing) new (inr h) = same_moved k I old new h.is
answer_moved k I old p (Work end) new h = same_moved k I old new h
answer_moved k I old p (Show end) new h = same_moved k I old new h
answer_moved k I old p (Migration end) new h = same_moved k I old new h

-- every event moves the ledger so
pub moved : (k : ℕ) (shape : Shape) (old : Ledger) (event : Event) (reply : Reply) (new : Ledger) → LedgerMoves k shape old event reply new → Moved k (IsIssueOf shape event reply) old new
moved k shape old (BeginEdit r) (Begun number) new h = issues_moved k _ old _ new refl h
moved k shape old (BeginEdit r) (Refused why) new h = same_moved k _ old new h
moved k shape old (BeginEdit r) NotEnabled new h = same_moved k _ old new h
moved k shape old (BeginEdit r) _ new h = absurd h
moved k shape old (BeginWork p cell) Entered new h = same_moved k _ old new h
moved k shape old (BeginWork p cell) (Refused why) new h = same_moved k _ old new h
moved k shape old (BeginWork p cell) NotEnabled new h = same_moved k _ old new h
moved k shape old (BeginWork p cell) _ new h = absurd h
moved k shape old (BeginShow p) Entered new h = same_moved k _ old new h
moved k shape old (BeginShow p) (Refused why) new h = same_moved k _ old new h
moved k shape old (BeginShow p) NotEnabled new h = same_moved k _ old new h
moved k shape old (BeginShow p) _ new h = absurd h
moved k shape old (BeginRecover p) Entered new h = same_moved k _ old new h
moved k shape old (BeginRecover p) (Refused why) new h = same_moved k _ old new h
moved k shape old (BeginRecover p) NotEnabled new h = same_moved k _ old new h
moved k shape old (BeginRecover p) _ new h = absurd h
moved k shape old (BeginMigrate p) Entered new h = same_moved k _ old new h
moved k shape old (BeginMigrate p) (Refused why) new h = same_moved k _ old new h
moved k shape old (BeginMigrate p) NotEnabled new h = same_moved k _ old new h
moved k shape old (BeginMigrate p) _ new h = absurd h
moved k shape old (Step p) Stepped new (inl h) = same_moved k _ old new h
moved k shape old (Step p) Stepped new (inr h) = counts_moved k _ old p new h
moved k shape old (Step p) (Answered answer) new h = answer_moved k _ old p answer new h
moved k shape old (Step p) NotEnabled new h = same_moved k _ old new h
moved k shape old (Step p) _ new h = absurd h
moved k shape old (Offer value) Stepped new h = same_moved k _ old new h
moved k shape old (Offer value) WrongTask new h = same_moved k _ old new h
moved k shape old (Offer value) _ new h = absurd h
moved k shape old (Evict word) Evicted new h = same_moved k _ old new h
moved k shape old (Evict word) NotEnabled new h = same_moved k _ old new h
moved k shape old (Evict word) _ new h = absurd h
moved k shape old (Stop p) Stopped new h = stop_moved k _ old p new h
moved k shape old (Stop p) NotEnabled new h = same_moved k _ old new h
moved k shape old (Stop p) _ new h = absurd h
moved k shape old Crash Crashed new h = loses_moved k _ old new h
moved k shape old Crash _ new h = absurd h
