-- What each event, with its reply, does to the words and to the ledger.
use Rattle.std.specs.Prelude.{ℕ, ◌≡◌, ◌+◌, ◌==◌, ◌⊎◌, ◌++◌, Bool, true, false, List, [], ◌∷◌, filter, Option, Some, None, Contains, if◌then◌else◌}
use Rattle.ds_formula.specs.declared.cells.Shape.{Shape}
use Rattle.ds_formula.specs.Cells.{index_of}
use Rattle.ds_words.specs.declared.access.Access.{Access}
use Rattle.ds_words.specs.Memory.{Memory, SameMemory, EvictsAt, StopsAt, Crashes}
use Rattle.ds_layout.specs.declared.place.Place.{Place}
use Rattle.ds_layout.specs.SheetMemory.{PerformsAt}
use Rattle.ds_state.specs.World.{PlainEdit}
use Rattle.ds_core.specs.Moments.{Placed, Open, Closed, Ledger}
use Rattle.ds_core.specs.declared.event.Event.{Event}
use Rattle.ds_core.specs.declared.event.Event.TheVariants.{BeginEdit, BeginWork, BeginShow, BeginRecover, BeginMigrate, Step, Offer, Evict, Stop, Crash}
use Rattle.ds_state.specs.declared.answer.Other.{Other}
use Rattle.ds_state.specs.declared.answer.Answer.{Answer}
use Rattle.ds_state.specs.declared.answer.Answer.TheVariants.{Edit, Work, Show, Recovery, Migration}
use Rattle.ds_state.specs.declared.answer.EditEnd.TheVariants.{Done, Overtaken}
use Rattle.ds_state.specs.declared.recovery.RecoveryEnd.{RecoveryEnd}
use Rattle.ds_state.specs.declared.recovery.RecoveryEnd.TheVariants.{Last, Nothing}
use Rattle.ds_core.specs.declared.reply.Reply.{Reply}
use Rattle.ds_core.specs.declared.reply.Reply.TheVariants.{Begun, Entered, Refused, Stepped, Answered, WrongTask, Evicted, Stopped, Crashed, NotEnabled}

-- ---- the words

-- the memory changes by one access of the process
abbrev pub OneAccess : ℕ → Memory Place → Memory Place → Type 0
OneAccess p old new = (access : Access Place) × (word : ℕ) × PerformsAt access p old new word

-- what an event does to the words, by its reply: one access, an eviction, a stop or a crash, or they stay; no other
-- reply is given
abbrev pub WordsMove : Memory Place → Event → Reply → Memory Place → Type 0
WordsMove old (BeginEdit r) (Begun number) new = SameMemory old new
WordsMove old (BeginEdit r) (Refused why) new = SameMemory old new
WordsMove old (BeginEdit r) NotEnabled new = SameMemory old new
WordsMove old (BeginWork p cell) Entered new = SameMemory old new
WordsMove old (BeginWork p cell) (Refused why) new = SameMemory old new
WordsMove old (BeginWork p cell) NotEnabled new = SameMemory old new
WordsMove old (BeginShow p) Entered new = SameMemory old new
WordsMove old (BeginShow p) (Refused why) new = SameMemory old new
WordsMove old (BeginShow p) NotEnabled new = SameMemory old new
WordsMove old (BeginRecover p) Entered new = SameMemory old new
WordsMove old (BeginRecover p) (Refused why) new = SameMemory old new
WordsMove old (BeginRecover p) NotEnabled new = SameMemory old new
WordsMove old (BeginMigrate p) Entered new = SameMemory old new
WordsMove old (BeginMigrate p) (Refused why) new = SameMemory old new
WordsMove old (BeginMigrate p) NotEnabled new = SameMemory old new
WordsMove old (Step p) Stepped new = OneAccess p old new
WordsMove old (Step p) (Answered answer) new = OneAccess p old new
WordsMove old (Step p) NotEnabled new = SameMemory old new
WordsMove old (Offer value) Stepped new = SameMemory old new
WordsMove old (Offer value) WrongTask new = SameMemory old new
WordsMove old (Evict place) Evicted new = EvictsAt place old new
WordsMove old (Evict place) NotEnabled new = SameMemory old new
WordsMove old (Stop p) Stopped new = StopsAt p old new
WordsMove old (Stop p) NotEnabled new = SameMemory old new
WordsMove old Crash Crashed new = Crashes old new
WordsMove old event reply new = ⊥

-- ---- the ledger

-- what is noted of each process, where this is noted of one of them from now on
abbrev pub put : {A : Type 0} → (ℕ → Option A) → ℕ → Option A → ℕ → Option A
put f p x = λ q. if q == p then x else f q

-- a process's next number: the one after the last that was closed under its number
abbrev pub next_number : Option Closed → ℕ
next_number None = 0
next_number (Some c) = c.it.edit.number + 1

-- the edit is in the list of linearized edits; with `false`, it is not
abbrev pub Stands : List Placed → Placed → Bool → Type 0
Stands counted it true = Contains counted it
Stands counted it false = Contains counted it → ⊥

-- the process, which had no open edit, begins its next one at this place among the events
pub record Issues (place : ℕ) (old : Ledger) (edit : PlainEdit) (new : Ledger) : Type 0 where
  pub none : old.opens edit.process ≡ None
  pub next : edit.number ≡ next_number (old.told edit.process)
  pub is : new ≡ record old { opens = put old.opens edit.process (Some (record { it = record { place = place; edit = edit }; before = old.counted; doubt = false })) }

-- the process's open edit, which is not in doubt and is not linearized, is linearized
pub record Counts (old : Ledger) (p : ℕ) (new : Ledger) : Type 0 where
  pub open_edit : Open
  pub was : old.opens p ≡ Some open_edit
  pub sure : open_edit.doubt ≡ false
  pub not_yet : Contains old.counted open_edit.it → ⊥
  pub is : new ≡ record old { counted = old.counted ++ open_edit.it ∷ [] }

-- the process's open edit is closed under its number: as one that is linearized just where it is
pub record Closes (old : Ledger) (p number : ℕ) (doubt counts : Bool) (And : Open → Type 0) (new : Ledger) : Type 0 where
  pub open_edit : Open
  pub was : old.opens p ≡ Some open_edit
  pub number_is : open_edit.it.edit.number ≡ number
  pub doubt_is : open_edit.doubt ≡ doubt
  pub stands : Stands old.counted open_edit.it counts
  pub also : And open_edit
  pub is : new ≡ record old { opens = put old.opens p None; told = put old.told p (Some (record { it = open_edit.it; counts = counts })) }

-- the other edit, which an answer Overtaken names, is of the open edit's cell, and was linearized since that one began
pub record IsOvertakenBy (old : Ledger) (other : Other) (open_edit : Open) : Type 0 where
  pub by : Placed
  pub counts : Contains old.counted by
  pub since : Contains open_edit.before by → ⊥
  pub cell : by.edit.cell ≡ open_edit.it.edit.cell
  pub process : by.edit.process ≡ other.process
  pub number : by.edit.number ≡ other.number

-- what a recovery answers of the last edit that was closed under its number: Nothing where there is none
abbrev pub told_of : Option Closed → RecoveryEnd
told_of None = Nothing
told_of (Some c) = Last (record { number = c.it.edit.number; cell = c.it.edit.cell; counts = c.counts })

-- the process's edit in doubt was never announced: it is not linearized, and its number will be given out again
pub record Forgets (old : Ledger) (p : ℕ) (end : RecoveryEnd) (new : Ledger) : Type 0 where
  pub open_edit : Open
  pub was : old.opens p ≡ Some open_edit
  pub doubt_is : open_edit.doubt ≡ true
  pub out : Contains old.counted open_edit.it → ⊥
  pub repeats : end ≡ told_of (old.told p)
  pub is : new ≡ record old { opens = put old.opens p None }

-- the process has no open edit, and its recovery reports again the last one that was closed under its number
pub record Repeats (old : Ledger) (p : ℕ) (end : RecoveryEnd) (new : Ledger) : Type 0 where
  pub none : old.opens p ≡ None
  pub repeats : end ≡ told_of (old.told p)
  pub is : new ≡ old

-- a recovery's answer closes the edit in doubt as it is reported, or forgets it, or, where no edit is open, repeats
-- what was answered
abbrev pub Resolves : Ledger → ℕ → RecoveryEnd → Ledger → Type 0
Resolves old p (Last told) new = Closes old p told.number true told.counts (λ o. o.it.edit.cell ≡ told.cell) new ⊎ (Forgets old p (Last told) new ⊎ Repeats old p (Last told) new)
Resolves old p Nothing new = Forgets old p Nothing new ⊎ Repeats old p Nothing new

-- a process's open edit, if it has one, put in doubt
abbrev pub in_doubt : Option Open → Option Open
in_doubt None = None
in_doubt (Some o) = Some (record o { doubt = true })

-- a crash: every open edit is in doubt, and of those that are linearized some may be lost, open ones alone
pub record Loses (old new : Ledger) : Type 0 where
  pub stays : Placed → Bool
  pub lost_open : (e : Placed) → Contains old.counted e → stays e ≡ false → (o : Open) × (old.opens e.edit.process ≡ Some o) × (o.it ≡ e)
  pub is : new ≡ record old { counted = filter stays old.counted; opens = λ p. in_doubt (old.opens p) }

-- what the answer of a call's last step does to the ledger
abbrev pub AnswerMoves : Ledger → ℕ → Answer → Ledger → Type 0
AnswerMoves old p (Edit (Done number)) new = Closes old p number false true (λ o. Unit {0}) new
AnswerMoves old p (Edit (Overtaken number other)) new = Closes old p number false false (IsOvertakenBy old other) new
AnswerMoves old p (Recovery end) new = Resolves old p end new
AnswerMoves old p (Work end) new = new ≡ old
AnswerMoves old p (Show end) new = new ≡ old
AnswerMoves old p (Migration end) new = new ≡ old

-- what the event at this place does to the ledger, by its reply; no other reply is given
abbrev pub LedgerMoves : ℕ → Shape → Ledger → Event → Reply → Ledger → Type 0
LedgerMoves place shape old (BeginEdit r) (Begun number) new = Issues place old (record { process = r.process; number = number; cell = index_of shape r.cell; text = r.text }) new
LedgerMoves place shape old (BeginEdit r) (Refused why) new = new ≡ old
LedgerMoves place shape old (BeginEdit r) NotEnabled new = new ≡ old
LedgerMoves place shape old (BeginWork p cell) Entered new = new ≡ old
LedgerMoves place shape old (BeginWork p cell) (Refused why) new = new ≡ old
LedgerMoves place shape old (BeginWork p cell) NotEnabled new = new ≡ old
LedgerMoves place shape old (BeginShow p) Entered new = new ≡ old
LedgerMoves place shape old (BeginShow p) (Refused why) new = new ≡ old
LedgerMoves place shape old (BeginShow p) NotEnabled new = new ≡ old
LedgerMoves place shape old (BeginRecover p) Entered new = new ≡ old
LedgerMoves place shape old (BeginRecover p) (Refused why) new = new ≡ old
LedgerMoves place shape old (BeginRecover p) NotEnabled new = new ≡ old
LedgerMoves place shape old (BeginMigrate p) Entered new = new ≡ old
LedgerMoves place shape old (BeginMigrate p) (Refused why) new = new ≡ old
LedgerMoves place shape old (BeginMigrate p) NotEnabled new = new ≡ old
LedgerMoves place shape old (Step p) Stepped new = (new ≡ old) ⊎ Counts old p new
LedgerMoves place shape old (Step p) (Answered answer) new = AnswerMoves old p answer new
LedgerMoves place shape old (Step p) NotEnabled new = new ≡ old
LedgerMoves place shape old (Offer value) Stepped new = new ≡ old
LedgerMoves place shape old (Offer value) WrongTask new = new ≡ old
LedgerMoves place shape old (Evict word) Evicted new = new ≡ old
LedgerMoves place shape old (Evict word) NotEnabled new = new ≡ old
LedgerMoves place shape old (Stop p) Stopped new = new ≡ record old { opens = put old.opens p (in_doubt (old.opens p)) }
LedgerMoves place shape old (Stop p) NotEnabled new = new ≡ old
LedgerMoves place shape old Crash Crashed new = Loses old new
LedgerMoves place shape old event reply new = ⊥
