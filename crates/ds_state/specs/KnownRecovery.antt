-- What a recovery knows at each of its stages, and what its buffer holds.
use Rattle.std.specs.Prelude.{ℕ, ◌≡◌, ◌<◌, ◌≤◌, ◌+◌, ◌-◌, ◌⊎◌, List, [], ◌∷◌, ◌++◌, Option, Some, None, Bool, true, false}
use Rattle.ds_layout.specs.declared.place.TheConstants.{RECORDS}
use Rattle.ds_layout.specs.declared.place.Place.TheVariants as place
use Rattle.ds_layout.specs.declared.announcement.Phase.{Phase}
use Rattle.ds_layout.specs.declared.announcement.Phase.TheVariants as phase
use Rattle.ds_state.specs.World.{PlainEdit, PlainIssue, PlainWorld, announcement}
use Rattle.ds_words.specs.declared.access.BufferEntry.{BufferEntry}
use Rattle.ds_layout.specs.declared.place.Place.{Place}
use Rattle.ds_state.specs.World.{of_cell, IsHeadBy}
use Rattle.ds_state.specs.declared.spread.Spread.{Spread}
use Rattle.ds_state.specs.declared.spread.Spread.TheVariants.{BackTold}
use Rattle.ds_state.specs.Known.{AreBelow, IsIn, IsSafelyIn}
use Rattle.ds_state.specs.Owing.{entry, HoldsNone}
use Rattle.ds_layout.specs.Announcement.{number_after}
use Rattle.ds_layout.specs.Mark.{IsHeldBy, tenure, marked}
use Rattle.ds_state.specs.Headers.{SaysCell}
use Rattle.ds_state.specs.KnownWork.{HasMark}
use Rattle.ds_state.specs.declared.recovery.RecoverStage.{RecoverStage}
use Rattle.ds_state.specs.declared.recovery.RecoverStage.TheVariants.{LoadVersion, FlushVersion, BackVersion, LoadMark, FlushValue, FlushKind, BackValue, BackKind, Telling, Give, GiveDirty, FlushGiven, BackGiven, LoadHeader, LoadHead, FlushHead, BackHead, LoadDone, OrMark, FlushMark, BackMark, StoreOutcome, FlushOutcome, BackOutcome, Answer}

-- how far a recovery has given its cells back: n are looked at; this one is held; its value is persisted; its
-- kind, too; also it was marked since it was looked at; all are free
pub data Freed : Type 0 where
  before : ℕ → Freed
  holding : ℕ → Freed
  value_back : ℕ → Freed
  both_back : ℕ → Freed
  outrun : ℕ → Freed
  all_free : Freed

-- how far a recovery at this stage has given its cells back
abbrev pub freed_at : RecoverStage → Freed
freed_at LoadVersion = before 0
freed_at FlushVersion = before 0
freed_at BackVersion = before 0
freed_at (LoadMark cell) = before cell
freed_at (FlushValue cell) = holding cell
freed_at (FlushKind cell) = holding cell
freed_at (BackValue cell) = holding cell
freed_at (BackKind cell) = value_back cell
freed_at (Telling cell spread) = both_back cell
freed_at (Give cell) = both_back cell
freed_at (GiveDirty cell) = outrun cell
freed_at (FlushGiven cell) = before (cell + 1)
freed_at (BackGiven cell) = before (cell + 1)
freed_at _ = all_free

-- the cells below this one are not held by the process
abbrev pub HoldsFrom : PlainWorld → ℕ → ℕ → Type 0
HoldsFrom w p cell = (r : ℕ) → r < cell → IsHeldBy p (w.memory.cached (place.Mark r)) → ⊥

-- the process holds the cell, by the mark that it saw, and no cell below it
pub record Holding (w : PlainWorld) (p mark cell : ℕ) : Type 0 where
  pub below : HoldsFrom w p cell
  pub by : IsHeldBy p mark
  pub stands : tenure (w.memory.cached (place.Mark cell)) ≡ tenure mark
  pub seen : mark ≤ w.memory.cached (place.Mark cell)

-- the value of the cell is the same on both sides
abbrev pub ValueAgrees : PlainWorld → ℕ → Type 0
ValueAgrees w cell = w.memory.persisted (place.Value cell) ≡ w.memory.cached (place.Value cell)

-- the kind of the cell is the same on both sides
abbrev pub KindAgrees : PlainWorld → ℕ → Type 0
KindAgrees w cell = w.memory.persisted (place.Kind cell) ≡ w.memory.cached (place.Kind cell)

-- the process has given its cells back as far as `Freed` says, by the mark that it saw
abbrev pub FreedFits : PlainWorld → ℕ → ℕ → Freed → Type 0
FreedFits w p mark (before cell) = HoldsFrom w p cell
FreedFits w p mark (holding cell) = Holding w p mark cell
FreedFits w p mark (value_back cell) = Holding w p mark cell × ValueAgrees w cell
FreedFits w p mark (both_back cell) = Holding w p mark cell × ValueAgrees w cell × KindAgrees w cell
FreedFits w p mark (outrun cell) = Holding w p mark cell × ValueAgrees w cell × KindAgrees w cell × (w.memory.cached (place.Mark cell) ≡ marked mark)
FreedFits w p mark all_free = HoldsNone w p

-- what a recovery knows of its edit in doubt: nothing; the announcement; that it is pending, and of this cell; that
-- it is linearized; that it is not, or is superseded; its outcome; that this is announced on the cached side; on both
-- sides, or that there never was an announcement
pub data Resolved : Type 0 where
  unknown : Resolved
  noted : Resolved
  doubted : Resolved
  is_head : Resolved
  not_head : Resolved
  settled : Bool → Resolved
  said : Bool → Resolved
  over : Option Bool → Resolved

-- what a recovery at this stage knows of its edit in doubt
abbrev pub resolved_at : RecoverStage → Resolved
resolved_at LoadHeader = noted
resolved_at LoadHead = doubted
resolved_at FlushHead = is_head
resolved_at BackHead = is_head
resolved_at LoadDone = not_head
resolved_at (OrMark how) = settled how
resolved_at (FlushMark how) = settled how
resolved_at (BackMark how) = settled how
resolved_at (StoreOutcome how) = settled how
resolved_at (FlushOutcome how) = said how
resolved_at (BackOutcome how) = said how
resolved_at (Answer how) = over how
resolved_at _ = unknown

-- the phase that announces an outcome: true for done, false for not done
abbrev pub phase_for : Bool → Phase
phase_for true = phase.Done
phase_for false = phase.NotDone

-- the word announces this outcome, of a number that has a record
pub record Tells (word : ℕ) (how : Bool) : Type 0 where
  pub number : ℕ
  pub few : number < RECORDS
  pub is : word ≡ announcement number (phase_for how)

-- the edit's outcome is settled: it is linearized and no crash takes it, or it is not linearized
abbrev pub SettledAs : PlainWorld → PlainEdit → Bool → Type 0
SettledAs w e true = IsSafelyIn w e
SettledAs w e false = AreBelow w e.process e.number

-- the edit is linearized, and is not its cell's last
pub record IsPassed (w : PlainWorld) (e : PlainEdit) : Type 0 where
  pub before : List PlainEdit
  pub next : PlainEdit
  pub after : List PlainEdit
  pub parts : of_cell e.cell w.counted ≡ before ++ e ∷ next ∷ after

-- the header of the record whose number the word announces says this cell of the sheet, as processes see it
abbrev pub IsHeadersCell : PlainWorld → ℕ → ℕ → ℕ → Type 0
IsHeadersCell w p word cell = SaysCell w.layout cell (w.memory.cached (place.Header p (number_after word - 1)))

-- the edit in doubt, which is announced as pending by the word
pub record IsOpen (w : PlainWorld) (p word : ℕ) (issue : PlainIssue) : Type 0 where
  pub issued : w.open_edits p ≡ Some issue
  pub process : issue.edit.process ≡ p
  pub number : issue.edit.number < RECORDS
  pub is : word ≡ announcement issue.edit.number phase.Pending
  pub cached : w.memory.cached (place.Announce p) ≡ word

-- the edit in doubt, which is announced as pending by the word, is of this cell, and `P` holds of it
pub record IsOpenAnd (w : PlainWorld) (p word own : ℕ) (P : PlainEdit → Type 0) : Type 0 where
  pub issue : PlainIssue
  pub it : IsOpen w p word issue
  pub own_is : issue.edit.cell ≡ own
  pub and : P issue.edit

-- what a recovery knows of its edit in doubt holds, as `Resolved` says, with the word and the cell that it noted
abbrev pub ResolvedFits : PlainWorld → ℕ → ℕ → ℕ → Resolved → Type 0
ResolvedFits w p word cell unknown = Unit {0}
ResolvedFits w p word cell noted = w.memory.cached (place.Announce p) ≡ word
ResolvedFits w p word cell doubted = IsOpenAnd w p word cell (λ f. Unit {0})
ResolvedFits w p word cell is_head = IsOpenAnd w p word cell (λ f. (own : ℕ) × IsIn w f own)
ResolvedFits w p word cell not_head = IsOpenAnd w p word cell (λ f. AreBelow w f.process f.number ⊎ (IsPassed w f × AreBelow w f.process (f.number + 1)))
ResolvedFits w p word cell (settled how) = IsOpenAnd w p word cell (λ f. SettledAs w f how)
ResolvedFits w p word cell (said how) = (w.memory.cached (place.Announce p) ≡ word) × Tells word how × IsHeadersCell w p word cell
ResolvedFits w p word cell (over (Some how)) = (w.memory.cached (place.Announce p) ≡ word) × (w.memory.persisted (place.Announce p) ≡ word) × Tells word how × IsHeadersCell w p word cell
ResolvedFits w p word cell (over None) = (w.memory.cached (place.Announce p) ≡ word) × (w.memory.persisted (place.Announce p) ≡ word) × (word ≡ 0)

-- what a recovery's buffer holds: nothing; value, kind or both of the cell that it frees; a mark; a head; its
-- announcement; the version's word
pub data RecoveryHeld : Type 0 where
  empty : RecoveryHeld
  the_value : ℕ → RecoveryHeld
  both_words : ℕ → RecoveryHeld
  the_kind : ℕ → RecoveryHeld
  a_mark : ℕ → RecoveryHeld
  a_head : RecoveryHeld
  the_outcome : RecoveryHeld
  the_version : RecoveryHeld

-- what a recovery's buffer holds while it marks cells: at a write-back, the mark of the cell that is marked
abbrev pub spread_held : Spread → RecoveryHeld
spread_held (BackTold d) = a_mark d
spread_held _ = empty

-- what a recovery's buffer holds at a stage, where its edit in doubt is of cell c
abbrev pub recovery_held : ℕ → RecoverStage → RecoveryHeld
recovery_held c BackVersion = the_version
recovery_held c (FlushKind cell) = the_value cell
recovery_held c (BackValue cell) = both_words cell
recovery_held c (BackKind cell) = the_kind cell
recovery_held c (Telling cell spread) = spread_held spread
recovery_held c (BackGiven cell) = a_mark cell
recovery_held c BackHead = a_head
recovery_held c (BackMark how) = a_mark c
recovery_held c (BackOutcome how) = the_outcome
recovery_held c _ = empty

-- the buffer's entry of the cell's value, with what the cached side has now
abbrev pub value_now : PlainWorld → ℕ → BufferEntry Place
value_now w cell = entry (place.Value cell) (w.memory.cached (place.Value cell))

-- the buffer's entry of the cell's kind, with what the cached side has now
abbrev pub kind_now : PlainWorld → ℕ → BufferEntry Place
kind_now w cell = entry (place.Kind cell) (w.memory.cached (place.Kind cell))

-- the process's buffer holds one head of the cell alone: that of the edit in doubt, or a later one
pub record HasHead (w : PlainWorld) (p cell : ℕ) : Type 0 where
  pub value : ℕ
  pub alone : w.memory.buffer p ≡ entry (place.Head cell) value ∷ []
  pub by : PlainEdit
  pub gave : IsHeadBy (of_cell cell w.counted) value by
  pub issue : PlainIssue
  pub issued : w.open_edits p ≡ Some issue
  pub own : ℕ
  pub head : IsHeadBy (of_cell cell w.counted) own issue.edit
  pub enough : own ≤ value

-- the process's buffer holds the version's word alone
pub record HasVersion (w : PlainWorld) (p : ℕ) : Type 0 where
  pub value : ℕ
  pub alone : w.memory.buffer p ≡ entry place.Version value ∷ []

-- the buffer of the recovery's process holds just what `RecoveryHeld` says
abbrev pub RecoveryHolds : PlainWorld → ℕ → ℕ → ℕ → RecoveryHeld → Type 0
RecoveryHolds w p word c empty = w.memory.buffer p ≡ []
RecoveryHolds w p word c (the_value cell) = w.memory.buffer p ≡ value_now w cell ∷ []
RecoveryHolds w p word c (both_words cell) = w.memory.buffer p ≡ value_now w cell ∷ kind_now w cell ∷ []
RecoveryHolds w p word c (the_kind cell) = w.memory.buffer p ≡ kind_now w cell ∷ []
RecoveryHolds w p word c (a_mark cell) = HasMark w p cell
RecoveryHolds w p word c a_head = HasHead w p c
RecoveryHolds w p word c the_version = HasVersion w p
RecoveryHolds w p word c the_outcome = w.memory.buffer p ≡ entry (place.Announce p) word ∷ []
