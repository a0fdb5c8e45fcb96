-- The steps of a recovery: what each stage does to the memory, and what comes then.
use Rattle.std.specs.Prelude.{ℕ, ◌≡◌, ◌≢◌, ◌<◌, ◌≤◌, ◌⊎◌, ◌+◌, ◌-◌, ◌*◌, ◌==◌, nat_lt, if◌then◌else◌, List, [], ◌∷◌, ◌++◌, Option, Some, None, Bool, true, false}
use Rattle.ds_state.specs.declared.turn.Turn.{Turn}
use Rattle.ds_words.specs.Memory.{SameMemory}
use Rattle.ds_words.specs.declared.access.Access.{Access}
use Rattle.ds_words.specs.declared.access.Access.TheVariants as acts
use Rattle.ds_layout.specs.declared.place.Place.{Place}
use Rattle.ds_layout.specs.declared.place.Place.TheVariants as place
use Rattle.ds_layout.specs.Places.{edition_of}
use Rattle.ds_layout.specs.declared.announcement.Phase.{Phase}
use Rattle.ds_layout.specs.declared.announcement.Phase.TheVariants as phase
use Rattle.ds_layout.specs.declared.announcement.Announcement.{Announcement}
use Rattle.ds_layout.specs.declared.head.Head.{Head}
use Rattle.ds_layout.specs.declared.header.Header.{Header}
use Rattle.ds_layout.specs.declared.mark.TheConstants.{DIRTY}
use Rattle.ds_layout.specs.Announcement.{announcement_of}
use Rattle.ds_layout.specs.Announcement.{number_after}
use Rattle.ds_layout.specs.Head.{head_of}
use Rattle.ds_layout.specs.Header.{header_of}
use Rattle.ds_layout.specs.SheetMemory.{PerformsAt}
use Rattle.ds_layout.specs.Bits.{parts_for, bit_in}
use Rattle.ds_layout.specs.Mark.{is_held_by, generation_of, marked, freed_after, dirtied}
use Rattle.ds_state.specs.Works.{PlainRecoverCall, HELD_MOST}
use Rattle.ds_state.specs.World.{PlainEdit, PlainIssue, PlainWorld, announcement, done_place, phase_among}
use Rattle.ds_state.specs.Owing.{StandsIn}
use Rattle.ds_state.specs.Known.{AreBelow, IsSafelyIn}
use Rattle.ds_state.specs.Headers.{SaysCell}
use Rattle.ds_state.specs.KnownRecovery.{phase_for}
use Rattle.ds_state.specs.Telling.{spread_access, told_from}
use Rattle.ds_state.specs.declared.turn.Turn.TheVariants.{GoesOn, Answers}
use Rattle.ds_state.specs.declared.recovery.RecoveryEnd.{RecoveryEnd}
use Rattle.ds_state.specs.declared.recovery.RecoveryEnd.TheVariants.{Nothing, Last}
use Rattle.ds_state.specs.declared.recovery.LastEdit.{LastEdit}
use Rattle.ds_state.specs.declared.situation.Rest.{Rest}
use Rattle.ds_state.specs.declared.situation.Situation.{Situation}
use Rattle.ds_layout.specs.declared.place.Edition.TheVariants.{First}
use Rattle.ds_state.specs.declared.situation.Situation.TheVariants.{Idle, Recovering}
use Rattle.ds_state.specs.declared.spread.Spread.{Spread}
use Rattle.ds_state.specs.declared.spread.Spread.TheVariants.{LoadRow, OrTold, FlushTold, BackTold}
use Rattle.ds_state.specs.declared.recovery.RecoverStage.{RecoverStage}
use Rattle.ds_state.specs.declared.recovery.RecoverStage.TheVariants.{LoadVersion, FlushVersion, BackVersion, LoadMark, FlushValue, FlushKind, BackValue, BackKind, Telling, Give, GiveDirty, FlushGiven, BackGiven, LoadAnnounce, LoadHeader, LoadHead, FlushHead, BackHead, LoadDone, OrMark, FlushMark, BackMark, StoreOutcome, FlushOutcome, BackOutcome, Answer}

-- how many parts an index row of the recovery's sheet has
abbrev pub parts_of : PlainRecoverCall → ℕ
parts_of e = parts_for e.cells

-- the number of the edit that the recovery saw announced
abbrev pub number_of : PlainRecoverCall → ℕ
number_of e = number_after e.announcement - 1

-- the access of a stage of a recovery
abbrev pub access_at : PlainRecoverCall → RecoverStage → Access Place
access_at e LoadVersion = acts.Load place.Version
access_at e FlushVersion = acts.Flush place.Version
access_at e BackVersion = acts.Back
access_at e (LoadMark cell) = acts.Load (place.Mark cell)
access_at e (FlushValue cell) = acts.Flush (place.Value cell)
access_at e (FlushKind cell) = acts.Flush (place.Kind cell)
access_at e (BackValue cell) = acts.Back
access_at e (BackKind cell) = acts.Back
access_at e (Telling cell spread) = spread_access cell spread
access_at e (Give cell) = acts.SwapIf (place.Mark cell) e.mark (dirtied (freed_after e.mark))
access_at e (GiveDirty cell) = acts.SwapIf (place.Mark cell) (marked e.mark) (dirtied (freed_after e.mark))
access_at e (FlushGiven cell) = acts.Flush (place.Mark cell)
access_at e (BackGiven cell) = acts.Back
access_at e LoadAnnounce = acts.Load (place.Announce e.process)
access_at e LoadHeader = acts.Load (place.Header e.process (number_of e))
access_at e LoadHead = acts.Load (place.Head e.cell)
access_at e FlushHead = acts.Flush (place.Head e.cell)
access_at e BackHead = acts.Back
access_at e LoadDone = acts.Load (done_place e.process (number_of e))
access_at e (OrMark how) = acts.Or (place.Mark e.cell) DIRTY
access_at e (FlushMark how) = acts.Flush (place.Mark e.cell)
access_at e (BackMark how) = acts.Back
access_at e (StoreOutcome how) = acts.Store (place.Announce e.process) (announcement (number_of e) (phase_for how))
access_at e (FlushOutcome how) = acts.Flush (place.Announce e.process)
access_at e (BackOutcome how) = acts.Back
access_at e (Answer how) = acts.Nothing

-- the recovery at another stage
abbrev pub at : PlainRecoverCall → RecoverStage → PlainRecoverCall
at e stage = record e { stage = stage }

-- the stage that loads this cell's mark; after the last cell, the announcement
abbrev pub looks_from : ℕ → ℕ → RecoverStage
looks_from cells cell = if nat_lt cell cells then LoadMark cell else LoadAnnounce

-- whether a mark says that the process holds the cell; no mark that is held has a greater generation
abbrev pub reads_held : ℕ → ℕ → Bool
reads_held process word = if is_held_by process word then nat_lt (generation_of word) (HELD_MOST + 1) else false

-- the recovery after it has loaded a cell's mark: it gives the cell back if the process holds it, else looks at the
-- next
abbrev pub holds_from : PlainRecoverCall → ℕ → ℕ → PlainRecoverCall
holds_from e cell word =
    if reads_held e.process word
    then record e { mark = word; row = []; stage = FlushValue cell }
    else at e (looks_from e.cells (cell + 1))

-- the stage that marks the cell that is found; where none is found, the one that gives this cell back
abbrev pub told : ℕ → Option ℕ → RecoverStage
told cell None = Give cell
told cell (Some d) = Telling cell (OrTold d)

-- the stage that marks the next cell whose bit stands in the row; after the last, the one that gives this cell back
abbrev pub tell_from : List ℕ → ℕ → ℕ → ℕ → RecoverStage
tell_from row cells cell d = told cell (told_from row (cells - d) d)

-- the stage that loads this part of the index row; after the last part, the one that marks the first cell
abbrev pub row_from : List ℕ → ℕ → ℕ → ℕ → RecoverStage
row_from row cells cell part = if nat_lt part (parts_for cells) then Telling cell (LoadRow part) else tell_from row cells cell 0

-- the recovery after a stage of telling whose access answered the word
abbrev pub spread_next : PlainRecoverCall → ℕ → Spread → ℕ → PlainRecoverCall
spread_next e cell (LoadRow part) word = record e { row = e.row ++ word ∷ []; stage = row_from (e.row ++ word ∷ []) e.cells cell (part + 1) }
spread_next e cell (OrTold d) word = at e (Telling cell (FlushTold d))
spread_next e cell (FlushTold d) word = at e (Telling cell (BackTold d))
spread_next e cell (BackTold d) word = at e (tell_from e.row e.cells cell (d + 1))

-- the recovery after it has loaded its announcement: it goes to that edit's header; without one, to its answer
abbrev pub announced_from : PlainRecoverCall → ℕ → Option Announcement → PlainRecoverCall
announced_from e word None = record e { announcement = word; stage = Answer None }
announced_from e word (Some a) = record e { announcement = word; stage = LoadHeader }

-- the stage after the header, by the announced phase: pending, it looks at the head; else it persists the outcome
abbrev pub phase_from : Phase → RecoverStage
phase_from phase.Pending = LoadHead
phase_from phase.Done = FlushOutcome true
phase_from phase.NotDone = FlushOutcome false

-- the stage after the header, by the announcement; without one, the answer
abbrev pub resolves_from : Option Announcement → RecoverStage
resolves_from None = Answer None
resolves_from (Some a) = phase_from a.phase

-- the cell that a header names; 0 without a header
abbrev pub cell_from : Option Header → ℕ
cell_from None = 0
cell_from (Some h) = h.cell

-- whether the head is that of the edit of this process and number
abbrev pub is_shown : ℕ → ℕ → Option Head → Bool
is_shown p n None = false
is_shown p n (Some h) = if h.process == p then h.number == n else false

-- the recovery after a stage whose access answered the word
abbrev pub next_at : PlainRecoverCall → RecoverStage → ℕ → PlainRecoverCall
next_at e LoadVersion word = record e { edition = edition_of word; stage = FlushVersion }
next_at e FlushVersion word = at e BackVersion
next_at e BackVersion word = at e (LoadMark 0)
next_at e (LoadMark cell) word = holds_from e cell word
next_at e (FlushValue cell) word = at e (FlushKind cell)
next_at e (FlushKind cell) word = at e (BackValue cell)
next_at e (BackValue cell) word = at e (BackKind cell)
next_at e (BackKind cell) word = at e (Telling cell (LoadRow 0))
next_at e (Telling cell spread) word = spread_next e cell spread word
next_at e (Give cell) word = if word == e.mark then at e (FlushGiven cell) else at e (GiveDirty cell)
next_at e (GiveDirty cell) word = at e (FlushGiven cell)
next_at e (FlushGiven cell) word = at e (BackGiven cell)
next_at e (BackGiven cell) word = at e (looks_from e.cells (cell + 1))
next_at e LoadAnnounce word = announced_from e word (announcement_of word)
next_at e LoadHeader word = record e { cell = cell_from (header_of e.cells word); stage = resolves_from (announcement_of e.announcement) }
next_at e LoadHead word = if is_shown e.process (number_of e) (head_of e.processes word) then at e FlushHead else at e LoadDone
next_at e FlushHead word = at e BackHead
next_at e BackHead word = at e (OrMark true)
next_at e LoadDone word = if bit_in word (number_of e) == 1 then at e (OrMark true) else at e (OrMark false)
next_at e (OrMark how) word = at e (FlushMark how)
next_at e (FlushMark how) word = at e (BackMark how)
next_at e (BackMark how) word = at e (StoreOutcome how)
next_at e (StoreOutcome how) word = record e { announcement = announcement (number_of e) (phase_for how); stage = FlushOutcome how }
next_at e (FlushOutcome how) word = at e (BackOutcome how)
next_at e (BackOutcome how) word = at e (Answer (Some how))
next_at e (Answer how) word = e

-- the recovery after its own stage, whose access answered the word
abbrev pub got_at : PlainRecoverCall → ℕ → PlainRecoverCall
got_at e word = next_at e e.stage word

-- the number of the process's next edit after a recovery: the one after the announced one, or 0 without one
abbrev pub next_number : ℕ → Option Bool → ℕ
next_number word None = 0
next_number word (Some how) = number_after word

-- what the process knows after its recovery: the number of its next edit, and the layout that it noted
abbrev pub rest_after : PlainRecoverCall → Option Bool → Rest
rest_after e how = record { number = next_number e.announcement how; edition = e.edition }

-- the situation of the process after a stage of its recovery: the answer ends the call
abbrev pub after : PlainRecoverCall → RecoverStage → ℕ → Situation
after e (Answer how) word = Idle (rest_after e how)
after e stage word = Recovering (next_at e stage word)

-- the process's issue after a stage of its recovery: the answer resolves the edit in doubt
abbrev pub open_edit_at : Option PlainIssue → RecoverStage → Option PlainIssue
open_edit_at issue (Answer how) = None
open_edit_at issue stage = issue

-- one step of the recovery at a stage, whose access answered the word: no edit is linearized
pub record StepsAt (e : PlainRecoverCall) (stage : RecoverStage) (word : ℕ) (old new : PlainWorld) : Type 0 where
  pub layout : new.layout ≡ old.layout
  pub memory : PerformsAt (access_at e stage) e.process old.memory new.memory word
  pub situation : new.situation e.process ≡ after e stage word
  pub others : (q : ℕ) → q ≢ e.process → new.situation q ≡ old.situation q
  pub counted : new.counted ≡ old.counted
  pub open_edits : new.open_edits e.process ≡ open_edit_at (old.open_edits e.process) stage
  pub others_open_edits : (q : ℕ) → q ≢ e.process → new.open_edits q ≡ old.open_edits q

-- one step of the recovery at its own stage, whose access answered the word
abbrev pub Steps : PlainRecoverCall → ℕ → PlainWorld → PlainWorld → Type 0
Steps e word old new = StepsAt e e.stage word old new

-- a recovery of the sheet, before its first step
abbrev pub fresh : ℕ → ℕ → ℕ → PlainRecoverCall
fresh process cells processes = record {
  process = process;
  edition = First;
  cells = cells;
  processes = processes;
  mark = 0;
  row = [];
  announcement = 0;
  cell = 0;
  stage = LoadVersion;
}

-- a recovery begins, of a process that is stopped or idle
pub record BeginsRecovery (e : PlainRecoverCall) (old new : PlainWorld) : Type 0 where
  pub layout : new.layout ≡ old.layout
  pub memory : SameMemory old.memory new.memory
  pub situation : new.situation e.process ≡ Recovering (at e LoadVersion)
  pub others : (q : ℕ) → q ≢ e.process → new.situation q ≡ old.situation q
  pub counted : new.counted ≡ old.counted
  pub open_edits : (q : ℕ) → new.open_edits q ≡ old.open_edits q

-- what the recovery answers, where it found an announcement and settled how that edit ended
abbrev pub end_of : PlainRecoverCall → Option Bool → RecoveryEnd
end_of e None = Nothing
end_of e (Some how) = Last (record { number = number_of e; cell = e.cell; counts = how })

-- what a step at a stage does to the recovery: it goes on, or it answers
abbrev pub effect_at : PlainRecoverCall → RecoverStage → Turn RecoveryEnd
effect_at e (Answer how) = Answers (end_of e how)
effect_at e _ = GoesOn

-- how many steps are left at most from a stage of telling on, up to the next cell
abbrev pub spread_rank : ℕ → Spread → ℕ
spread_rank cells (LoadRow part) = 6 + 3 * cells + (parts_for cells - part)
spread_rank cells (OrTold d) = 6 + 3 * (cells - d)
spread_rank cells (FlushTold d) = 5 + 3 * (cells - d)
spread_rank cells (BackTold d) = 4 + 3 * (cells - d)

-- how many steps are left at most before this cell is looked at, the answer's among them
abbrev pub cells_rank : ℕ → ℕ → ℕ
cells_rank cells cell = (cells - cell) * (3 * cells + 30) + 20

-- how many steps of a recovery are left at most from a stage on, the answer's among them
abbrev pub rank : ℕ → RecoverStage → ℕ
rank cells LoadVersion = cells_rank cells 0 + 3
rank cells FlushVersion = cells_rank cells 0 + 2
rank cells BackVersion = cells_rank cells 0 + 1
rank cells (LoadMark cell) = cells_rank cells cell
rank cells (FlushValue cell) = cells_rank cells (cell + 1) + 3 * cells + 29
rank cells (FlushKind cell) = cells_rank cells (cell + 1) + 3 * cells + 28
rank cells (BackValue cell) = cells_rank cells (cell + 1) + 3 * cells + 27
rank cells (BackKind cell) = cells_rank cells (cell + 1) + 3 * cells + 26
rank cells (Telling cell spread) = cells_rank cells (cell + 1) + spread_rank cells spread
rank cells (Give cell) = cells_rank cells (cell + 1) + 4
rank cells (GiveDirty cell) = cells_rank cells (cell + 1) + 3
rank cells (FlushGiven cell) = cells_rank cells (cell + 1) + 2
rank cells (BackGiven cell) = cells_rank cells (cell + 1) + 1
rank cells LoadAnnounce = 15
rank cells LoadHeader = 14
rank cells LoadHead = 13
rank cells FlushHead = 12
rank cells BackHead = 11
rank cells LoadDone = 11
rank cells (OrMark how) = 8
rank cells (FlushMark how) = 7
rank cells (BackMark how) = 6
rank cells (StoreOutcome how) = 5
rank cells (FlushOutcome how) = 4
rank cells (BackOutcome how) = 3
rank cells (Answer how) = 1

-- fewer steps of the recovery are left after a step, but for the answer's, which is the last
abbrev pub Falls : PlainRecoverCall → RecoverStage → PlainRecoverCall → Type 0
Falls e (Answer how) after = Unit {0}
Falls e stage after = rank e.cells after.stage < rank e.cells stage

-- what it says of an edit in doubt that a recovery reports this edit as linearized, or as not linearized: with its
-- number it has its cell; where that is linearized, it is so for good; else it is not linearized
abbrev pub ResolvesBy : PlainWorld → PlainEdit → LastEdit → Bool → Type 0
ResolvesBy w f told true = ((told.number ≡ f.number) × (f.cell ≡ told.cell) × IsSafelyIn w f) ⊎ ((told.number < f.number) × AreBelow w f.process f.number)
ResolvesBy w f told false = (told.number ≤ f.number) × AreBelow w f.process f.number × (told.number ≡ f.number → f.cell ≡ told.cell)

-- what a recovery's answer says of an edit in doubt
abbrev pub ResolvesAs : PlainWorld → PlainEdit → RecoveryEnd → Type 0
ResolvesAs w f Nothing = AreBelow w f.process f.number
ResolvesAs w f (Last told) = ResolvesBy w f told told.counts

-- the answer repeats how the process's last edit with a spent number ended: with that number, and whether one is
-- linearized
abbrev pub RepeatsAs : PlainWorld → ℕ → RecoveryEnd → Type 0
RepeatsAs w p Nothing = AreBelow w p 0
RepeatsAs w p (Last told) = AreBelow w p (told.number + 1) × (phase_among w.counted p told.number ≡ phase_for told.counts)

-- the cell that a recovery's answer reports is that which both sides of the header of that record say, one of the sheet
abbrev pub NamesCell : PlainWorld → ℕ → RecoveryEnd → Type 0
NamesCell w p Nothing = Unit {0}
NamesCell w p (Last told) = SaysCell w.layout told.cell (w.memory.cached (place.Header p told.number)) × SaysCell w.layout told.cell (w.memory.persisted (place.Header p told.number))

-- the cell that the recovery marks next is one whose bit it found in the index row
abbrev pub TellsFound : PlainRecoverCall → Type 0
TellsFound e = (cell d : ℕ) → e.stage ≡ Telling cell (OrTold d) → StandsIn e.row d
