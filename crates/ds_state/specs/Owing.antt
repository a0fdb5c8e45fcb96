-- Who owes whom a mark, whose sides may differ, and why.
use Rattle.std.specs.Prelude.{ℕ, ◌≡◌, ◌≢◌, ◌<◌, ◌≤◌, ◌⊎◌, List, [], ◌∷◌, Some}
use Rattle.ds_words.specs.Memory.{Memory}
use Rattle.ds_words.specs.declared.access.BufferEntry.{BufferEntry}
use Rattle.ds_layout.specs.declared.place.Place.{Place}
use Rattle.ds_layout.specs.declared.place.Place.TheVariants as place
use Rattle.ds_layout.specs.declared.layout.Layout.{Layout}
use Rattle.ds_layout.specs.declared.announcement.Phase.TheVariants as phase
use Rattle.ds_layout.specs.Places.{class_of, cells_of}
use Rattle.ds_layout.specs.Bits.{HasBit, HaveBit, part_with}
use Rattle.ds_layout.specs.Mark.{tenure, IsHeldBy, generation_of}
use Rattle.ds_state.specs.Works.{HELD_MOST}
use Rattle.ds_state.specs.World.{PlainIssue, PlainWorld, announcement, index_place}
use Rattle.ds_state.specs.declared.stage.Stage.{Stage}
use Rattle.ds_state.specs.declared.stage.Stage.TheVariants as edits
use Rattle.ds_state.specs.declared.spread.Spread.{Spread}
use Rattle.ds_state.specs.declared.spread.Spread.TheVariants.{LoadRow, OrTold, FlushTold, BackTold}
use Rattle.ds_state.specs.declared.work.WorkStage.{WorkStage}
use Rattle.ds_state.specs.declared.work.WorkStage.TheVariants as works
use Rattle.ds_state.specs.declared.recovery.RecoverStage.{RecoverStage}
use Rattle.ds_state.specs.declared.recovery.RecoverStage.TheVariants as recoveries
use Rattle.ds_state.specs.declared.situation.Situation.{Situation}
use Rattle.ds_state.specs.declared.situation.Situation.TheVariants.{Idle, Stopped, Editing, Working, Recovering, Showing, Migrating}

-- a buffer's entry of the word at a place, with its class
abbrev pub entry : Place → ℕ → BufferEntry Place
entry r value = record { place = r; class = class_of r; value = value }

-- both sides of the mark of r are of one tenure of q
pub record IsHeld (m : Memory Place) (q r : ℕ) : Type 0 where
  pub by : IsHeldBy q (m.cached (place.Mark r))
  pub same : tenure (m.persisted (place.Mark r)) ≡ tenure (m.cached (place.Mark r))

-- the cell's bit stands in the parts of a row that were loaded
abbrev pub StandsIn : List ℕ → ℕ → Type 0
StandsIn row c = HaveBit row c

-- the process's buffer holds one entry alone, a mark of the cell that is greater than x
pub record IsBelowBuffered (m : Memory Place) (p c x : ℕ) : Type 0 where
  pub value : ℕ
  pub alone : m.buffer p ≡ entry (place.Mark c) value ∷ []
  pub below : x < value

-- a process that marks cells, at this place of the row, still owes c a mark above x
abbrev pub SpreadOwes : Memory Place → ℕ → List ℕ → Spread → ℕ → ℕ → Type 0
SpreadOwes m p row (LoadRow part) c x = (part ≤ part_with c) ⊎ StandsIn row c
SpreadOwes m p row (OrTold d) c x = StandsIn row c × (d ≤ c)
SpreadOwes m p row (FlushTold d) c x = StandsIn row c × ((d < c) ⊎ ((d ≡ c) × (x < m.cached (place.Mark c))))
SpreadOwes m p row (BackTold d) c x = StandsIn row c × ((d < c) ⊎ ((d ≡ c) × IsBelowBuffered m p c x))

-- a work at this stage owes c a mark above x: from its first store until it has marked c
abbrev pub WorkOwes : Memory Place → ℕ → List ℕ → WorkStage → ℕ → ℕ → Type 0
WorkOwes m p row works.StoreKind c x = Unit {0}
WorkOwes m p row works.FlushValue c x = Unit {0}
WorkOwes m p row works.FlushKind c x = Unit {0}
WorkOwes m p row works.BackValue c x = Unit {0}
WorkOwes m p row works.BackKind c x = Unit {0}
WorkOwes m p row (works.Telling spread) c x = SpreadOwes m p row spread c x
WorkOwes m p row _ c x = ⊥

-- a recovery at this stage owes c a mark above x, by the cell r that it holds
abbrev pub RecoveryOwes : Memory Place → ℕ → List ℕ → RecoverStage → ℕ → ℕ → ℕ → Type 0
RecoveryOwes m p row recoveries.LoadVersion r c x = Unit {0}
RecoveryOwes m p row recoveries.FlushVersion r c x = Unit {0}
RecoveryOwes m p row recoveries.BackVersion r c x = Unit {0}
RecoveryOwes m p row (recoveries.LoadMark cell) r c x = Unit {0}
RecoveryOwes m p row (recoveries.FlushValue cell) r c x = Unit {0}
RecoveryOwes m p row (recoveries.FlushKind cell) r c x = Unit {0}
RecoveryOwes m p row (recoveries.BackValue cell) r c x = Unit {0}
RecoveryOwes m p row (recoveries.BackKind cell) r c x = Unit {0}
RecoveryOwes m p row (recoveries.Telling cell spread) r c x = (cell ≢ r) ⊎ SpreadOwes m p row spread c x
RecoveryOwes m p row (recoveries.Give cell) r c x = cell ≢ r
RecoveryOwes m p row (recoveries.GiveDirty cell) r c x = cell ≢ r
RecoveryOwes m p row (recoveries.FlushGiven cell) r c x = cell ≢ r
RecoveryOwes m p row (recoveries.BackGiven cell) r c x = cell ≢ r
RecoveryOwes m p row _ r c x = ⊥

-- a holder of r in this situation owes c a mark above x
abbrev pub Owes : Memory Place → ℕ → Situation → ℕ → ℕ → ℕ → Type 0
Owes m p (Idle next) r c x = ⊥
Owes m p Stopped r c x = Unit {0}
Owes m p (Editing e) r c x = ⊥
Owes m p (Working e) r c x = (e.cell ≡ r) × WorkOwes m p e.row e.stage c x
Owes m p (Recovering e) r c x = RecoveryOwes m p e.row e.stage r c x
Owes m p (Showing e) r c x = ⊥
Owes m p (Migrating e) r c x = Unit {0}

-- a work at this stage may have the two sides of its cell's value, or kind, differ
abbrev pub WorkParts : WorkStage → Type 0
WorkParts works.StoreKind = Unit {0}
WorkParts works.FlushValue = Unit {0}
WorkParts works.FlushKind = Unit {0}
WorkParts works.BackValue = Unit {0}
WorkParts works.BackKind = Unit {0}
WorkParts _ = ⊥

-- a recovery at this stage may have the two sides of the value, or the kind, of the cell r that it holds differ
abbrev pub RecoveryParts : RecoverStage → ℕ → Type 0
RecoveryParts recoveries.LoadVersion r = Unit {0}
RecoveryParts recoveries.FlushVersion r = Unit {0}
RecoveryParts recoveries.BackVersion r = Unit {0}
RecoveryParts (recoveries.LoadMark cell) r = Unit {0}
RecoveryParts (recoveries.FlushValue cell) r = Unit {0}
RecoveryParts (recoveries.FlushKind cell) r = Unit {0}
RecoveryParts (recoveries.BackValue cell) r = Unit {0}
RecoveryParts (recoveries.BackKind cell) r = Unit {0}
RecoveryParts (recoveries.Telling cell spread) r = cell ≢ r
RecoveryParts (recoveries.Give cell) r = cell ≢ r
RecoveryParts (recoveries.GiveDirty cell) r = cell ≢ r
RecoveryParts (recoveries.FlushGiven cell) r = cell ≢ r
RecoveryParts (recoveries.BackGiven cell) r = cell ≢ r
RecoveryParts _ r = ⊥

-- a holder of r in this situation may have the two sides of its value, or its kind, differ
abbrev pub Parts : Situation → ℕ → Type 0
Parts (Idle next) r = ⊥
Parts Stopped r = Unit {0}
Parts (Editing e) r = ⊥
Parts (Working e) r = (e.cell ≡ r) × WorkParts e.stage
Parts (Recovering e) r = RecoveryParts e.stage r
Parts (Showing e) r = ⊥
Parts (Migrating e) r = Unit {0}

-- some process holds r on both sides and owes c a mark above x
pub record CellOwes (w : PlainWorld) (r c x : ℕ) : Type 0 where
  pub holder : ℕ
  pub held : IsHeld w.memory holder r
  pub still : Owes w.memory holder (w.situation holder) r c x

-- some process holds r on both sides, and may have the two sides of its value, or its kind, differ
pub record IsApart (w : PlainWorld) (r : ℕ) : Type 0 where
  pub holder : ℕ
  pub held : IsHeld w.memory holder r
  pub still : Parts (w.situation holder) r

-- both sides announce that the process's edit, of this cell, is pending
pub record IsPending (w : PlainWorld) (p c : ℕ) : Type 0 where
  pub issue : PlainIssue
  pub issued : w.open_edits p ≡ Some issue
  pub cell : issue.edit.cell ≡ c
  pub cached : w.memory.cached (place.Announce p) ≡ announcement issue.edit.number phase.Pending
  pub persisted : w.memory.persisted (place.Announce p) ≡ announcement issue.edit.number phase.Pending

-- an edit of the cell at this stage owes it a mark above x: from its swap on
abbrev pub EditOwes : Memory Place → ℕ → ℕ → Stage → ℕ → Type 0
EditOwes m p c (edits.FlushOwn own) x = Unit {0}
EditOwes m p c (edits.BackOwn own) x = Unit {0}
EditOwes m p c (edits.OrMark own) x = Unit {0}
EditOwes m p c (edits.FlushMark own) x = x < m.cached (place.Mark c)
EditOwes m p c (edits.BackMark own) x = IsBelowBuffered m p c x
EditOwes m p c _ x = ⊥

-- a recovery at this stage still owes the cell of its edit in doubt a mark above x
abbrev pub RecoveryExcuses : Memory Place → ℕ → ℕ → RecoverStage → ℕ → Type 0
RecoveryExcuses m p c (recoveries.FlushMark how) x = x < m.cached (place.Mark c)
RecoveryExcuses m p c (recoveries.BackMark how) x = IsBelowBuffered m p c x
RecoveryExcuses m p c (recoveries.StoreOutcome how) x = ⊥
RecoveryExcuses m p c (recoveries.FlushOutcome how) x = ⊥
RecoveryExcuses m p c (recoveries.BackOutcome how) x = ⊥
RecoveryExcuses m p c (recoveries.Answer how) x = ⊥
RecoveryExcuses m p c recoveries.LoadVersion x = Unit {0}
RecoveryExcuses m p c recoveries.FlushVersion x = Unit {0}
RecoveryExcuses m p c recoveries.BackVersion x = Unit {0}
RecoveryExcuses m p c (recoveries.LoadMark cell) x = Unit {0}
RecoveryExcuses m p c (recoveries.FlushValue cell) x = Unit {0}
RecoveryExcuses m p c (recoveries.FlushKind cell) x = Unit {0}
RecoveryExcuses m p c (recoveries.BackValue cell) x = Unit {0}
RecoveryExcuses m p c (recoveries.BackKind cell) x = Unit {0}
RecoveryExcuses m p c (recoveries.Telling cell spread) x = Unit {0}
RecoveryExcuses m p c (recoveries.Give cell) x = Unit {0}
RecoveryExcuses m p c (recoveries.GiveDirty cell) x = Unit {0}
RecoveryExcuses m p c (recoveries.FlushGiven cell) x = Unit {0}
RecoveryExcuses m p c (recoveries.BackGiven cell) x = Unit {0}
RecoveryExcuses m p c recoveries.LoadAnnounce x = Unit {0}
RecoveryExcuses m p c recoveries.LoadHeader x = Unit {0}
RecoveryExcuses m p c recoveries.LoadHead x = Unit {0}
RecoveryExcuses m p c recoveries.FlushHead x = Unit {0}
RecoveryExcuses m p c recoveries.BackHead x = Unit {0}
RecoveryExcuses m p c recoveries.LoadDone x = Unit {0}
RecoveryExcuses m p c (recoveries.OrMark how) x = Unit {0}

-- the process owes the cell of its edit a mark above x
abbrev pub Excuses : PlainWorld → ℕ → Situation → ℕ → ℕ → Type 0
Excuses w p (Idle next) c x = ⊥
Excuses w p Stopped c x = IsPending w p c
Excuses w p (Editing e) c x = (e.cell ≡ c) × EditOwes w.memory p c e.stage x
Excuses w p (Working e) c x = ⊥
Excuses w p (Recovering e) c x = IsPending w p c × RecoveryExcuses w.memory p c e.stage x
Excuses w p (Showing e) c x = ⊥
Excuses w p (Migrating e) c x = IsPending w p c

-- some process of the sheet owes the cell c its edit's mark, above x
pub record IsExcused (w : PlainWorld) (c x : ℕ) : Type 0 where
  pub process : ℕ
  pub inside : process < w.layout.processes
  pub still : Excuses w process (w.situation process) c x

-- an edit at this stage may have the two sides of its cell's head differ, this one being the cached one
abbrev pub SplitsAt : Stage → ℕ → Type 0
SplitsAt (edits.FlushOwn own) head = own ≡ head
SplitsAt (edits.BackOwn own) head = own ≡ head
SplitsAt _ head = ⊥

-- a recovery at this stage may have the two sides of the head of its edit in doubt differ
abbrev pub RecoverySplits : RecoverStage → Type 0
RecoverySplits recoveries.LoadDone = ⊥
RecoverySplits (recoveries.OrMark how) = ⊥
RecoverySplits (recoveries.FlushMark how) = ⊥
RecoverySplits (recoveries.BackMark how) = ⊥
RecoverySplits (recoveries.StoreOutcome how) = ⊥
RecoverySplits (recoveries.FlushOutcome how) = ⊥
RecoverySplits (recoveries.BackOutcome how) = ⊥
RecoverySplits (recoveries.Answer how) = ⊥
RecoverySplits recoveries.LoadVersion = Unit {0}
RecoverySplits recoveries.FlushVersion = Unit {0}
RecoverySplits recoveries.BackVersion = Unit {0}
RecoverySplits (recoveries.LoadMark cell) = Unit {0}
RecoverySplits (recoveries.FlushValue cell) = Unit {0}
RecoverySplits (recoveries.FlushKind cell) = Unit {0}
RecoverySplits (recoveries.BackValue cell) = Unit {0}
RecoverySplits (recoveries.BackKind cell) = Unit {0}
RecoverySplits (recoveries.Telling cell spread) = Unit {0}
RecoverySplits (recoveries.Give cell) = Unit {0}
RecoverySplits (recoveries.GiveDirty cell) = Unit {0}
RecoverySplits (recoveries.FlushGiven cell) = Unit {0}
RecoverySplits (recoveries.BackGiven cell) = Unit {0}
RecoverySplits recoveries.LoadAnnounce = Unit {0}
RecoverySplits recoveries.LoadHeader = Unit {0}
RecoverySplits recoveries.LoadHead = Unit {0}
RecoverySplits recoveries.FlushHead = Unit {0}
RecoverySplits recoveries.BackHead = Unit {0}

-- the process may have the two sides of the head of c differ, this one being the cached one
abbrev pub Splits : PlainWorld → ℕ → Situation → ℕ → ℕ → Type 0
Splits w p (Idle next) c head = ⊥
Splits w p Stopped c head = IsPending w p c
Splits w p (Editing e) c head = (e.cell ≡ c) × SplitsAt e.stage head
Splits w p (Working e) c head = ⊥
Splits w p (Recovering e) c head = IsPending w p c × RecoverySplits e.stage
Splits w p (Showing e) c head = ⊥
Splits w p (Migrating e) c head = IsPending w p c

-- r and c are cells of the sheet, and the index row of r has the bit of c on the cached side
abbrev pub IsIndexed : PlainWorld → ℕ → ℕ → Type 0
IsIndexed w r c = (r < cells_of w.layout) × (c < cells_of w.layout) × HasBit (w.memory.cached (index_place r c)) c

-- a holder of the mark is a process of the sheet, the cell is one of the sheet, and one more generation fits
abbrev pub IsMark : Layout → ℕ → ℕ → Type 0
IsMark layout cell mark = (q : ℕ) → IsHeldBy q mark → (q < layout.processes) × (cell < cells_of layout) × (generation_of mark ≤ HELD_MOST)

-- the process holds no cell
abbrev pub HoldsNone : PlainWorld → ℕ → Type 0
HoldsNone w p = (r : ℕ) → IsHeldBy p (w.memory.cached (place.Mark r)) → ⊥
