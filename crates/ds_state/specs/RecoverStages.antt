-- A recovery's numbers are those of its sheet, at each of its stages.
use Rattle.std.specs.Prelude.{ℕ, ◌≡◌, ◌<◌, ◌≤◌, List, length, Some, None}
use Rattle.ds_formula.specs.Limits.{CELLS_MOST, PROCESSES_MOST}
use Rattle.ds_layout.specs.declared.place.TheConstants.{RECORDS}
use Rattle.ds_layout.specs.declared.announcement.Announcement.{Announcement}
use Rattle.ds_layout.specs.Announcement.{announcement_of, number_after}
use Rattle.ds_layout.specs.Bits.{parts_for}
use Rattle.ds_layout.specs.Mark.{generation_of}
use Rattle.ds_state.specs.Works.{PlainRecoverCall, HELD_MOST}
use Rattle.ds_state.specs.declared.spread.Spread.{Spread}
use Rattle.ds_state.specs.declared.spread.Spread.TheVariants.{LoadRow, OrTold, FlushTold, BackTold}
use Rattle.ds_state.specs.declared.recovery.RecoverStage.{RecoverStage}
use Rattle.ds_state.specs.declared.recovery.RecoverStage.TheVariants.{LoadVersion, FlushVersion, BackVersion, LoadMark, FlushValue, FlushKind, BackValue, BackKind, Telling, Give, GiveDirty, FlushGiven, BackGiven, LoadAnnounce, LoadHeader, LoadHead, FlushHead, BackHead, LoadDone, OrMark, FlushMark, BackMark, StoreOutcome, FlushOutcome, BackOutcome, Answer}

-- a cell of the sheet that a recovery gives back, by a mark whose generation has a next one
abbrev pub IsFreeing : ℕ → ℕ → ℕ → Type 0
IsFreeing cells mark cell = (cell < cells) × (generation_of mark ≤ HELD_MOST)

-- the row is loaded part by part; then all of it is there, and cells of the sheet are marked
abbrev pub IsSpread : ℕ → List ℕ → Spread → Type 0
IsSpread cells row (LoadRow part) = (part < parts_for cells) × (length row ≡ part)
IsSpread cells row (OrTold d) = (d < cells) × (length row ≡ parts_for cells)
IsSpread cells row (FlushTold d) = (d < cells) × (length row ≡ parts_for cells)
IsSpread cells row (BackTold d) = (d < cells) × (length row ≡ parts_for cells)

-- the word is an announcement, of a number that has a record
pub record IsAnnounced (word : ℕ) : Type 0 where
  pub it : Announcement
  pub reads : announcement_of word ≡ Some it
  pub some : 0 < number_after word
  pub few : number_after word ≤ RECORDS

-- the recovery has noted an announcement of a record, and the cell that it noted is one of the sheet
abbrev pub IsResolving : PlainRecoverCall → Type 0
IsResolving e = IsAnnounced e.announcement × (e.cell < e.cells)

-- what a recovery has at a stage is of its sheet: its cell, its mark, its row and its announcement
abbrev pub IsStage : PlainRecoverCall → RecoverStage → Type 0
IsStage e LoadVersion = Unit {0}
IsStage e FlushVersion = Unit {0}
IsStage e BackVersion = Unit {0}
IsStage e (LoadMark cell) = cell < e.cells
IsStage e (FlushValue cell) = IsFreeing e.cells e.mark cell × (length e.row ≡ 0)
IsStage e (FlushKind cell) = IsFreeing e.cells e.mark cell × (length e.row ≡ 0)
IsStage e (BackValue cell) = IsFreeing e.cells e.mark cell × (length e.row ≡ 0)
IsStage e (BackKind cell) = IsFreeing e.cells e.mark cell × (length e.row ≡ 0)
IsStage e (Telling cell spread) = IsFreeing e.cells e.mark cell × IsSpread e.cells e.row spread
IsStage e (Give cell) = IsFreeing e.cells e.mark cell
IsStage e (GiveDirty cell) = IsFreeing e.cells e.mark cell
IsStage e (FlushGiven cell) = IsFreeing e.cells e.mark cell
IsStage e (BackGiven cell) = IsFreeing e.cells e.mark cell
IsStage e LoadAnnounce = Unit {0}
IsStage e LoadHeader = IsAnnounced e.announcement
IsStage e LoadHead = IsResolving e
IsStage e FlushHead = IsResolving e
IsStage e BackHead = IsResolving e
IsStage e LoadDone = IsResolving e
IsStage e (OrMark how) = IsResolving e
IsStage e (FlushMark how) = IsResolving e
IsStage e (BackMark how) = IsResolving e
IsStage e (StoreOutcome how) = IsResolving e
IsStage e (FlushOutcome how) = IsResolving e
IsStage e (BackOutcome how) = IsResolving e
IsStage e (Answer None) = Unit {0}
IsStage e (Answer (Some how)) = IsResolving e

-- a recovery's process is one of the sheet, and what it has at its stage is of the sheet
pub record IsRecovery (e : PlainRecoverCall) : Type 0 where
  pub process : e.process < e.processes
  pub processes : e.processes ≤ PROCESSES_MOST
  pub some : 0 < e.cells
  pub cells : e.cells ≤ CELLS_MOST
  pub stage : IsStage e e.stage
