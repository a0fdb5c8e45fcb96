-- Work, a recovery and a show under way, without where they lie in memory.
use Rattle.std.specs.Prelude.{ℕ, ◌+◌, ◌*◌, ◌/◌, ◌%◌, ◌^◌, ◌≡◌, ◌<◌, ◌≤◌, List, length, slice_index_or, true, false}
use Rattle.ds_layout.specs.Bits.{HasBit, part_with, parts_for}
use Rattle.ds_state.specs.EntryWords.{value_for, word_for}
use Rattle.ds_formula.specs.Refs.{IsPossible}
use Rattle.ds_eval.specs.Inputs.{cell_in}
use Rattle.ds_formula.specs.Limits.{CELLS_MOST, PROCESSES_MOST, TEXT_MOST}
use Rattle.ds_layout.specs.Mark.{generation_of}
use Rattle.ds_layout.specs.TextWords.{start_of}
use Rattle.ds_state.specs.declared.spread.Spread.TheVariants.{LoadRow, OrTold, FlushTold, BackTold}
use Rattle.ds_state.specs.declared.work.WorkStage.TheVariants.{Claim, LoadText, LoadValue, LoadKind, StoreValue, StoreKind, FlushValue, FlushKind, BackValue, BackKind, Telling, Clear}
use Rattle.ds_formula.specs.Plain.{PlainContent}
use Rattle.ds_eval.specs.declared.inputs.Entry.{Entry}
use Rattle.ds_eval.specs.declared.inputs.Input.{Input}
use Rattle.ds_state.specs.declared.work.WorkStage.{WorkStage}
use Rattle.ds_state.specs.declared.recovery.RecoverStage.{RecoverStage}
use Rattle.ds_state.specs.declared.show.ShowStage.{ShowStage}
use Rattle.ds_layout.specs.declared.place.Edition.{Edition}
use Rattle.ds_layout.specs.declared.place.Edition.TheVariants.{Second}
use Rattle.ds_layout.specs.declared.place.Place.{Place}
use Rattle.ds_layout.specs.declared.place.Place.TheVariants as place
use Rattle.ds_layout.specs.declared.place.TheConstants.{RECORDS, FIRST_PARTS}
use Rattle.ds_state.specs.declared.migration.MigrateStage.{MigrateStage}
use Rattle.ds_state.specs.declared.migration.MigrateStage.TheVariants.{LoadOld, StoreNew, FlushNew, BackNew}
use Rattle.ds_state.specs.Editions.{most_in}

-- a work under way: its process, the layout that it reads, the number of the process's next edit, the cell; the mark that it saw, then its
-- claim; the head, the length and the text that it noted, its content, the references with what they show; its own
-- words; what the inputs give; the index row of the cell
pub record PlainWorkCall : Type 0 where
  pub process : ℕ
  pub edition : Edition
  pub next : ℕ
  pub cell : ℕ
  pub cells : ℕ
  pub processes : ℕ
  pub mark : ℕ
  pub head : ℕ
  pub length : ℕ
  pub text : List ℕ
  pub content : PlainContent
  pub inputs : List Input
  pub value : ℕ
  pub kind : ℕ
  pub entry : Entry
  pub row : List ℕ
  pub stage : WorkStage

-- the part of a text that is looked at is one of the text, the reference one of the references, the part of the row
-- is one of the row, n are loaded, and the cell that is marked is one of the sheet
abbrev pub StageFits : PlainWorkCall → WorkStage → Type 0
StageFits e (LoadText part) = start_of part < e.length
StageFits e (LoadValue i) = i < length e.inputs
StageFits e (LoadKind i value) = i < length e.inputs
StageFits e (Telling (LoadRow part)) = (length e.row ≡ part) × (part < parts_for e.cells)
StageFits e (Telling (OrTold d)) = d < e.cells
StageFits e (Telling (FlushTold d)) = d < e.cells
StageFits e (Telling (BackTold d)) = d < e.cells
StageFits e _ = Unit {0}

-- the greatest generation of a mark that a work may claim
abbrev pub SEEN_MOST : ℕ
SEEN_MOST = 2 ^ 58

-- the greatest generation of a mark that is held
abbrev pub HELD_MOST : ℕ
HELD_MOST = SEEN_MOST + 1

-- the greatest generation of any mark
abbrev pub MARK_MOST : ℕ
MARK_MOST = HELD_MOST + 1

-- the mark that a work is to claim has a generation that can be followed
abbrev pub ClaimFits : PlainWorkCall → WorkStage → Type 0
ClaimFits e Claim = generation_of e.mark ≤ SEEN_MOST
ClaimFits e _ = Unit {0}

-- the value and the kind that the work loaded of its cell are those of its entry
abbrev pub IsSame : PlainWorkCall → Type 0
IsSame e = (e.value ≡ value_for e.entry) × (e.kind ≡ word_for e.entry)

-- the value or the kind that the work loaded of its cell is not that of its entry
abbrev pub Differs : PlainWorkCall → Type 0
Differs e = IsSame e → ⊥

-- a work stores where its cell's words are not those of its entry, and marks only cells whose bit the loaded row has;
-- where it lets its cell go, it knows which of both it was
abbrev pub TellsFits : PlainWorkCall → WorkStage → Type 0
TellsFits e StoreValue = Differs e
TellsFits e StoreKind = Differs e
TellsFits e FlushValue = Differs e
TellsFits e FlushKind = Differs e
TellsFits e BackValue = Differs e
TellsFits e BackKind = Differs e
TellsFits e (Telling (LoadRow part)) = Differs e
TellsFits e (Telling (OrTold d)) = Differs e × HasBit (slice_index_or e.row (part_with d) 0) d
TellsFits e (Telling (FlushTold d)) = Differs e
TellsFits e (Telling (BackTold d)) = Differs e
TellsFits e (Clear true) = Differs e
TellsFits e (Clear false) = IsSame e
TellsFits e _ = Unit {0}

-- a work's process, cell, text and inputs are those of a sheet, whatever its words say
pub record IsWork (e : PlainWorkCall) : Type 0 where
  pub process : e.process < e.processes
  pub processes : e.processes ≤ PROCESSES_MOST
  pub cell : e.cell < e.cells
  pub cells : e.cells ≤ CELLS_MOST
  pub young : generation_of e.mark ≤ SEEN_MOST + 1
  pub short : e.length ≤ TEXT_MOST
  pub fits : e.length ≤ most_in e.edition
  pub text : length e.text ≤ e.length
  pub possible : (j : ℕ) → j < length e.inputs → IsPossible (cell_in e.inputs j)
  pub height : e.entry.height ≤ CELLS_MOST
  pub claim : ClaimFits e e.stage
  pub stage : StageFits e e.stage
  pub told : TellsFits e e.stage

-- a work of a sheet, with room for one input for each cell of the sheet
pub record IsWorkIn (e : PlainWorkCall) (places : ℕ) : Type 0 where
  pub is : IsWork e
  pub room : e.cells ≤ places

-- a recovery under way: its process; the layout that it noted; the mark that it saw, the index row of the cell that it
-- gives back; the announcement that it saw, and the cell of that edit
pub record PlainRecoverCall : Type 0 where
  pub process : ℕ
  pub edition : Edition
  pub cells : ℕ
  pub processes : ℕ
  pub mark : ℕ
  pub row : List ℕ
  pub announcement : ℕ
  pub cell : ℕ
  pub stage : RecoverStage

-- a show under way: its process, the number of the process's next edit; what it noted so far
pub record PlainShowCall : Type 0 where
  pub process : ℕ
  pub edition : Edition
  pub next : ℕ
  pub cells : ℕ
  pub processes : ℕ
  pub announcements : List ℕ
  pub marks : List ℕ
  pub values : List ℕ
  pub kinds : List ℕ
  pub stage : ShowStage

-- a migration under way: its process, how many there are, and the word that it loaded
pub record PlainMigrateCall : Type 0 where
  pub process : ℕ
  pub processes : ℕ
  pub word : ℕ
  pub stage : MigrateStage

-- how many words the texts of the first layout have, of that number of processes
abbrev pub old_words : ℕ → ℕ
old_words processes = processes * RECORDS * FIRST_PARTS

-- the place that a migration copies a word of the first layout's texts to, by where it stands among all of them
abbrev pub new_text : ℕ → Place
new_text at = place.Text Second (at / FIRST_PARTS / RECORDS) (at / FIRST_PARTS % RECORDS) (at % FIRST_PARTS)

-- the word that is copied at a stage is one of the texts
abbrev pub IsCopied : ℕ → MigrateStage → Type 0
IsCopied words (LoadOld at) = at < words
IsCopied words (StoreNew at) = at < words
IsCopied words (FlushNew at) = at < words
IsCopied words (BackNew at) = at < words
IsCopied words _ = Unit {0}

-- a migration's process is one of the sheet, and what it copies is a word of the sheet's texts
pub record IsMigration (e : PlainMigrateCall) : Type 0 where
  pub process : e.process < e.processes
  pub processes : e.processes ≤ PROCESSES_MOST
  pub stage : IsCopied (old_words e.processes) e.stage
