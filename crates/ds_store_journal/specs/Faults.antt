-- Why a line is not written, and why lines are not counted.
use Rattle.std.specs.Prelude.{ℕ, ◌≡◌, ◌⊎◌, ◌<◌, ◌≤◌, ◌++◌, List, Option, Some, None, IsUtf8}
use Rattle.ds_formula.specs.declared.cells.Cell.{Cell}
use Rattle.ds_formula.specs.declared.cells.Shape.{Shape}
use Rattle.ds_formula.specs.Cells.{IsInside}
use Rattle.ds_layout.specs.declared.layout.Layout.{Layout}
use Rattle.ds_store_journal.specs.Journals.{KeptEdit}
use Rattle.ds_store_journal.specs.Standings.{EDITS_LIMIT, standing_of}
use Rattle.ds_store_journal.specs.declared.fault.JournalFault.{JournalFault}
use Rattle.ds_store_journal.specs.declared.fault.JournalFault.TheVariants.{NoMemory, Other}
use Rattle.ds_store_journal.specs.declared.standing.Mention.{Mention}

-- what is to have a line has none for this fault: an allocation failed, or it may have none
abbrev pub IsUnwritten : Type 0 → JournalFault → Type 0
IsUnwritten may fault = (fault ≡ NoMemory) ⊎ ((fault ≡ Other) × (may → ⊥))

-- an edit has a line in a journal of a sheet of this layout: its process and its cell are of the sheet, and its text is UTF-8
pub record HasLine (layout : Layout) (edit : KeptEdit) : Type 0 where
  pub process : edit.process < layout.processes
  pub cell : IsInside layout.shape edit.cell
  pub text : IsUtf8 edit.text

-- as many processes of the sheet may be joined: one at least, and all at most
pub record MayBeJoined (layout : Layout) (number : ℕ) : Type 0 where
  pub some : 1 ≤ number
  pub limited : number ≤ layout.processes

-- a process that has made as many edits has made the last one in a cell of the sheet, where it has made one
abbrev pub HasLast : Shape → ℕ → Option Cell → Type 0
HasLast shape edits None = edits ≡ 0
HasLast shape edits (Some cell) = (0 < edits) × IsInside shape cell

-- a process of the sheet may stand so
pub record MayStand (layout : Layout) (mention : Mention) : Type 0 where
  pub process : mention.process < layout.processes
  pub edits : mention.standing.edits < EDITS_LIMIT
  pub last : HasLast layout.shape mention.standing.edits mention.standing.last

-- after some of the lines, the first ones, a process of the sheet has made more edits than are counted
pub record AreUncounted (layout : Layout) (lines : List (List ℕ)) : Type 0 where
  pub before : List (List ℕ)
  pub after : List (List ℕ)
  pub are : lines ≡ before ++ after
  pub process : ℕ
  pub there : process < layout.processes
  pub many : EDITS_LIMIT ≤ (standing_of layout process before).edits

-- lines are not counted for this fault: an allocation failed, or there are more edits than are counted
abbrev pub IsUncounted : Layout → List (List ℕ) → JournalFault → Type 0
IsUncounted layout lines fault = (fault ≡ NoMemory) ⊎ ((fault ≡ Other) × AreUncounted layout lines)
