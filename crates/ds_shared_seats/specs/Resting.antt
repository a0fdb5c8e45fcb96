-- Closed sheets that may be opened again.
use Rattle.std.specs.Prelude.{ℕ, ◌≡◌, ◌<◌, ◌≤◌, ◌==◌, Bool, true, false, if◌then◌else◌, List, length, slice_index_or}
use Rattle.std.specs.Mem.Slots.{slots_items}
use Rattle.ds_formula.specs.declared.cells.Cell.{Cell}
use Rattle.ds_formula.specs.Cells.{IsInside, index_of}
use Rattle.ds_layout.specs.Places.{words_of}
use Rattle.ds_state.specs.Shown.{last_text}
use Rattle.ds_state.specs.Sound.{IsSound}
use Rattle.ds_state.specs.World.{of_cell}
use Rattle.pm_base.specs.Structures.{In}
use Rattle.pm_board.specs.Rule.{Witness, HasSideLeft, world_on}
use Rattle.pm_board.specs.Views.{past_of}
use Rattle.ds_structure.specs.Sheet.{apart_of, plain, sheet}
use Rattle.ds_structure_shared.specs.Boards.{SheetSeated}
use Rattle.ds_shared.specs.declared.sheet.ClosedSheet.{ClosedSheet}
use Rattle.ds_shared_seats.specs.declared.fault.Fault.{Fault}
use Rattle.ds_shared_seats.specs.declared.fault.Fault.TheVariants.{NoCell, NoMemory, ShortChoice}

-- all that the one remembers the other remembers, of the same layout
pub record Remembers (old new : ClosedSheet) : Type 0 where
  pub layout : new.layout ≡ old.layout
  pub before : (e : SheetSeated) → In (past_of old.words.before) e → In (past_of new.words.before) e

-- whether the word of this number is chosen: its item of the choice is not 0
abbrev pub is_chosen : List ℕ → ℕ → Bool
is_chosen choice n = if slice_index_or choice n 0 == 0 then false else true

-- a crash comes, before which the chosen words were evicted; what is remembered stays
pub record Crashes (choice : List ℕ) (old new : ClosedSheet) : Type 0 where
  pub layout : new.layout ≡ old.layout
  pub before : past_of new.words.before ≡ past_of old.words.before
  pub words : (n : ℕ) → n < words_of old.layout → HasSideLeft (apart_of old.layout) (is_chosen choice n) (slots_items old.words.table.words) (slots_items new.words.table.words) n

-- why a crash is not made: the choice is too short, or an allocation failed
abbrev pub CanNotCrash : List ℕ → ClosedSheet → Fault → Type 0
CanNotCrash choice c ShortChoice = length choice < words_of c.layout
CanNotCrash choice c NoMemory = words_of c.layout ≤ length choice
CanNotCrash choice c why = ⊥

-- the bytes are the text of the cell: that of the last of its edits that count, in every sound world with these words
abbrev pub IsTextIn : ClosedSheet → Cell → List ℕ → Type 0
IsTextIn c cell bytes = (b : Witness sheet c.words.key) → IsSound (plain c.words.key (world_on sheet c.words.key (slots_items c.words.table.words) b)) → bytes ≡ last_text (of_cell (index_of c.layout.shape cell) b.hidden.counted)

-- the sheet has no such cell, or an allocation failed
abbrev pub LacksText : ClosedSheet → Cell → Fault → Type 0
LacksText c cell NoCell = IsInside c.layout.shape cell → ⊥
LacksText c cell NoMemory = IsInside c.layout.shape cell
LacksText c cell why = ⊥

-- the sheet has no such cell
abbrev pub LacksCellIn : ClosedSheet → Cell → Fault → Type 0
LacksCellIn c cell NoCell = IsInside c.layout.shape cell → ⊥
LacksCellIn c cell why = ⊥
