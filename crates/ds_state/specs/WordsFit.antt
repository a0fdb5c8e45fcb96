-- What the two sides of each word have to do with the linearized edits.
use Rattle.std.specs.Prelude.{ℕ, ◌≡◌, ◌<◌, ◌≤◌, ◌⊎◌, List, [], ◌∷◌, ◌++◌, Some, Contains, zero, suc}
use Rattle.ds_formula.specs.Cells.{index_of}
use Rattle.ds_formula.specs.declared.cells.Cell.{Cell}
use Rattle.ds_formula.specs.declared.cells.Shape.{Shape}
use Rattle.ds_formula.specs.Plain.{PlainContent}
use Rattle.ds_formula.specs.Refs.{Refers}
use Rattle.ds_formula.specs.Grammar.{Reads}
use Rattle.ds_layout.specs.declared.place.TheConstants.{RECORDS}
use Rattle.ds_layout.specs.declared.place.Place.{Place}
use Rattle.ds_layout.specs.declared.place.Place.TheVariants.{Version, Head, Mark, Value, Kind, Index, Announce, Header, Text, Done}
use Rattle.ds_layout.specs.declared.announcement.Phase.TheVariants as phase
use Rattle.ds_layout.specs.Bits.{HasBit, IsSubset, part_with}
use Rattle.ds_layout.specs.Mark.{generation_of}
use Rattle.ds_state.specs.World.{PlainEdit, PlainIssue, PlainWorld, record_word, record_size, of_cell, head_after_all, announcement}
use Rattle.ds_state.specs.Known.{IsSafe}
use Rattle.ds_state.specs.Works.{MARK_MOST}
use Rattle.ds_state.specs.Owing.{IsMark, IsApart, Splits}
use Rattle.ds_state.specs.Editions.{Shows}

-- the persisted head is the one before the cached one, whose edit is open and may have the sides differ
pub record IsOnItsWay (w : PlainWorld) (es : List PlainEdit) (persisted : ℕ) : Type 0 where
  pub before : List PlainEdit
  pub last : PlainEdit
  pub parts : es ≡ before ++ last ∷ []
  pub is : persisted ≡ head_after_all before
  pub issue : PlainIssue
  pub open_edits : w.open_edits last.process ≡ Some issue
  pub same : issue.edit ≡ last
  pub owes : Splits w last.process (w.situation last.process) last.cell (head_after_all es)

-- the cached head is that of its cell's last edit
pub record HeadFits (w : PlainWorld) (cell cached persisted : ℕ) : Type 0 where
  pub last : cached ≡ head_after_all (of_cell cell w.counted)
  pub sides : (persisted ≡ cached) ⊎ IsOnItsWay w (of_cell cell w.counted) persisted

-- the text refers to the cell with this number
pub record RefersTo (shape : Shape) (text : List ℕ) (row : ℕ) : Type 0 where
  pub content : PlainContent
  pub cell : Cell
  pub reads : Reads shape text content
  pub refers : Refers content cell
  pub is : index_of shape cell ≡ row

-- each linearized edit that refers to the cell has its own cell's bit in the row
pub record IndexFits (w : PlainWorld) (row part cached persisted : ℕ) : Type 0 where
  pub sides : IsSubset persisted cached
  pub counted : (e : PlainEdit) → Contains w.counted e → part_with e.cell ≡ part → RefersTo w.layout.shape e.text row
      → HasBit cached e.cell × HasBit persisted e.cell

-- the edit of this process and number is one that no crash takes
pub record IsKept (w : PlainWorld) (process number : ℕ) : Type 0 where
  pub edit : PlainEdit
  pub process_is : edit.process ≡ process
  pub number_is : edit.number ≡ number
  pub safe : IsSafe w edit

-- the persisted announcement is no later one, and an announced Done is kept
pub record AnnounceFits (w : PlainWorld) (process cached persisted : ℕ) : Type 0 where
  pub sides : persisted ≤ cached
  pub on_cached : (n : ℕ) → n < RECORDS → cached ≡ announcement n phase.Done → IsKept w process n
  pub on_persisted : (n : ℕ) → n < RECORDS → persisted ≡ announcement n phase.Done → IsKept w process n

-- each word of a linearized edit's record stands on both sides
abbrev pub RecordFits : PlainWorld → ℕ → ℕ → ℕ → ℕ → ℕ → Type 0
RecordFits w process number k cached persisted = (e : PlainEdit) → Contains w.counted e → e.process ≡ process → e.number ≡ number → k < record_size e
    → (cached ≡ record_word e k) × (persisted ≡ record_word e k)

-- the edit of this process and number is linearized, and is not its cell's last
pub record IsSuperseded (w : PlainWorld) (process number : ℕ) : Type 0 where
  pub edit : PlainEdit
  pub process_is : edit.process ≡ process
  pub number_is : edit.number ≡ number
  pub before : List PlainEdit
  pub next : PlainEdit
  pub after : List PlainEdit
  pub parts : of_cell edit.cell w.counted ≡ before ++ edit ∷ next ∷ after

-- a superseded edit has its done bit persisted, and a done bit says that its edit is kept
pub record DoneFits (w : PlainWorld) (process part cached persisted : ℕ) : Type 0 where
  pub sides : IsSubset persisted cached
  pub superseded : (n : ℕ) → part_with n ≡ part → IsSuperseded w process n → HasBit persisted n
  pub told : (n : ℕ) → n < RECORDS → part_with n ≡ part → HasBit cached n → IsKept w process n

-- a mark is no newer on its persisted side, and its holder is a process of the sheet
pub record MarkFits (w : PlainWorld) (cell cached persisted : ℕ) : Type 0 where
  pub behind : persisted ≤ cached
  pub few : generation_of cached ≤ MARK_MOST
  pub holder : IsMark w.layout cell cached
  pub persisted_holder : IsMark w.layout cell persisted

-- the version's word is 0 or 1, and no newer on its persisted side
pub record VersionFits (cached persisted : ℕ) : Type 0 where
  pub behind : persisted ≤ cached
  pub most : cached ≤ 1

-- the two sides of the word at a place fit the linearized edits
abbrev pub WordFits : PlainWorld → Place → ℕ → ℕ → Type 0
WordFits w Version cached persisted = VersionFits cached persisted
WordFits w (Head cell) cached persisted = HeadFits w cell cached persisted
WordFits w (Mark cell) cached persisted = MarkFits w cell cached persisted
WordFits w (Value cell) cached persisted = (persisted ≡ cached) ⊎ IsApart w cell
WordFits w (Kind cell) cached persisted = (persisted ≡ cached) ⊎ IsApart w cell
WordFits w (Index row part) cached persisted = IndexFits w row part cached persisted
WordFits w (Announce process) cached persisted = AnnounceFits w process cached persisted
WordFits w (Header process number) cached persisted = RecordFits w process number zero cached persisted
WordFits w (Text edition process number part) cached persisted = Shows w.memory edition → RecordFits w process number (suc part) cached persisted
WordFits w (Done process part) cached persisted = DoneFits w process part cached persisted
