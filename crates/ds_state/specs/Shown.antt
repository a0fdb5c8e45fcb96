-- What a world shows.
use Rattle.std.specs.Prelude.{ℕ, ◌≡◌, ◌<◌, ◌≤◌, nat_le, if◌then◌else◌, ◌++◌, List, [], ◌∷◌, length, map, take, Option, Some, None, zero, suc}
use Rattle.std.specs.List.{range_with_len}
use Rattle.ds_formula.specs.Cells.{index_of}
use Rattle.ds_formula.specs.declared.cells.Cell.{Cell}
use Rattle.ds_eval.specs.declared.value.Value.{Value}
use Rattle.ds_words.specs.Memory.{Memory}
use Rattle.ds_layout.specs.declared.layout.Layout.{Layout}
use Rattle.ds_layout.specs.declared.place.Place.{Place}
use Rattle.ds_layout.specs.declared.place.Place.TheVariants as place
use Rattle.ds_layout.specs.declared.mark.Mark.{Mark}
use Rattle.ds_layout.specs.declared.mark.State.TheVariants.{Clean}
use Rattle.ds_layout.specs.Places.{cells_of}
use Rattle.ds_layout.specs.Mark.{mark_of, state_of}
use Rattle.ds_layout.specs.Stored.{stored_of}
use Rattle.ds_layout.specs.declared.head.Head.{Head}
use Rattle.ds_layout.specs.declared.header.Header.{Header}
use Rattle.ds_layout.specs.Head.{head_of}
use Rattle.ds_layout.specs.Header.{header_word, header_of}
use Rattle.ds_layout.specs.TextWords.{part_word, bytes_of, length_in, parts_for}
use Rattle.ds_state.specs.Edits.{text_parts}
use Rattle.ds_state.specs.EntryWords.{shown_of}
use Rattle.ds_state.specs.Text.{IsText}
use Rattle.ds_state.specs.World.{PlainEdit, PlainWorld}
use Rattle.ds_state.specs.declared.situation.Situation.{Situation}
use Rattle.ds_state.specs.declared.situation.Situation.TheVariants.{Idle, Stopped, Editing, Working, Recovering, Showing, Migrating}
use Rattle.ds_layout.specs.declared.place.Edition.{Edition}
use Rattle.ds_state.specs.Editions.{seen_edition, most_in}

-- the mark of the cell with this number, as processes see it
abbrev pub mark_at : Layout → Memory Place → ℕ → Mark
mark_at layout memory cell = mark_of layout.processes (memory.cached (place.Mark cell))

-- the mark of the cell, as processes see it in this world
abbrev pub mark_in : PlainWorld → Cell → Mark
mark_in w cell = mark_at w.layout w.memory (index_of w.layout.shape cell)

-- who may hold the mark of the cell with this number: a process whose work is on just that cell; one that is stopped,
-- or recovers, and has not given the cell back
abbrev pub MayHold : ℕ → Situation → Type 0
MayHold cell (Idle next) = ⊥
MayHold cell Stopped = Unit {0}
MayHold cell (Editing e) = ⊥
MayHold cell (Working e) = e.cell ≡ cell
MayHold cell (Recovering e) = Unit {0}
MayHold cell (Showing e) = ⊥
MayHold cell (Migrating e) = Unit {0}

-- the value of the cell with this number, as processes see it
abbrev pub value_at : Layout → Memory Place → ℕ → Value
value_at layout memory cell = shown_of (stored_of (cells_of layout) (memory.cached (place.Value cell)) (memory.cached (place.Kind cell)))

-- the value of the cell, as processes see it in this world
abbrev pub value_in : PlainWorld → Cell → Value
value_in w cell = value_at w.layout w.memory (index_of w.layout.shape cell)

-- what the cells show, by their numbers
abbrev pub values_shown : PlainWorld → List Value
values_shown w = map (λ c. value_at w.layout w.memory c) (range_with_len 0 (cells_of w.layout))

-- no cell's mark is dirty or held
abbrev pub AllClean : Layout → Memory Place → Type 0
AllClean layout memory = (cell : ℕ) → cell < cells_of layout → state_of (mark_at layout memory cell) ≡ Clean

-- a quiescent world: each edit is answered, and no cell's mark is dirty or held
pub record IsQuiet (w : PlainWorld) : Type 0 where
  pub answered : (p : ℕ) → p < w.layout.processes → w.open_edits p ≡ None
  pub clean : AllClean w.layout w.memory

-- the text of the last of the edits, empty without one
abbrev pub last_text : List PlainEdit → List ℕ
last_text [] = []
last_text (e ∷ []) = e.text
last_text (e ∷ f ∷ es) = last_text (f ∷ es)

-- the first parts of a record's text, this number of them, of that number of bytes, in a layout, as processes see them
abbrev pub parts_at : Memory Place → Edition → ℕ → ℕ → ℕ → ℕ → List ℕ
parts_at memory edition process number count zero = []
parts_at memory edition process number count (suc part) =
    parts_at memory edition process number count part ++ take (length_in count part) (bytes_of (memory.cached (place.Text edition process number part)))

-- a header that says no more than the layout has; any other one is none
abbrev pub header_in : Edition → Option Header → Option Header
header_in edition None = None
header_in edition (Some header) = if nat_le header.length (most_in edition) then Some header else None

-- the text that a record's header gives it in a layout; a word that is no header of the sheet, or says more than the
-- layout has, gives none
abbrev pub headed_at : Memory Place → Edition → ℕ → ℕ → Option Header → List ℕ
headed_at memory edition process number None = []
headed_at memory edition process number (Some header) =
    if nat_le header.length (most_in edition) then parts_at memory edition process number header.length (parts_for header.length) else []

-- the text of the record with this process and number, as processes see it
abbrev pub record_at : Layout → Memory Place → Edition → ℕ → ℕ → List ℕ
record_at layout memory edition process number = headed_at memory edition process number (header_of (cells_of layout) (memory.cached (place.Header process number)))

-- the text of the record that a head names, in the layout that processes see; a word that is no head of the sheet names none
abbrev pub named_at : Layout → Memory Place → Option Head → List ℕ
named_at layout memory None = []
named_at layout memory (Some head) = record_at layout memory (seen_edition memory) head.process head.number

-- the text of the cell with this number, as processes see it
abbrev pub text_at : Layout → Memory Place → ℕ → List ℕ
text_at layout memory cell = named_at layout memory (head_of layout.processes (memory.cached (place.Head cell)))

-- the text of the cell, as processes see it in this world
abbrev pub text_in : PlainWorld → Cell → List ℕ
text_in w cell = text_at w.layout w.memory (index_of w.layout.shape cell)

-- the parts of the text stand in the words of a record
pub record HasParts (memory : Memory Place) (edition : Edition) (process number : ℕ) (text : List ℕ) : Type 0 where
  pub is : IsText text
  pub fits : length text ≤ most_in edition
  pub each : (part : ℕ) → part < text_parts text → memory.cached (place.Text edition process number part) ≡ part_word text part

-- the record of this process and number is that of an edit of the cell with the text
pub record HasRecord (memory : Memory Place) (edition : Edition) (process number cell : ℕ) (text : List ℕ) : Type 0 where
  pub header : memory.cached (place.Header process number) ≡ header_word (record { cell = cell; length = length text })
  pub parts : HasParts memory edition process number text
