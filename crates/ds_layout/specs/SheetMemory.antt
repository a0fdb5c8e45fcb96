-- The words of a sheet as a memory of places.
use Rattle.std.specs.Prelude.{ℕ, ◌≡◌, ◌<◌, List, ◌∷◌, map, length, Bool, true, nat_lt, ◌&&◌, if◌then◌else◌, slice_index_or}
use Rattle.ds_words.specs.declared.access.Class.{Class}
use Rattle.ds_words.specs.declared.access.Class.TheVariants.{Stamped}
use Rattle.ds_words.specs.declared.access.BufferEntry.{BufferEntry}
use Rattle.ds_words.specs.declared.access.Access.{Access}
use Rattle.ds_words.specs.declared.access.Access.TheVariants.{Nothing, Load, Store, Or, SwapIf, Flush, Back}
use Rattle.ds_words.specs.declared.words.TheConstants.{BUFFER_ENTRIES}
use Rattle.ds_words.specs.Memory.{Memory, Performs}
use Rattle.ds_words.specs.Words.{WordsValue, memory_of}
use Rattle.ds_layout.specs.declared.place.TheConstants.{RECORDS, DONE_PARTS}
use Rattle.ds_layout.specs.declared.place.Place.{Place}
use Rattle.ds_layout.specs.declared.place.Place.TheVariants.{Version, Head, Mark, Value, Kind, Index, Announce, Header, Text, Done}
use Rattle.ds_layout.specs.declared.layout.Layout.{Layout}
use Rattle.ds_layout.specs.Places.{cells_of, parts_of, parts_in, words_of, class_of, IsPlace, number_of, place_of}

-- whether the place is one of a sheet with that number of cells, parts of a row, and processes
abbrev pub is_place_of : ℕ → ℕ → ℕ → Place → Bool
is_place_of cells parts processes Version = true
is_place_of cells parts processes (Head cell) = nat_lt cell cells
is_place_of cells parts processes (Mark cell) = nat_lt cell cells
is_place_of cells parts processes (Value cell) = nat_lt cell cells
is_place_of cells parts processes (Kind cell) = nat_lt cell cells
is_place_of cells parts processes (Index row part) = nat_lt row cells && nat_lt part parts
is_place_of cells parts processes (Announce process) = nat_lt process processes
is_place_of cells parts processes (Header process number) = nat_lt process processes && nat_lt number RECORDS
is_place_of cells parts processes (Text edition process number part) = nat_lt process processes && (nat_lt number RECORDS && nat_lt part (parts_in edition))
is_place_of cells parts processes (Done process part) = nat_lt process processes && nat_lt part DONE_PARTS

-- whether the place is one of the sheet
abbrev pub is_place : Layout → Place → Bool
is_place layout place = is_place_of (cells_of layout) (parts_of layout) layout.processes place

-- one side of the words by their places: a place that is none of the sheet reads as 0
unfoldable pub side_at : Layout → (ℕ → ℕ) → Place → ℕ
side_at layout side place = if is_place layout place then side (number_of layout place) else 0

-- an entry by the place of its word
unfoldable pub entry_at : Layout → BufferEntry ℕ → BufferEntry Place
entry_at layout entry = record { place = place_of layout entry.place; class = entry.class; value = entry.value }

-- a memory of words by their numbers as one by their places
abbrev pub memory_at : Layout → Memory ℕ → Memory Place
memory_at layout memory = record {
  cached = λ r. side_at layout memory.cached r;
  persisted = λ r. side_at layout memory.persisted r;
  buffer = λ q. map (entry_at layout) (memory.buffer q);
}

-- an access by the number of its word
abbrev pub access_at : Layout → Access Place → Access ℕ
access_at layout Nothing = Nothing
access_at layout (Load place) = Load (number_of layout place)
access_at layout (Store place value) = Store (number_of layout place) value
access_at layout (Or place bits) = Or (number_of layout place) bits
access_at layout (SwapIf place expected value) = SwapIf (number_of layout place) expected value
access_at layout (Flush place) = Flush (number_of layout place)
access_at layout Back = Back

-- the place that the access names is one of the sheet
abbrev pub NamesPlace : Layout → Access Place → Type 0
NamesPlace layout Nothing = Unit {0}
NamesPlace layout (Load place) = IsPlace layout place
NamesPlace layout (Store place value) = IsPlace layout place
NamesPlace layout (Or place bits) = IsPlace layout place
NamesPlace layout (SwapIf place expected value) = IsPlace layout place
NamesPlace layout (Flush place) = IsPlace layout place
NamesPlace layout Back = Unit {0}

-- the buffer of the process has an entry, the oldest for a place of the sheet
pub record HasEntry (layout : Layout) (memory : Memory Place) (p : ℕ) : Type 0 where
  pub entry : BufferEntry Place
  pub rest : List (BufferEntry Place)
  pub oldest : memory.buffer p ≡ entry ∷ rest
  pub there : IsPlace layout entry.place

-- the buffer of the process has the room for a flush, or the entry for a write-back
abbrev pub HasBuffer : Layout → Memory Place → ℕ → Access Place → Type 0
HasBuffer layout memory p Nothing = Unit {0}
HasBuffer layout memory p (Load place) = Unit {0}
HasBuffer layout memory p (Store place value) = Unit {0}
HasBuffer layout memory p (Or place bits) = Unit {0}
HasBuffer layout memory p (SwapIf place expected value) = Unit {0}
HasBuffer layout memory p (Flush place) = (p < layout.processes) × (length (memory.buffer p) < BUFFER_ENTRIES)
HasBuffer layout memory p Back = (p < layout.processes) × HasEntry layout memory p

-- the process may perform the access
abbrev pub CanPerform : Layout → Memory Place → ℕ → Access Place → Type 0
CanPerform layout memory p access = NamesPlace layout access × HasBuffer layout memory p access

-- what an access at a place does to the memory
abbrev pub PerformsAt : Access Place → ℕ → Memory Place → Memory Place → ℕ → Type 0
PerformsAt access p old new answer = Performs class_of access p old new answer

-- the class of each word is that of its place
pub record HasClasses (layout : Layout) (classes : List Class) : Type 0 where
  pub count : length classes ≡ words_of layout
  pub each : (n : ℕ) → n < words_of layout → slice_index_or classes n Stamped ≡ class_of (place_of layout n)

-- the words are those of the layout
pub record IsLaidOut (layout : Layout) (value : WordsValue) : Type 0 where
  pub classes : HasClasses layout value.classes
  pub words : length value.words ≡ words_of layout
  pub processes : length value.buffers ≡ layout.processes

-- a layout and its words
pub record SheetValue : Type 0 where
  pub layout : Layout
  pub words : WordsValue

-- the memory of the sheet
abbrev pub memory : SheetValue → Memory Place
memory sheet = memory_at sheet.layout (memory_of sheet.words)
