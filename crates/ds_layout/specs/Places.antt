-- The words of a sheet and their numbers.
use Rattle.std.specs.Prelude.{◌≡◌, ℕ, ◌+◌, ◌-◌, ◌*◌, ◌/◌, ◌%◌, ◌<◌, ◌≤◌, ◌==◌, nat_lt, if◌then◌else◌}
use Rattle.ds_formula.specs.Cells.{count_of}
use Rattle.ds_formula.specs.Limits.{CELLS_MOST, PROCESSES_MOST}
use Rattle.ds_words.specs.declared.access.Class.{Class}
use Rattle.ds_words.specs.declared.access.Class.TheVariants.{Stamped, Bit, Owned}
use Rattle.ds_layout.specs.declared.place.TheConstants.{RECORDS, FIRST_PARTS, SECOND_PARTS, DONE_PARTS}
use Rattle.ds_layout.specs.declared.place.Edition.{Edition}
use Rattle.ds_layout.specs.declared.place.Edition.TheVariants.{First, Second}
use Rattle.ds_layout.specs.declared.place.Place.{Place}
use Rattle.ds_layout.specs.declared.place.Place.TheVariants.{Version, Head, Mark, Value, Kind, Index, Announce, Header, Text, Done}
use Rattle.ds_layout.specs.declared.layout.Layout.{Layout}
use Rattle.ds_layout.specs.Bits.{parts_for}
use Rattle.ds_layout.specs.declared.layout.Starts.{Starts}

-- how many words the text of a record has in a layout
abbrev pub parts_in : Edition → ℕ
parts_in First = FIRST_PARTS
parts_in Second = SECOND_PARTS

-- the layout that the version's word says
abbrev pub edition_of : ℕ → Edition
edition_of word = if word == 0 then First else Second

-- the version's word of a layout
abbrev pub edition_word : Edition → ℕ
edition_word First = 0
edition_word Second = 1

-- the class of the word at a place
abbrev pub class_of : Place → Class
class_of Version = Stamped
class_of (Head cell) = Stamped
class_of (Mark cell) = Stamped
class_of (Value cell) = Owned
class_of (Kind cell) = Owned
class_of (Index row part) = Bit
class_of (Announce process) = Owned
class_of (Header process number) = Owned
class_of (Text edition process number part) = Owned
class_of (Done process part) = Bit

-- how many cells the sheet has
abbrev pub cells_of : Layout → ℕ
cells_of layout = count_of layout.shape

-- how many words the index row of a cell has, one bit a cell
abbrev pub parts_of : Layout → ℕ
parts_of layout = parts_for (cells_of layout)

-- how many words a sheet may have: its version; a head, a mark, a value, a kind and an index row for each cell; an
-- announcement, the records with a header and a text each, and the done bits of each process; after them the texts of
-- the second layout
abbrev pub WORDS_MOST : ℕ
WORDS_MOST = 1 + CELLS_MOST * (4 + parts_for CELLS_MOST) + PROCESSES_MOST * (1 + RECORDS * (1 + FIRST_PARTS) + DONE_PARTS + RECORDS * SECOND_PARTS)

-- the place is one of a sheet with that number of cells, parts of a row, and processes
abbrev pub IsPlaceOf : ℕ → ℕ → ℕ → Place → Type 0
IsPlaceOf cells parts processes Version = Unit {0}
IsPlaceOf cells parts processes (Head cell) = cell < cells
IsPlaceOf cells parts processes (Mark cell) = cell < cells
IsPlaceOf cells parts processes (Value cell) = cell < cells
IsPlaceOf cells parts processes (Kind cell) = cell < cells
IsPlaceOf cells parts processes (Index row part) = (row < cells) × (part < parts)
IsPlaceOf cells parts processes (Announce process) = process < processes
IsPlaceOf cells parts processes (Header process number) = (process < processes) × (number < RECORDS)
IsPlaceOf cells parts processes (Text edition process number part) = (process < processes) × (number < RECORDS) × (part < parts_in edition)
IsPlaceOf cells parts processes (Done process part) = (process < processes) × (part < DONE_PARTS)

-- the place is one of the sheet
abbrev pub IsPlace : Layout → Place → Type 0
IsPlace layout place = IsPlaceOf (cells_of layout) (parts_of layout) layout.processes place

-- the numbers where each kind of words begins, one kind after the other, of rows of that number of parts
abbrev pub starts_for : ℕ → ℕ → ℕ → Starts
starts_for cells parts processes =
    let marks = 1 + cells in
    let values = marks + cells in
    let kinds = values + cells in
    let index = kinds + cells in
    let announcements = index + cells * parts in
    let headers = announcements + processes in
    let texts = headers + processes * RECORDS in
    let done = texts + processes * RECORDS * FIRST_PARTS in
    let second_texts = done + processes * DONE_PARTS in
    record {
      row_parts = parts;
      heads = 1;
      marks = marks;
      values = values;
      kinds = kinds;
      index = index;
      announcements = announcements;
      headers = headers;
      texts = texts;
      done = done;
      second_texts = second_texts;
      words = second_texts + processes * RECORDS * SECOND_PARTS;
    }

-- no kind of words begins before the one in front of it
pub record IsAscending (s : Starts) : Type 0 where
  pub heads : s.heads ≤ s.marks
  pub marks : s.marks ≤ s.values
  pub values : s.values ≤ s.kinds
  pub kinds : s.kinds ≤ s.index
  pub index : s.index ≤ s.announcements
  pub announcements : s.announcements ≤ s.headers
  pub headers : s.headers ≤ s.texts
  pub texts : s.texts ≤ s.done
  pub done : s.done ≤ s.second_texts
  pub second_texts : s.second_texts ≤ s.words

-- the numbers where each kind of the sheet's words begins
unfoldable pub starts_of : Layout → Starts
starts_of layout = starts_for (cells_of layout) (parts_of layout) layout.processes

-- each kind of the sheet's words begins at its number there, and the sheet has no more words than any may have
pub record AreStartsOf (layout : Layout) (starts : Starts) : Type 0 where
  pub is : starts ≡ starts_of layout
  pub ascending : IsAscending starts
  pub few : starts.words ≤ WORDS_MOST

-- how many words the sheet has
abbrev pub words_of : Layout → ℕ
words_of layout = (starts_of layout).words

-- the number of the word at a place, where the kinds begin so: by kind, then cell or process, then number, then part
abbrev pub number_by : Starts → ℕ → Place → ℕ
number_by s parts Version = 0
number_by s parts (Head cell) = s.heads + cell
number_by s parts (Mark cell) = s.marks + cell
number_by s parts (Value cell) = s.values + cell
number_by s parts (Kind cell) = s.kinds + cell
number_by s parts (Index row part) = s.index + (row * parts + part)
number_by s parts (Announce process) = s.announcements + process
number_by s parts (Header process number) = s.headers + (process * RECORDS + number)
number_by s parts (Text First process number part) = s.texts + ((process * RECORDS + number) * FIRST_PARTS + part)
number_by s parts (Text Second process number part) = s.second_texts + ((process * RECORDS + number) * SECOND_PARTS + part)
number_by s parts (Done process part) = s.done + (process * DONE_PARTS + part)

-- the number of the word at a place of the sheet
unfoldable pub number_of : Layout → Place → ℕ
number_of layout place = number_by (starts_of layout) (parts_of layout) place

-- the part of a text of the first layout that stands there among those of all its texts
abbrev pub first_text : ℕ → Place
first_text at = Text First (at / FIRST_PARTS / RECORDS) (at / FIRST_PARTS % RECORDS) (at % FIRST_PARTS)

-- the part of a text of the second layout that stands there among those of all its texts
abbrev pub second_text : ℕ → Place
second_text at = Text Second (at / SECOND_PARTS / RECORDS) (at / SECOND_PARTS % RECORDS) (at % SECOND_PARTS)

-- the place whose word has this number, where the kinds of words begin so
abbrev pub place_by : Starts → ℕ → ℕ → Place
place_by s parts n =
    if nat_lt n s.heads then Version
    else (if nat_lt n s.marks then Head (n - s.heads)
    else (if nat_lt n s.values then Mark (n - s.marks)
    else (if nat_lt n s.kinds then Value (n - s.values)
    else (if nat_lt n s.index then Kind (n - s.kinds)
    else (if nat_lt n s.announcements then Index ((n - s.index) / parts) ((n - s.index) % parts)
    else (if nat_lt n s.headers then Announce (n - s.announcements)
    else (if nat_lt n s.texts then Header ((n - s.headers) / RECORDS) ((n - s.headers) % RECORDS)
    else (if nat_lt n s.done then first_text (n - s.texts)
    else (if nat_lt n s.second_texts then Done ((n - s.done) / DONE_PARTS) ((n - s.done) % DONE_PARTS)
    else second_text (n - s.second_texts))))))))))

-- the place of the sheet whose word has this number
unfoldable pub place_of : Layout → ℕ → Place
place_of layout n = place_by (starts_of layout) (parts_of layout) n
