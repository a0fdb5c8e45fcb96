-- What a call of a session over a shared sheet with a store does, and of which edits the keeper of the store hears.
use Rattle.std.specs.Prelude.{◌≡◌, ◌⊎◌, ◌++◌, ◌∷◌, [], ℕ, List, Option, None, Some, Result, Ok, Err, Vec, length, map}
use Rattle.std.specs.Global.{Global}
use Rattle.ds_formula.specs.declared.cells.Cell.{Cell}
use Rattle.ds_formula.specs.declared.cells.Shape.{Shape}
use Rattle.ds_shared_seats.specs.declared.seat.Seat.{Seat}
use Rattle.ds_server.specs.declared.desk.CallRefusal.{CallRefusal}
use Rattle.ds_server.specs.declared.desk.CallRefusal.TheVariants as refusals
use Rattle.ds_server.specs.declared.desk.History.{History}
use Rattle.ds_server.specs.DeskCalls.{Call, Get, Listing, Resolve, Set, SetOnce, Undo, View}
use Rattle.ds_server.specs.Replies as said
use Rattle.ds_store_journal.specs.Journals.{KeptEdit}
use Rattle.ds_store_keys.specs.Keys.{KeptKey}
use Rattle.ds_store_keys.specs.Tables.{found}
use Rattle.ds_net_floor.specs.EditLists.{HadBefore, HasNoEdit, part_of}
use Rattle.ds_net_floor.specs.Entries.{entries}
use Rattle.ds_net_floor.specs.declared.edit_list.EditList.{EditList}
use Rattle.ds_net_floor.specs.declared.notebook.Notebook.{Notebook}
use Rattle.ds_net_desks.specs.CellQuestions.{HasAsked, HasComputed, Seen, look}
use Rattle.ds_net_desks.specs.DeskSeats.{HasNoSeat, HasViewed, SeatDeals, Uses}
use Rattle.ds_net_desks.specs.SharedDesks.{HasSet}
use Rattle.ds_net_desks.specs.declared.numbered_seat.NumberedSeat.{NumberedSeat}

-- the edits of which the keeper has heard from the session, each with the number by which clients know it
abbrev pub Heard : Type 0
Heard = List (ℕ × KeptEdit)

-- the number of an edit that its client is answered
abbrev pub number_in : said.Said → ℕ
number_in (said.Done number) = number
number_in what = 0

-- what the keeper hears of an edit of the process, whose client is answered this, and of which its sheet says that: of one that is
-- done, all of it, by the number that its client is answered; of another one, nothing
abbrev pub heard_of : ℕ → Cell → List ℕ → said.Said → said.Said → Heard
heard_of process cell text what (said.Done number) = (number_in what, record { process = process; number = number; cell = cell; text = text }) ∷ []
heard_of process cell text what plain = []

-- the seat was used for an edit of this cell to this text, and its sheet says that of it; or an allocation has failed before it, and
-- the seat is as it was. The keeper hears of it just where it is done, by the number that the client is answered
abbrev pub StoredSet : Heard → Cell → List ℕ → Heard → said.Said → Seat → said.Said → Seat → Type 0
StoredSet before cell text after what seat plain new =
    (HasSet seat cell text plain new ⊎ ((new ≡ seat) × (plain ≡ said.Refused refusals.NoMemory))) × (after ≡ before ++ heard_of seat.pass.process cell text what plain)

-- the keys of which the keeper has heard from the session
abbrev pub Keyed : Type 0
Keyed = List (ℕ × KeptKey)

-- of which edits and of which keys the keeper has heard from the session, and which lists of edits the session has looked at
pub record Notes : Type 0 where
  pub heard : Heard
  pub seen : Seen
  pub keyed : Keyed

-- the notes of these
abbrev pub notes : Heard → Seen → Keyed → Notes
notes heard seen keyed = record { heard = heard; seen = seen; keyed = keyed }

-- what a session has noted
abbrev pub notes_in : Notebook → Notes
notes_in book = notes book.heard.items book.seen.items book.keyed.items

-- ---- edits with keys

-- what the keeper hears of the key of an edit of the process that its client is answered so: of one that is done, that the key is
-- of this edit; of another one, nothing
abbrev pub keyed_of : ℕ → Cell → List ℕ → List ℕ → said.Said → Keyed
keyed_of process cell text key (said.Done number) = (0, record { key = key; edit = Some (record { process = process; number = number; cell = cell; text = text }) }) ∷ []
keyed_of process cell text key what = []

-- the key is of an edit of this cell to this text, by what it is of
abbrev pub IsOf : Cell → List ℕ → Option KeptEdit → Type 0
IsOf cell text None = ⊥
IsOf cell text (Some edit) = (edit.cell ≡ cell) × (edit.text ≡ text)

-- the key is known: what is answered to an edit of this cell to this text, by what the key is of. An edit is answered as the first
-- was; another one is refused
abbrev pub SaysKnown : Cell → List ℕ → Option KeptEdit → said.Said → Type 0
SaysKnown cell text known (said.Done number) = (edit : KeptEdit) × (known ≡ Some edit) × IsOf cell text known × (number ≡ edit.number)
SaysKnown cell text known (said.Refused why) = (why ≡ refusals.KeyReused) × (IsOf cell text known → ⊥)
SaysKnown cell text known what = ⊥

-- the key is known, and nothing is done
pub record AnswersKnown (cell : Cell) (text : List ℕ) (known : Option KeptEdit) (old : NumberedSeat) (before : Notes) (what : said.Said) (new : NumberedSeat) (after : Notes) : Type 0 where
  pub says : SaysKnown cell text known what
  pub same : new ≡ old
  pub heard : after.heard ≡ before.heard
  pub keyed : after.keyed ≡ before.keyed

-- the key is not known: the seat was used for an edit, as by a set, and the keeper hears of the key just where the edit is done
pub record EditsWithKey (cell : Cell) (text key : List ℕ) (old : NumberedSeat) (before : Notes) (what : said.Said) (new : NumberedSeat) (after : Notes) : Type 0 where
  pub uses : Uses (StoredSet before.heard cell text after.heard what) old what new
  pub keyed : after.keyed ≡ before.keyed ++ keyed_of old.seat.pass.process cell text key what

-- an edit with a key, by what the key is of, if it is known
abbrev pub SetsOnce : Cell → List ℕ → List ℕ → Option (Option KeptEdit) → NumberedSeat → Notes → said.Said → NumberedSeat → Notes → Type 0
SetsOnce cell text key None old before what new after = EditsWithKey cell text key old before what new after
SetsOnce cell text key (Some known) old before what new after = AnswersKnown cell text known old before what new after

-- the list was looked at; and by what it says of the key the edit was made, or not
pub record HasSetOnce (cell : Cell) (text key : List ℕ) (old : NumberedSeat) (before : Notes) (what : said.Said) (new : NumberedSeat) (after : Notes) : Type 0 where
  pub list : EditList
  pub seen : after.seen ≡ before.seen ++ look list
  pub does : SetsOnce cell text key (found list.keys key) old before what new after

-- an edit of a list, as a key's
abbrev pub entry_kept : KeptEdit → said.EditEntry
entry_kept edit = record { process = edit.process; number = edit.number; cell = edit.cell; text = edit.text }

-- what is answered to a question for the edit with a key, by what it is of, if it is known; and of which keys the keeper hears. One
-- that is not known is of no edit from then on
abbrev pub Resolves : List ℕ → Option (Option KeptEdit) → Keyed → said.Said → Keyed → Type 0
Resolves key (Some None) before what after = (what ≡ said.Resolved None) × (after ≡ before)
Resolves key (Some (Some edit)) before what after = (what ≡ said.Resolved (Some (entry_kept edit))) × (after ≡ before)
Resolves key None before what after = (what ≡ said.Resolved None) × (after ≡ before ++ (0, record { key = key; edit = None }) ∷ [])

-- the list was looked at, and what it says of the key is answered; or an allocation has failed
pub record HasResolved (key : List ℕ) (before : Notes) (what : said.Said) (after : Notes) : Type 0 where
  pub list : EditList
  pub seen : after.seen ≡ before.seen ++ look list
  pub does : Resolves key (found list.keys key) before.keyed what after.keyed ⊎ ((what ≡ said.Refused refusals.NoMemory) × (after.keyed ≡ before.keyed))

-- ---- undos

-- no text is before the last edit of the cell in the list, for this cause: the last edit of the cell is no client's; or an allocation
-- has failed
abbrev pub HasNoText : Cell → EditList → CallRefusal → Type 0
HasNoText cell list why = ((why ≡ refusals.NoEdit) × HasNoEdit list.nobody cell (entries list)) ⊎ (why ≡ refusals.NoMemory)

-- a look for the text that the cell had before its last edit in the list ends so
abbrev pub SaysBefore : Cell → EditList → Result (Vec ℕ Global) CallRefusal → Type 0
SaysBefore cell list (Ok text) = HadBefore list.nobody cell (entries list) text.items
SaysBefore cell list (Err why) = HasNoText cell list why

-- the seat was used for an edit of the cell to the text that it had before its last edit, as by a set; or there is no such text,
-- and the undo is refused
pub record HasUndone (cell : Cell) (old : NumberedSeat) (before : Notes) (what : said.Said) (new : NumberedSeat) (after : Notes) : Type 0 where
  pub list : EditList
  pub seen : after.seen ≡ before.seen ++ look list
  pub keyed : after.keyed ≡ before.keyed
  pub does : ((text : List ℕ) × HadBefore list.nobody cell (entries list) text × Uses (StoredSet before.heard cell text after.heard what) old what new) ⊎ ((why : CallRefusal) × HasNoText cell list why × (what ≡ said.Refused why) × (new ≡ old) × (after.heard ≡ before.heard))

-- a part of the list is answered, and how many edits it has; or an allocation has failed
abbrev pub SaysPart : ℕ → ℕ → EditList → Result History CallRefusal → Type 0
SaysPart from most list (Ok history) = (map said.entry_view history.edits.items ≡ part_of from most (entries list)) × (history.of ≡ length (entries list))
SaysPart from most list (Err why) = why ≡ refusals.NoMemory

-- the list was looked at, and that is answered
pub record HasListed (from most : ℕ) (before : Seen) (history : Result History CallRefusal) (after : Seen) : Type 0 where
  pub list : EditList
  pub seen : after ≡ before ++ look list
  pub says : SaysPart from most list history

-- the same, where this is said
pub record Lists (from most : ℕ) (before : Seen) (what : said.Said) (after : Seen) : Type 0 where
  pub history : Result History CallRefusal
  pub listed : HasListed from most before history after
  pub says : what ≡ said.history_view from history

-- what a call that was answered so does to the session's seat, if it has joined a process, of which edits the keeper has heard
-- then, and which lists the session has looked at: as over a shared sheet, but that the keeper hears of each edit that is done,
-- of a set and of an undo, and of nothing else, and of the keys of edits; and that the edits are listed, so that the values are said
-- from scratch where no process is free to read by
abbrev pub StoredDeals : Shape → Option NumberedSeat → Notes → Call → said.Said → Option NumberedSeat → Notes → Type 0
StoredDeals shape (Some old) before (Set p cell text) what (Some new) after = Uses (StoredSet before.heard cell text after.heard what) old what new × (after.seen ≡ before.seen) × (after.keyed ≡ before.keyed)
StoredDeals shape old before (Set p cell text) what new after = ⊥
StoredDeals shape (Some old) before (SetOnce p cell text key) what (Some new) after = HasSetOnce cell text key old before what new after
StoredDeals shape old before (SetOnce p cell text key) what new after = ⊥
StoredDeals shape (Some old) before (Undo p cell) what (Some new) after = HasUndone cell old before what new after
StoredDeals shape old before (Undo p cell) what new after = ⊥
StoredDeals shape old before (View joined) what new after = ((HasViewed old what new × (after.seen ≡ before.seen)) ⊎ (HasNoSeat old new × HasComputed shape before.seen what after.seen)) × (after.heard ≡ before.heard) × (after.keyed ≡ before.keyed)
StoredDeals shape old before (Get joined cell) what new after = HasAsked shape cell old before.seen what new after.seen × (after.heard ≡ before.heard) × (after.keyed ≡ before.keyed)
StoredDeals shape old before (Listing from most) what new after = Lists from most before.seen what after.seen × (new ≡ old) × (after.heard ≡ before.heard) × (after.keyed ≡ before.keyed)
StoredDeals shape old before (Resolve key) what new after = HasResolved key before what after × (new ≡ old) × (after.heard ≡ before.heard)
StoredDeals shape old before call what new after = SeatDeals old call what new × (after ≡ before)
