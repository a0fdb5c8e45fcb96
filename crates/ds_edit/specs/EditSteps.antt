-- The steps of an edit: what each stage does to the memory, and what comes then.
use Rattle.std.specs.Prelude.{ℕ, ◌<◌, ◌+◌, ◌-◌, ◌*◌, ◌==◌, nat_lt, if◌then◌else◌, Bool, length, slice_index_or, Option, Some, None}
use Rattle.ds_words.specs.declared.access.Access.{Access}
use Rattle.ds_words.specs.declared.access.Access.TheVariants.{Nothing, Load, Store, Or, SwapIf, Flush, Back}
use Rattle.ds_layout.specs.declared.place.Place.{Place}
use Rattle.ds_layout.specs.declared.place.Place.TheVariants as place
use Rattle.ds_layout.specs.declared.mark.TheConstants.{DIRTY}
use Rattle.ds_layout.specs.declared.head.Head.{Head}
use Rattle.ds_layout.specs.declared.announcement.Phase.{Phase}
use Rattle.ds_layout.specs.declared.announcement.Phase.TheVariants as phase
use Rattle.ds_layout.specs.Head.{head_word, head_of, next_head}
use Rattle.ds_layout.specs.Header.{header_word}
use Rattle.ds_layout.specs.TextWords.{part_word}
use Rattle.ds_layout.specs.Announcement.{announcement_word}
use Rattle.ds_layout.specs.Bits.{bit_of}
use Rattle.ds_state.specs.Edits.{PlainEditCall, text_parts}
use Rattle.ds_state.specs.Known.{phase_of}
use Rattle.ds_state.specs.World.{done_place, index_place}
use Rattle.ds_state.specs.declared.stage.Outcome.TheVariants as outcome
use Rattle.ds_state.specs.declared.stage.Stage.{Stage}
use Rattle.ds_state.specs.declared.stage.Stage.TheVariants.{StoreHeader, StoreText, FlushHeader, FlushText, BackRecord, StorePending, FlushPending, BackPending, OrIndex, FlushIndex, BackIndex, LoadHead, FlushNoted, BackNoted, OrDone, FlushDone, BackDone, Swap, FlushOwn, BackOwn, OrMark, FlushMark, BackMark, StoreOutcome, FlushOutcome, BackOutcome, Answer}

-- the place of the header of the edit's record
abbrev pub header_place : PlainEditCall → Place
header_place e = place.Header e.process e.number

-- the place of a part of the text in the edit's record
abbrev pub text_place : PlainEditCall → ℕ → Place
text_place e part = place.Text e.edition e.process e.number part

-- the place of the word of a reference's index row that has the bit of the edit's cell
abbrev pub reference_place : PlainEditCall → ℕ → Place
reference_place e i = index_place (slice_index_or e.refs i 0) e.cell

-- the word of the head that follows this one, of the edit
abbrev pub head_after : PlainEditCall → ℕ → ℕ
head_after e noted = head_word (next_head noted e.process e.number)

-- the announcement of the edit in this phase
abbrev pub announced : PlainEditCall → Phase → ℕ
announced e p = announcement_word (record { number = e.number; phase = p })

-- the access of a stage
abbrev pub access_at : PlainEditCall → Stage → Access Place
access_at e StoreHeader = Store (header_place e) (header_word (record { cell = e.cell; length = length e.text }))
access_at e (StoreText part) = Store (text_place e part) (part_word e.text part)
access_at e FlushHeader = Flush (header_place e)
access_at e (FlushText part) = Flush (text_place e part)
access_at e (BackRecord left) = Back
access_at e StorePending = Store (place.Announce e.process) (announced e phase.Pending)
access_at e FlushPending = Flush (place.Announce e.process)
access_at e BackPending = Back
access_at e (OrIndex i) = Or (reference_place e i) (bit_of e.cell)
access_at e (FlushIndex i) = Flush (reference_place e i)
access_at e (BackIndex i) = Back
access_at e LoadHead = Load (place.Head e.cell)
access_at e (FlushNoted head) = Flush (place.Head e.cell)
access_at e (BackNoted head) = Back
access_at e (OrDone head) = Or (done_place head.process head.number) (bit_of head.number)
access_at e (FlushDone head) = Flush (done_place head.process head.number)
access_at e (BackDone head) = Back
access_at e (Swap noted) = SwapIf (place.Head e.cell) noted (head_after e noted)
access_at e (FlushOwn own) = Flush (place.Head e.cell)
access_at e (BackOwn own) = Back
access_at e (OrMark own) = Or (place.Mark e.cell) DIRTY
access_at e (FlushMark own) = Flush (place.Mark e.cell)
access_at e (BackMark own) = Back
access_at e (StoreOutcome how) = Store (place.Announce e.process) (announced e (phase_of how))
access_at e (FlushOutcome how) = Flush (place.Announce e.process)
access_at e (BackOutcome how) = Back
access_at e (Answer how) = Nothing

-- the stage that stores this part of the text; after the last part, the header's flush
abbrev pub store_from : PlainEditCall → ℕ → Stage
store_from e part = if nat_lt part (text_parts e.text) then StoreText part else FlushHeader

-- the stage that flushes this part of the text; after the last part, the first write-back
abbrev pub flush_from : PlainEditCall → ℕ → Stage
flush_from e part = if nat_lt part (text_parts e.text) then FlushText part else BackRecord (text_parts e.text)

-- the stage after a write-back, with n entries left: the next one, or the announcement
abbrev pub back_from : ℕ → Stage
back_from left = if left == 0 then StorePending else BackRecord (left - 1)

-- the stage that indexes this reference; after the last one, the load of the head
abbrev pub index_from : PlainEditCall → ℕ → Stage
index_from e i = if nat_lt i (length e.refs) then OrIndex i else LoadHead

-- the stage after the load of the head: the edit that is found is helped; where there is none, the swap
abbrev pub help_from : ℕ → Option Head → Stage
help_from noted None = Swap noted
help_from noted (Some head) = FlushNoted head

-- whether a swap that expects this head and sees that one linearizes its edit: where they are the same
abbrev pub wins : ℕ → ℕ → Bool
wins noted seen = seen == noted

-- the stage after the swap: where it won, the head is the edit's own now; else the edit is not linearized
abbrev pub swung_from : PlainEditCall → ℕ → ℕ → Stage
swung_from e noted seen = if wins noted seen then FlushOwn (head_after e noted) else StoreOutcome (outcome.Overtaken noted seen)

-- the stage after a stage whose access answered the word; an answer is the last one
abbrev pub next_at : PlainEditCall → Stage → ℕ → Stage
next_at e StoreHeader word = store_from e 0
next_at e (StoreText part) word = store_from e (part + 1)
next_at e FlushHeader word = flush_from e 0
next_at e (FlushText part) word = flush_from e (part + 1)
next_at e (BackRecord left) word = back_from left
next_at e StorePending word = FlushPending
next_at e FlushPending word = BackPending
next_at e BackPending word = index_from e 0
next_at e (OrIndex i) word = FlushIndex i
next_at e (FlushIndex i) word = BackIndex i
next_at e (BackIndex i) word = index_from e (i + 1)
next_at e LoadHead word = help_from word (head_of e.processes word)
next_at e (FlushNoted head) word = BackNoted head
next_at e (BackNoted head) word = OrDone head
next_at e (OrDone head) word = FlushDone head
next_at e (FlushDone head) word = BackDone head
next_at e (BackDone head) word = Swap (head_word head)
next_at e (Swap noted) word = swung_from e noted word
next_at e (FlushOwn own) word = BackOwn own
next_at e (BackOwn own) word = OrMark own
next_at e (OrMark own) word = FlushMark own
next_at e (FlushMark own) word = BackMark own
next_at e (BackMark own) word = StoreOutcome outcome.Done
next_at e (StoreOutcome how) word = FlushOutcome how
next_at e (FlushOutcome how) word = BackOutcome how
next_at e (BackOutcome how) word = Answer how
next_at e (Answer how) word = Answer how

-- the edit after its step, whose access answered the word
abbrev pub got_at : PlainEditCall → ℕ → PlainEditCall
got_at e word = record e { stage = next_at e e.stage word }

-- how many steps are left at most at a stage, the answer's among them, with that number of parts and references
abbrev pub rank_in : ℕ → ℕ → Stage → ℕ
rank_in parts refs StoreHeader = 22 + 3 * refs + 3 * parts
rank_in parts refs (StoreText part) = 21 + 3 * refs + 3 * parts - part
rank_in parts refs FlushHeader = 21 + 3 * refs + 2 * parts
rank_in parts refs (FlushText part) = 20 + 3 * refs + 2 * parts - part
rank_in parts refs (BackRecord left) = 20 + 3 * refs + left
rank_in parts refs StorePending = 19 + 3 * refs
rank_in parts refs FlushPending = 18 + 3 * refs
rank_in parts refs BackPending = 17 + 3 * refs
rank_in parts refs (OrIndex i) = 16 + 3 * refs - 3 * i
rank_in parts refs (FlushIndex i) = 15 + 3 * refs - 3 * i
rank_in parts refs (BackIndex i) = 14 + 3 * refs - 3 * i
rank_in parts refs LoadHead = 16
rank_in parts refs (FlushNoted head) = 15
rank_in parts refs (BackNoted head) = 14
rank_in parts refs (OrDone head) = 13
rank_in parts refs (FlushDone head) = 12
rank_in parts refs (BackDone head) = 11
rank_in parts refs (Swap noted) = 10
rank_in parts refs (FlushOwn own) = 9
rank_in parts refs (BackOwn own) = 8
rank_in parts refs (OrMark own) = 7
rank_in parts refs (FlushMark own) = 6
rank_in parts refs (BackMark own) = 5
rank_in parts refs (StoreOutcome how) = 4
rank_in parts refs (FlushOutcome how) = 3
rank_in parts refs (BackOutcome how) = 2
rank_in parts refs (Answer how) = 1

-- how many steps of the edit are left at most at a stage, the answer's among them
abbrev pub rank : PlainEditCall → Stage → ℕ
rank e stage = rank_in (text_parts e.text) (length e.refs) stage

-- fewer steps are left after a step, but for the answer's, which is the last
abbrev pub Falls : PlainEditCall → Stage → Stage → Type 0
Falls e (Answer how) after = Unit {0}
Falls e stage after = rank e after < rank e stage
