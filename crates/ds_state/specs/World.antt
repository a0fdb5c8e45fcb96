-- A sheet and its processes, without where they lie in memory.
use Rattle.std.specs.Prelude.{ℕ, ◌≡◌, ◌+◌, ◌==◌, ◌&&◌, List, [], ◌∷◌, ◌++◌, length, filter, take, Option, if◌then◌else◌, Bool, zero, suc}
use Rattle.ds_words.specs.Memory.{Memory}
use Rattle.ds_layout.specs.declared.place.Place.{Place}
use Rattle.ds_layout.specs.declared.place.Place.TheVariants as place
use Rattle.ds_layout.specs.declared.layout.Layout.{Layout}
use Rattle.ds_layout.specs.declared.announcement.Phase.{Phase}
use Rattle.ds_layout.specs.declared.announcement.Phase.TheVariants as phase
use Rattle.ds_layout.specs.Announcement.{announcement_word}
use Rattle.ds_layout.specs.Head.{head_word}
use Rattle.ds_layout.specs.Header.{header_word}
use Rattle.ds_layout.specs.TextWords.{part_word}
use Rattle.ds_layout.specs.Bits.{part_with}
use Rattle.ds_state.specs.Edits.{PlainEditCall, text_parts}
use Rattle.ds_state.specs.declared.situation.Situation.{Situation}
use Rattle.ds_layout.specs.declared.place.Edition.{Edition}

-- what an edit is to whoever asked for it
pub record PlainEdit : Type 0 where
  pub process : ℕ
  pub number : ℕ
  pub cell : ℕ
  pub text : List ℕ

-- what an edit under way is to whoever asked for it
abbrev pub edit_of : PlainEditCall → PlainEdit
edit_of e = record { process = e.process; number = e.number; cell = e.cell; text = e.text }

-- an edit that is not answered, and how many edits were linearized when it was issued
pub record PlainIssue : Type 0 where
  pub edit : PlainEdit
  pub since : ℕ

-- the words by their places, what each process does, the linearized edits in their order, and the edit of each
-- process that is not answered
pub record PlainWorld : Type 0 where
  pub layout : Layout
  pub memory : Memory Place
  pub situation : ℕ → Situation
  pub counted : List PlainEdit
  pub open_edits : ℕ → Option PlainIssue

-- the place of a word of an edit's record in a layout: the header, then the parts of its text
abbrev pub record_place : Edition → ℕ → ℕ → ℕ → Place
record_place edition process number zero = place.Header process number
record_place edition process number (suc part) = place.Text edition process number part

-- the word of an edit's record with this number: the header, then the parts of its text
abbrev pub record_word : PlainEdit → ℕ → ℕ
record_word e zero = header_word (record { cell = e.cell; length = length e.text })
record_word e (suc part) = part_word e.text part

-- how many words an edit's record has
abbrev pub record_size : PlainEdit → ℕ
record_size e = text_parts e.text + 1

-- the place of the word of an index row that has the cell's bit
abbrev pub index_place : ℕ → ℕ → Place
index_place row cell = place.Index row (part_with cell)

-- the place of the word of a process's done bits that has the edit's
abbrev pub done_place : ℕ → ℕ → Place
done_place process number = place.Done process (part_with number)

-- the edits of one cell
unfoldable pub of_cell : ℕ → List PlainEdit → List PlainEdit
of_cell cell edits = filter (λ e. e.cell == cell) edits

-- the head with this stamp that the edit gives its cell
abbrev pub head_by : ℕ → PlainEdit → ℕ
head_by stamp e = head_word (record { stamp = stamp; process = e.process; number = e.number })

-- the head after these edits, where n came before and left this one
abbrev pub head_from : ℕ → ℕ → List PlainEdit → ℕ
head_from stamp head [] = head
head_from stamp head (e ∷ es) = head_from (stamp + 1) (head_by (stamp + 1) e) es

-- the head of a cell with these edits: 0 without any
unfoldable pub head_after_all : List PlainEdit → ℕ
head_after_all es = head_from 0 0 es

-- the edits of the cell when n edits were linearized
abbrev pub of_cell_when : PlainWorld → ℕ → ℕ → List PlainEdit
of_cell_when w cell count = of_cell cell (take count w.counted)

-- the word is the head that the edit gave its cell, which has these edits
pub record IsHeadBy (es : List PlainEdit) (word : ℕ) (e : PlainEdit) : Type 0 where
  pub before : List PlainEdit
  pub after : List PlainEdit
  pub parts : es ≡ before ++ e ∷ after
  pub is : word ≡ head_by (length before + 1) e

-- the word that announces the edit of this number, in this phase
abbrev pub announcement : ℕ → Phase → ℕ
announcement number p = announcement_word (record { number = number; phase = p })

-- whether the edit is the process's one of this number
abbrev pub is_edit_of : ℕ → ℕ → PlainEdit → Bool
is_edit_of process number e = (e.process == process) && (e.number == number)

-- how the process's edit of this number ended: done where it stands among the edits, else not done
abbrev pub phase_among : List PlainEdit → ℕ → ℕ → Phase
phase_among [] process number = phase.NotDone
phase_among (e ∷ es) process number = if is_edit_of process number e then phase.Done else phase_among es process number

-- what the process announces before its edit of this number: how the one before ended, 0 before the first
abbrev pub last_announcement : List PlainEdit → ℕ → ℕ → ℕ
last_announcement edits process zero = 0
last_announcement edits process (suc before) = announcement before (phase_among edits process before)
