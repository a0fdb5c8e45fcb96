-- What a step of work changes, field by field, and what the process does by its turn.
use Rattle.std.specs.Prelude.{ℕ, ◌==◌, nat_lt, if◌then◌else◌, ◌<◌, List, [], ◌∷◌, ◌++◌, length, take, Option, Some, None}
use Rattle.ds_eval.specs.declared.inputs.Input.{Input}
use Rattle.ds_eval.specs.Inputs.{with_entry}
use Rattle.ds_layout.specs.declared.header.Header.{Header}
use Rattle.ds_layout.specs.declared.mark.State.{State}
use Rattle.ds_layout.specs.declared.mark.State.TheVariants.{Clean, Marked, Held}
use Rattle.ds_layout.specs.Header.{header_of}
use Rattle.ds_layout.specs.Mark.{mark_of, state_of, generation_of, held_after}
use Rattle.ds_layout.specs.TextWords.{bytes_of}
use Rattle.ds_layout.specs.declared.place.TheConstants.{ROW_PARTS}
use Rattle.ds_state.specs.Works.{PlainWorkCall, SEEN_MOST}
use Rattle.ds_state.specs.Standing.{shown_entry}
use Rattle.ds_state.specs.declared.spread.Spread.TheVariants.{LoadRow}
use Rattle.ds_state.specs.declared.work.WorkStage.{WorkStage}
use Rattle.ds_state.specs.declared.work.WorkStage.TheVariants.{LoadMark, Claim, LoadHead, LoadHeader, LoadText, Read, LoadKind, LoadOwnValue, LoadOwnKind, Wait, BackKind, Telling, Answer}
use Rattle.ds_work.specs.WorkSteps.{next_at}
use Rattle.ds_work.specs.declared.machine.Noting.{Noting}
use Rattle.ds_work.specs.declared.machine.Noting.TheVariants as noted
use Rattle.ds_work.specs.declared.machine.Doing.{Doing}
use Rattle.ds_work.specs.declared.machine.Doing.TheVariants as turns
use Rattle.ds_state.specs.Shown.{header_in}

-- what work notes of the word that the access of a stage finds, beside the stage that comes next
abbrev pub notes_at : WorkStage → Noting
notes_at LoadMark = noted.Mark
notes_at Claim = noted.Mark
notes_at LoadHead = noted.Text
notes_at LoadHeader = noted.Text
notes_at (LoadText part) = noted.Text
notes_at (LoadKind i value) = noted.Input
notes_at LoadOwnValue = noted.Own
notes_at LoadOwnKind = noted.Own
notes_at BackKind = noted.Row
notes_at (Telling (LoadRow part)) = noted.Row
notes_at stage = noted.Nothing

-- the mark that work has noted after it loaded this word: the word, where it may be claimed, else the mark from
-- before
abbrev pub seen_mark : PlainWorkCall → ℕ → State → ℕ
seen_mark e word Clean = e.mark
seen_mark e word (Held p) = e.mark
seen_mark e word Marked = if nat_lt SEEN_MOST (generation_of word) then e.mark else word

-- the mark that work has noted after a stage whose access found this word
abbrev pub mark_at : PlainWorkCall → WorkStage → ℕ → ℕ
mark_at e LoadMark word = seen_mark e word (state_of (mark_of e.processes word))
mark_at e Claim word = if word == e.mark then held_after e.process e.mark else e.mark
mark_at e _ word = e.mark

-- the head that work has noted after a stage whose access found this word
abbrev pub head_at : PlainWorkCall → WorkStage → ℕ → ℕ
head_at e LoadHead word = word
head_at e _ word = e.head

-- the length of a text by its header; 0 without a header
abbrev pub length_in : Option Header → ℕ
length_in None = 0
length_in (Some header) = header.length

-- the length of the text that work has noted after a stage whose access found this word
abbrev pub length_at : PlainWorkCall → WorkStage → ℕ → ℕ
length_at e LoadHead word = 0
length_at e LoadHeader word = length_in (header_in e.edition (header_of e.cells word))
length_at e _ word = e.length

-- the text after a stage: empty after head and header, longer by the bytes of each part that is loaded
abbrev pub text_after : List ℕ → ℕ → WorkStage → ℕ → List ℕ
text_after text count LoadHead word = []
text_after text count LoadHeader word = []
text_after text count (LoadText part) word = take count (text ++ bytes_of word)
text_after text count _ word = text

-- the text that work has noted after a stage whose access found this word
abbrev pub text_at : PlainWorkCall → WorkStage → ℕ → List ℕ
text_at e stage word = text_after e.text e.length stage word

-- the inputs after a stage: once its kind is loaded, an input has the entry that its cell shows
abbrev pub inputs_after : List Input → ℕ → WorkStage → ℕ → List Input
inputs_after inputs cells (LoadKind i value) word = with_entry inputs i (shown_entry cells value word)
inputs_after inputs cells _ word = inputs

-- the inputs that work has noted after a stage whose access found this word
abbrev pub inputs_at : PlainWorkCall → WorkStage → ℕ → List Input
inputs_at e stage word = inputs_after e.inputs e.cells stage word

-- the value of the work's own cell after a stage: the word, where the stage loads that value
abbrev pub value_after : ℕ → WorkStage → ℕ → ℕ
value_after value LoadOwnValue word = word
value_after value _ word = value

-- the value of its own cell that work has noted after a stage whose access found this word
abbrev pub value_at : PlainWorkCall → WorkStage → ℕ → ℕ
value_at e stage word = value_after e.value stage word

-- the kind of the work's own cell after a stage: the word, where the stage loads that kind
abbrev pub kind_after : ℕ → WorkStage → ℕ → ℕ
kind_after kind LoadOwnKind word = word
kind_after kind _ word = kind

-- the kind of its own cell that work has noted after a stage whose access found this word
abbrev pub kind_at : PlainWorkCall → WorkStage → ℕ → ℕ
kind_at e stage word = kind_after e.kind stage word

-- the words of the index row after a stage: none when telling begins, one more for each part that is loaded
abbrev pub row_after : List ℕ → WorkStage → ℕ → List ℕ
row_after row BackKind word = []
row_after row (Telling (LoadRow part)) word = row ++ word ∷ []
row_after row _ word = row

-- the words of its cell's index row that work has noted after a stage whose access found this word
abbrev pub row_at : PlainWorkCall → WorkStage → ℕ → List ℕ
row_at e stage word = row_after e.row stage word

-- a stage that loads a kind has an input to note it in
abbrev pub FitsInputs : List Input → WorkStage → Type 0
FitsInputs inputs (LoadKind i value) = i < length inputs
FitsInputs inputs _ = Unit {0}

-- a stage that loads a part of the index row has room for it
abbrev pub FitsRow : List ℕ → WorkStage → Type 0
FitsRow row (Telling (LoadRow part)) = length row < ROW_PARTS
FitsRow row _ = Unit {0}

-- the stage of work after this one, whose access found this word
abbrev pub stage_at : PlainWorkCall → WorkStage → ℕ → WorkStage
stage_at e stage word = (next_at e stage word).stage

-- what the process does by its turn at a stage: it reads the content, waits, answers, or makes a step
abbrev pub turn_at : WorkStage → Doing
turn_at Read = turns.Reads
turn_at Wait = turns.Waits
turn_at (Answer end) = turns.Answers end
turn_at _ = turns.Steps
