-- The scene of a brief picture.
use Rattle.std.specs.Prelude.{ℕ, ◌≡◌, ◌≤◌, ◌<◌, ◌+◌, ◌-◌, Bool, true, false, List, [], ◌∷◌, ◌++◌, Option, Some, None, IsSomeAnd, All, codes, map, take, length, slice_get, string_bytes, sum, if◌then◌else◌}
use Rattle.std.specs.Fmt.{decimal}
use Rattle.ds_words.specs.declared.words.Word.{Word}
use Rattle.ds_core.specs.declared.reply.Reply.{Reply}
use Rattle.ds_core.specs.declared.reply.Reply.TheVariants as replies
use Rattle.ds_trace.specs.declared.row.Happening.{Happening}
use Rattle.ds_trace.specs.declared.row.Happening.TheVariants.{Begins, Steps, TakesEntry, Evicts, Stops, Crashes}
use Rattle.ds_trace.specs.declared.row.TraceRow.{TraceRow}
use Rattle.ds_trace.specs.declared.row.Trace.{Trace}
use Rattle.ds_trace_scene.specs.Buffers.{ArePassages}
use Rattle.ds_trace_scene.specs.Columns.{word_after}
use Rattle.ds_trace_scene.specs.PlaceNames.{name_of}
use Rattle.ds_trace_scene.specs.Points.{course, points_text}
use Rattle.ds_trace_scene.specs.Rows.{style_by}
use Rattle.ds_trace_scene.specs.Texts.{IsRowText, place_touched}
use Rattle.ds_trace_scene.specs.declared.columns.Passage.{Passage}
use Rattle.ds_trace_brief.specs.Keeping.{deciding, kept, place_at}
use Rattle.ds_trace_brief.specs.Crashing.{crash_text}
use Rattle.ds_trace_brief.specs.declared.columns.BriefColumn.{BriefColumn}
use Rattle.ds_trace_brief.specs.declared.rows.BriefRow.{BriefRow}
use Rattle.ds_trace_brief.specs.declared.rows.Sign.{Sign}
use Rattle.ds_trace_brief.specs.declared.rows.Sign.TheVariants.{Call, Stop, Eviction, Crash}
use Rattle.ds_trace_brief.specs.declared.scene.Brief.{Brief}

-- how wide a brief picture is at most, in pixels
abbrev pub WIDTH_MOST : ℕ
WIDTH_MOST = 850

-- ---- the rows

-- where the sign of an event stands, by what happened and what that was answered: on the rail of its process, as it stands in
-- the lane; at the end of the rail of one that stops; beside the rails, or across them
abbrev pub sign_by : Happening → Reply → Sign
sign_by (Begins process begin) reply = Call process (style_by (Begins process begin) reply)
sign_by (Steps process access) reply = Call process (style_by (Steps process access) reply)
sign_by (TakesEntry process) reply = Call process (style_by (TakesEntry process) reply)
sign_by (Stops process) replies.Stopped = Stop process
sign_by (Stops process) reply = Call process (style_by (Stops process) reply)
sign_by (Evicts place) reply = Eviction
sign_by Crashes reply = Crash

-- the reply is none that is written as an answer, which names its process
abbrev pub is_step : Reply → Bool
is_step (replies.Begun number) = true
is_step replies.Entered = true
is_step replies.Stepped = true
is_step reply = false

-- the process that the text of an event names first, where that is no answer
abbrev pub told_by : Happening → Reply → Option ℕ
told_by (Begins process begin) reply = if is_step reply then Some process else None
told_by (Steps process access) reply = if is_step reply then Some process else None
told_by (TakesEntry process) reply = if is_step reply then Some process else None
told_by what reply = None

-- a process, and what is said of it
abbrev pub told : ℕ → List ℕ → List ℕ
told process text = decimal process ++ (codes " " ++ text)

-- the text of a step of the process: these points that its call reaches by it; where there are none, what it is in its lane
abbrev pub IsStepTold : Trace → List Passage → ℕ → TraceRow → List ℕ → ℕ → List ℕ → Type 0
IsStepTold trace passages event row text process [] =
    (lane : List ℕ) × IsRowText trace event (place_touched passages (event + 1) row.what) row lane × (text ≡ told process lane)
IsStepTold trace passages event row text process (letter ∷ names) = text ≡ told process (letter ∷ names)

-- the text of an event that is no crash, by the process that it names first
abbrev pub IsTold : Trace → List Passage → ℕ → TraceRow → List ℕ → Option ℕ → Type 0
IsTold trace passages event row text (Some process) = IsStepTold trace passages event row text process (points_text row (course process trace.rows.items event))
IsTold trace passages event row text None = IsRowText trace event None row text

-- the text of an event, by what happened: that of a crash says what it takes back
abbrev pub IsTextOf : Trace → List Passage → ℕ → TraceRow → List ℕ → Happening → Type 0
IsTextOf trace passages event row text Crashes = text ≡ crash_text trace event
IsTextOf trace passages event row text what = IsTold trace passages event row text (told_by what row.reply)

-- the row is that of the event with its number, which has this row in the recording: its sign, its text, and its number from 1
pub record IsRowBy (trace : Trace) (passages : List Passage) (row : BriefRow) (of : TraceRow) : Type 0 where
  pub sign : row.sign ≡ sign_by of.what of.reply
  pub text : IsTextOf trace passages row.event of row.text.items of.what
  pub title : string_bytes row.title ≡ codes "event " ++ decimal (row.event + 1)

-- the same, by the number of the event
abbrev pub IsRowOf : Trace → List Passage → BriefRow → Type 0
IsRowOf trace passages row = IsSomeAnd (slice_get trace.rows.items row.event) (IsRowBy trace passages row)

-- the event of a row
abbrev pub event_of : BriefRow → ℕ
event_of row = row.event

-- ---- the columns

-- both sides of the word with this number after each of these events
abbrev pub words_after : Trace → ℕ → List ℕ → List Word
words_after trace number events = map (word_after trace number) events

-- the column is that of the word with its number: it has its name, and both sides of it after each of the events
pub record IsColumnOf (trace : Trace) (events : List ℕ) (column : BriefColumn) : Type 0 where
  pub place_is : column.place ≡ place_at trace column.number
  pub name_is : string_bytes column.name ≡ name_of trace.layout column.place
  pub words_are : column.words.items ≡ words_after trace column.number events

-- the number of a column's word
abbrev pub number_of : BriefColumn → ℕ
number_of column = column.number

-- how wide a column is
abbrev pub width_of : BriefColumn → ℕ
width_of column = column.width

-- this many of the columns, from the first on, stand side by side in the room; one more would not
pub record Fit (room : ℕ) (columns : List BriefColumn) (count used : ℕ) : Type 0 where
  pub there : count ≤ length columns
  pub used_is : used ≡ sum (map width_of (take count columns))
  pub within : used ≤ room
  pub no_more : count < length columns → room < sum (map width_of (take (count + 1) columns))

-- ---- the scene

-- the scene is that of the recording: a row for each event that is kept, in their order, which says of a write-back what that
-- takes out of the buffer; columns for the words that decide, from the first on, as many as the width has room for; and how
-- many of them have none
pub record IsBriefOf (trace : Trace) (brief : Brief) : Type 0 where
  pub rows_are : map event_of brief.rows.items ≡ kept trace
  pub passages : List Passage
  pub passages_are : ArePassages trace.rows.items passages
  pub events_are : All (IsRowOf trace passages) brief.rows.items
  pub all : List BriefColumn
  pub all_are : All (IsColumnOf trace (kept trace)) all
  pub numbers_are : map number_of all ≡ deciding trace
  pub count : ℕ
  pub used : ℕ
  pub shown : brief.columns.items ≡ take count all
  pub hidden_is : count + brief.hidden ≡ length all
  pub words_within : brief.words ≤ WIDTH_MOST
  pub fit : Fit (WIDTH_MOST - brief.words) all count used
  pub width_is : brief.width ≡ brief.words + used
