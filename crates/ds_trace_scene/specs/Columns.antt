-- The words of a recording, line by line.
use Rattle.std.specs.Prelude.{ℕ, zero, suc, ◌≡◌, ◌≢◌, ◌<◌, ◌≤◌, ◌↔◌, List, [], ◌∷◌, true, map, length, ◌+◌, slice_get, slice_index_or, IsSomeAnd, All, AllPairs, Any, Contains}
use Rattle.std.specs.List.{AllZip}
use Rattle.ds_core.specs.declared.reply.Reply.TheVariants.{Crashed}
use Rattle.ds_words.specs.declared.words.Word.{Word}
use Rattle.ds_layout.specs.declared.place.Place.TheVariants.{Version}
use Rattle.ds_trace.specs.declared.row.TraceRow.{TraceRow}
use Rattle.ds_trace.specs.declared.row.Trace.{Trace}
use Rattle.ds_trace_scene.specs.declared.columns.Side.{Side}
use Rattle.ds_trace_scene.specs.declared.columns.Side.TheVariants.{Cached, Persisted}
use Rattle.ds_trace_scene.specs.declared.columns.Span.{Span}
use Rattle.ds_trace_scene.specs.declared.columns.Column.{Column}

-- where there is no such word: zero on both sides
abbrev pub no_word : Word
no_word = record { cached = 0; persisted = 0 }

-- both sides of the word with this number, as the row has them
abbrev pub word_in : ℕ → TraceRow → Word
word_in number row = slice_index_or row.words.items number no_word

-- both sides of the word with this number in the new sheet
abbrev pub first_in : Trace → ℕ → Word
first_in trace number = slice_index_or trace.start.items number no_word

-- both sides of the word with this number after the event, counted from 0
abbrev pub word_after : Trace → ℕ → ℕ → Word
word_after trace number event = slice_index_or (map (word_in number) trace.rows.items) event no_word

-- both sides of the word with this number before the event: those after the one before it, or those in the new sheet
abbrev pub word_before : Trace → ℕ → ℕ → Word
word_before trace number zero = first_in trace number
word_before trace number (suc event) = word_after trace number event

-- a side of a word
abbrev pub side_of : Side → Word → ℕ
side_of Cached word = word.cached
side_of Persisted word = word.persisted

-- what the side of the word with this number, which was this one first, is at a line: what it was before all events, at
-- line 0; else what it is after the event of the line
abbrev pub side_at : Word → List TraceRow → ℕ → Side → ℕ → ℕ
side_at first rows number side zero = side_of side first
side_at first rows number side (suc event) = side_of side (slice_index_or (map (word_in number) rows) event no_word)

-- the event of the line was answered as a crash is
abbrev pub CrashesAt : List TraceRow → ℕ → Type 0
CrashesAt rows zero = ⊥
CrashesAt rows (suc event) = IsSomeAnd (slice_get rows event) (λ row. row.reply ≡ Crashed)

-- from the first line of the span up to the last the side is its number; at the last line, unless that is after all events, it
-- is another one; and the span is lost just where a crash ends it
pub record IsTrueSpan (first : Word) (rows : List TraceRow) (number : ℕ) (side : Side) (span : Span) : Type 0 where
  pub each : (line : ℕ) → span.from ≤ line → line < span.to → side_at first rows number side line ≡ span.word
  pub within : span.to ≤ length rows + 1
  pub ends : span.to ≤ length rows → side_at first rows number side span.to ≢ span.word
  pub lost : (span.is_lost ≡ true) ↔ CrashesAt rows span.to

-- the spans follow each other from this line to that one, without a gap
abbrev pub Follow : ℕ → List Span → ℕ → Type 0
Follow from [] to = from ≡ to
Follow from (span ∷ spans) to = (span.from ≡ from) × (span.from < span.to) × Follow span.to spans to

-- the spans say what the side of the word is at each line, from the first to the last
pub record AreSpans (first : Word) (rows : List TraceRow) (number : ℕ) (side : Side) (spans : List Span) : Type 0 where
  pub each : All (IsTrueSpan first rows number side) spans
  pub whole : Follow 0 spans (length rows + 1)

-- the column is that of the word with this number: its place, and what its sides are at each line
pub record IsColumnOf (trace : Trace) (number : ℕ) (column : Column) : Type 0 where
  pub place : slice_index_or trace.places.items number Version ≡ column.place
  pub cached : AreSpans (first_in trace number) trace.rows.items number Cached column.cached.items
  pub persisted : AreSpans (first_in trace number) trace.rows.items number Persisted column.persisted.items

-- the word with this number is another one after some event than before all of them
abbrev pub Changes : Trace → ℕ → Type 0
Changes trace number = Any (λ row. word_in number row ≢ first_in trace number) trace.rows.items

-- the columns are those of the words, among the first ones of the recording, that change; in the order of the words
pub record AreColumns (trace : Trace) (words : ℕ) (columns : List Column) : Type 0 where
  pub numbers : List ℕ
  pub in_order : AllPairs (λ number later. number < later) numbers
  pub each : (number : ℕ) → Contains numbers number ↔ ((number < words) × Changes trace number)
  pub are : AllZip (IsColumnOf trace) numbers columns
