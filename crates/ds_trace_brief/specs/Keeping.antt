-- Which events a brief picture keeps, and which words it shows.
use Rattle.std.specs.Prelude.{ℕ, zero, suc, ◌==◌, ◌||◌, ◌&&◌, not, Bool, true, false, List, [], ◌∷◌, ◌++◌, map, length, slice_index_or, if◌then◌else◌}
use Rattle.ds_words.specs.declared.words.Word.{Word}
use Rattle.ds_core.specs.declared.reply.Reply.{Reply}
use Rattle.ds_core.specs.declared.reply.Reply.TheVariants as replies
use Rattle.ds_layout.specs.declared.place.Place.{Place}
use Rattle.ds_layout.specs.declared.place.Place.TheVariants as place
use Rattle.ds_trace.specs.declared.row.Happening.{Happening}
use Rattle.ds_trace.specs.declared.row.Happening.TheVariants.{Begins, Steps, TakesEntry, Evicts, Stops, Crashes}
use Rattle.ds_trace.specs.declared.row.TraceRow.{TraceRow}
use Rattle.ds_trace.specs.declared.row.Trace.{Trace}
use Rattle.ds_trace_scene.specs.Columns.{word_after, word_before}
use Rattle.ds_trace_brief.specs.declared.keep.Decider.{Decider}
use Rattle.ds_trace_brief.specs.declared.keep.Decider.TheVariants as deciders

-- ---- the words, event by event

-- the place of the word with this number
abbrev pub place_at : Trace → ℕ → Place
place_at trace number = slice_index_or trace.places.items number place.Version

-- the word turns from the one to the other: a head by either side, since an edit takes effect on the cached one; an
-- announcement and a mark by what a crash leaves; other words decide nothing
abbrev pub turns : Place → Word → Word → Bool
turns place.Version old new = false
turns (place.Head cell) old new = not (old.cached == new.cached) || not (old.persisted == new.persisted)
turns (place.Mark cell) old new = not (old.persisted == new.persisted)
turns (place.Value cell) old new = false
turns (place.Kind cell) old new = false
turns (place.Index row part) old new = false
turns (place.Announce process) old new = not (old.persisted == new.persisted)
turns (place.Header process number) old new = false
turns (place.Text edition process number part) old new = false
turns (place.Done process part) old new = false

-- the word with this number turns by the event, counted from 0
abbrev pub turns_at : Trace → ℕ → ℕ → Bool
turns_at trace number event = turns (place_at trace number) (word_before trace number event) (word_after trace number event)

-- ---- the events that are kept

-- the reply says that a call goes on
abbrev pub goes_on : Reply → Bool
goes_on (replies.Begun number) = false
goes_on replies.Entered = false
goes_on (replies.Refused why) = false
goes_on replies.Stepped = true
goes_on (replies.Answered answer) = false
goes_on replies.WrongTask = false
goes_on replies.Evicted = false
goes_on replies.Stopped = false
goes_on replies.Crashed = false
goes_on replies.NotEnabled = false

-- what happened is more than a step within a call, an entry that a work takes, or an eviction: a begin, an answer, a
-- refusal, a stop or a crash
abbrev pub is_ending : Happening → Reply → Bool
is_ending (Begins process begin) reply = true
is_ending (Steps process access) reply = not (goes_on reply)
is_ending (TakesEntry process) reply = false
is_ending (Evicts place) reply = false
is_ending (Stops process) reply = true
is_ending Crashes reply = true

-- one of the first words, this many, turns by the event
abbrev pub turns_below : Trace → ℕ → ℕ → Bool
turns_below trace event zero = false
turns_below trace event (suc number) = turns_below trace event number || turns_at trace number event

-- the event is more than a step
abbrev pub ends_at : Trace → ℕ → Bool
ends_at trace event = slice_index_or (map (λ (row : TraceRow). is_ending row.what row.reply) trace.rows.items) event false

-- the event is kept: it is more than a step, or a word that decides turns by it
abbrev pub keeps : Trace → ℕ → Bool
keeps trace event = ends_at trace event || turns_below trace event (length trace.places.items)

-- those of the first events, this many, that are kept, in their order
abbrev pub kept_below : Trace → ℕ → List ℕ
kept_below trace zero = []
kept_below trace (suc event) = if keeps trace event then kept_below trace event ++ event ∷ [] else kept_below trace event

-- the events that are kept
abbrev pub kept : Trace → List ℕ
kept trace = kept_below trace (length trace.rows.items)

-- ---- the words that are shown

-- the word of the place is of this sort
abbrev pub is_of : Decider → Place → Bool
is_of deciders.Head (place.Head cell) = true
is_of deciders.Announcement (place.Announce process) = true
is_of deciders.Mark (place.Mark cell) = true
is_of sort _ = false

-- the word with this number turns by one of the first events, this many
abbrev pub has_turned : Trace → ℕ → ℕ → Bool
has_turned trace number zero = false
has_turned trace number (suc event) = has_turned trace number event || turns_at trace number event

-- those of the first words, this many, that are of the sort, and turn in the run, in their order
abbrev pub sorted_below : Decider → Trace → ℕ → List ℕ
sorted_below sort trace zero = []
sorted_below sort trace (suc number) =
    if is_of sort (place_at trace number) && has_turned trace number (length trace.rows.items)
    then sorted_below sort trace number ++ number ∷ [] else sorted_below sort trace number

-- the words that decide, by their numbers: the heads that turn in the run, then such announcements, then such marks
abbrev pub deciding : Trace → List ℕ
deciding trace =
    (sorted_below deciders.Head trace (length trace.places.items)
    ++ sorted_below deciders.Announcement trace (length trace.places.items))
    ++ sorted_below deciders.Mark trace (length trace.places.items)
