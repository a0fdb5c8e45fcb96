-- The buffer entries of a recording: from their flushes to their ends.
use Rattle.std.specs.Prelude.{ℕ, zero, suc, ◌≡◌, ◌==◌, ◌&&◌, ◌+◌, ◌<◌, ◌≤◌, ◌⊎◌, Bool, true, false, List, [], ◌∷◌, ◌++◌, Option, Some, None, All, Contains, map, length, slice_index_or, if◌then◌else◌}
use Rattle.ds_words.specs.declared.access.Access.TheVariants as access
use Rattle.ds_core.specs.declared.reply.Reply.{Reply}
use Rattle.ds_core.specs.declared.reply.Reply.TheVariants as replies
use Rattle.ds_trace.specs.declared.row.Happening.{Happening}
use Rattle.ds_trace.specs.declared.row.Happening.TheVariants as happenings
use Rattle.ds_trace.specs.declared.row.TraceRow.{TraceRow}
use Rattle.ds_trace_scene.specs.declared.buffers.Deed.{Deed}
use Rattle.ds_trace_scene.specs.declared.buffers.Deed.TheVariants.{Flushes, WritesBack, Loses, LosesAll, Leaves}
use Rattle.ds_trace_scene.specs.declared.columns.Passage.{Passage}
use Rattle.ds_trace_scene.specs.declared.columns.PassageEnd.{PassageEnd}
use Rattle.ds_trace_scene.specs.declared.columns.PassageEnd.TheVariants.{WrittenBack, Lost, Buffered}

-- ---- what events do to buffers

-- what an event does to buffers, by what happened and what that was answered
abbrev pub deed_by : Happening → Reply → Deed
deed_by (happenings.Steps process (access.Flush place)) replies.Stepped = Flushes process place
deed_by (happenings.Steps process access.Back) replies.Stepped = WritesBack process
deed_by (happenings.Stops process) replies.Stopped = Loses process
deed_by happenings.Crashes reply = LosesAll
deed_by what reply = Leaves

-- what the event with this number does to them, counted from 0
abbrev pub deed_at : List TraceRow → ℕ → Deed
deed_at rows event = slice_index_or (map (λ (row : TraceRow). deed_by row.what row.reply) rows) event Leaves

-- all entries but the oldest one
abbrev pub without_oldest : List ℕ → List ℕ
without_oldest [] = []
without_oldest (oldest ∷ rest) = rest

-- the process's buffer after this was done by the event of a line: an entry that comes into it is the newest
abbrev pub changed : ℕ → Deed → ℕ → List ℕ → List ℕ
changed process (Flushes by place) line buffer = if by == process then buffer ++ line ∷ [] else buffer
changed process (WritesBack by) line buffer = if by == process then without_oldest buffer else buffer
changed process (Loses by) line buffer = if by == process then [] else buffer
changed process LosesAll line buffer = []
changed process Leaves line buffer = buffer

-- what is in the process's buffer after the first events, this many: the lines of the flushes of its entries, oldest first
abbrev pub buffer_after : ℕ → List TraceRow → ℕ → List ℕ
buffer_after process rows zero = []
buffer_after process rows (suc event) = changed process (deed_at rows event) (suc event) (buffer_after process rows event)

-- ---- the entries

-- the entry came into its process's buffer by the flush of its word at its first line
abbrev pub IsFlushed : List TraceRow → Passage → Type 0
IsFlushed rows entry = (event : ℕ) × (entry.from ≡ suc event) × (deed_at rows event ≡ Flushes entry.process entry.place)

-- from there on it is in the buffer, up to before the event of this line
abbrev pub StaysTo : List TraceRow → Passage → ℕ → Type 0
StaysTo rows entry line = (event : ℕ) → entry.from ≤ event → event < line → Contains (buffer_after entry.process rows event) entry.from

-- the entry of the process's buffer that was flushed at the one line ends so at the other one: a write-back takes it, which is
-- the oldest then; a stop or a crash loses it; or it is there after all events
abbrev pub EndsSo : List TraceRow → ℕ → ℕ → ℕ → PassageEnd → Type 0
EndsSo rows process from to WrittenBack = (event : ℕ) × (to ≡ suc event) × (deed_at rows event ≡ WritesBack process) × ((rest : List ℕ) × (buffer_after process rows event ≡ from ∷ rest))
EndsSo rows process from to Lost = (event : ℕ) × (to ≡ suc event) × ((deed_at rows event ≡ Loses process) ⊎ (deed_at rows event ≡ LosesAll))
EndsSo rows process from to Buffered = to ≡ length rows + 1

-- the entry is one of a process's buffer, from its flush to its end
pub record IsPassage (rows : List TraceRow) (entry : Passage) : Type 0 where
  pub flushed : IsFlushed rows entry
  pub stays : StaysTo rows entry entry.to
  pub ends : EndsSo rows entry.process entry.from entry.to entry.end

-- the event is a flush
abbrev pub is_flush : Deed → Bool
is_flush (Flushes process place) = true
is_flush deed = false

-- the lines of the flushes among the first events, this many
abbrev pub flushes_below : List TraceRow → ℕ → List ℕ
flushes_below rows zero = []
flushes_below rows (suc event) = if is_flush (deed_at rows event) then flushes_below rows event ++ suc event ∷ [] else flushes_below rows event

-- the line of an entry's flush
abbrev pub flushed_at : Passage → ℕ
flushed_at entry = entry.from

-- these are the entries of all flushes, in their order
pub record ArePassages (rows : List TraceRow) (entries : List Passage) : Type 0 where
  pub each : All (IsPassage rows) entries
  pub all : map flushed_at entries ≡ flushes_below rows (length rows)

-- ---- the entries so far, event by event

-- the entry has not ended
abbrev pub is_buffered : PassageEnd → Bool
is_buffered WrittenBack = false
is_buffered Lost = false
is_buffered Buffered = true

-- the entry is in the process's buffer
abbrev pub is_open : ℕ → Passage → Bool
is_open process entry = is_buffered entry.end && (entry.process == process)

-- the entry ends so at the line
abbrev pub ended : PassageEnd → ℕ → Passage → Passage
ended end line entry = record { process = entry.process; place = entry.place; from = entry.from; to = line; end = end }

-- the oldest of these that is in the process's buffer is written back
abbrev pub written : ℕ → ℕ → List Passage → List Passage
written process line [] = []
written process line (entry ∷ entries) = if is_open process entry then ended WrittenBack line entry ∷ entries else entry ∷ written process line entries

-- the process is this one, or any one
abbrev pub is_meant : Option ℕ → ℕ → Bool
is_meant None process = true
is_meant (Some by) process = by == process

-- the entry is lost, if it is in the buffer of the process, or of any one
abbrev pub lost : Option ℕ → ℕ → Passage → Passage
lost by line entry = if is_buffered entry.end && is_meant by entry.process then ended Lost line entry else entry

-- the entries after this was done by the event of a line; one that does not end has this one as its last line
abbrev pub entries_after : Deed → ℕ → ℕ → List Passage → List Passage
entries_after (Flushes process place) line last entries = entries ++ record { process = process; place = place; from = line; to = last; end = Buffered } ∷ []
entries_after (WritesBack process) line last entries = written process line entries
entries_after (Loses process) line last entries = map (lost (Some process) line) entries
entries_after LosesAll line last entries = map (lost None line) entries
entries_after Leaves line last entries = entries
