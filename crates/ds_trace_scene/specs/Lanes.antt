-- What stands in the lanes of processes.
use Rattle.std.specs.Prelude.{ℕ, zero, suc, ◌+◌, ◌≡◌, Bool, false, List, [], ◌∷◌, ◌++◌, IsSomeAnd, map, length, slice_get, slice_index_or, string_bytes, if◌then◌else◌}
use Rattle.std.specs.List.{AllZip}
use Rattle.ds_trace.specs.declared.row.TraceRow.{TraceRow}
use Rattle.ds_trace.specs.declared.row.Trace.{Trace}
use Rattle.ds_trace_scene.specs.Points.{course, points_text}
use Rattle.ds_trace_scene.specs.Rows.{is_in_lane, style_by}
use Rattle.ds_trace_scene.specs.Texts.{IsRowText, place_touched}
use Rattle.ds_trace_scene.specs.declared.columns.Passage.{Passage}
use Rattle.ds_trace_scene.specs.declared.lanes.LaneEntry.{LaneEntry}

-- the entry is that of the event with this number, of this row: how it stands, what it is, the word that it touches, and
-- which points the call of the process reaches by it
pub record IsEntryBy (trace : Trace) (passages : List Passage) (process event : ℕ) (entry : LaneEntry) (row : TraceRow) : Type 0 where
  pub line : entry.line ≡ event + 1
  pub style : entry.style ≡ style_by row.what row.reply
  pub place : entry.place ≡ place_touched passages (event + 1) row.what
  pub text : IsRowText trace event entry.place row entry.text.items
  pub points : string_bytes entry.points ≡ points_text row (course process trace.rows.items event)

-- the same, by the number of the event
abbrev pub IsEntryOf : Trace → List Passage → ℕ → ℕ → LaneEntry → Type 0
IsEntryOf trace passages process event entry = IsSomeAnd (slice_get trace.rows.items event) (IsEntryBy trace passages process event entry)

-- the event with this number is one of the process's lane
abbrev pub is_lane_event : ℕ → List TraceRow → ℕ → Bool
is_lane_event process rows event = slice_index_or (map (λ (row : TraceRow). is_in_lane process row.what row.reply) rows) event false

-- those of the first events, this many, that are of the process's lane, in their order
abbrev pub lane_below : ℕ → List TraceRow → ℕ → List ℕ
lane_below process rows zero = []
lane_below process rows (suc event) = if is_lane_event process rows event then lane_below process rows event ++ event ∷ [] else lane_below process rows event

-- the entries are those of the events of the process's lane, in their order
abbrev pub AreEntries : Trace → List Passage → ℕ → List LaneEntry → Type 0
AreEntries trace passages process entries = AllZip (IsEntryOf trace passages process) (lane_below process trace.rows.items (length trace.rows.items)) entries
