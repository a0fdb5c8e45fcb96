-- The entries of a lane, event by event.
use Rattle.std.proofs.Common.{ℕ, suc, ◌≡◌, ◌<◌, ◌+◌, ◌∙◌, Bool, true, false, List, [], ◌∷◌, ◌++◌, get_or, length, sym, ap, subst, arith}
use Rattle.std.specs.Prelude.{Option, if◌then◌else◌}
use Rattle.std.specs.List.{AllZip}
use Rattle.std.proofs.lemmas.List.{get_or-map}
use Rattle.ds_trace.specs.declared.row.TraceRow.{TraceRow}
use Rattle.ds_trace.specs.declared.row.Trace.{Trace}
use Rattle.ds_trace_scene.specs.Lanes.{IsEntryOf, is_lane_event, lane_below}
use Rattle.ds_trace_scene.specs.Points.{course, course_by, course_on}
use Rattle.ds_trace_scene.specs.Rows.{is_in_lane}
use Rattle.ds_trace_scene.specs.declared.columns.Passage.{Passage}
use Rattle.ds_trace_scene.specs.declared.lanes.LaneEntry.{LaneEntry}
use Rattle.ds_trace_scene.specs.declared.points.Course.{Course}
use Rattle.ds_trace_scene.proofs.Numbered.{zip_push}
use Rattle.ds_trace_scene.proofs.Spans.{row_there}

-- the course with one event more
pub course_more : (process : ℕ) (rows : List TraceRow) (event : ℕ) (row : TraceRow) (before now : Course) → event < length rows → row ≡ get_or rows event row → before ≡ course process rows event
    → now ≡ course_by process row before → now ≡ course process rows (event + 1)
course_more process rows event row before now lt is was h =
    let line : suc event ≡ event + 1 = omega arith in
    subst (λ (n : ℕ). now ≡ course process rows n) line
    (h ∙ ap (λ (c : Course). course_by process row c) was
    ∙ ap (λ (o : Option TraceRow). course_on process o (course process rows event)) (sym (row_there rows event row lt is)))

-- whether the event is one of the lane, by its row
of_lane : (process : ℕ) (rows : List TraceRow) (event : ℕ) (row : TraceRow) (of : Bool) → event < length rows → row ≡ get_or rows event row → of ≡ is_in_lane process row.what row.reply → is_lane_event process rows event ≡ of
of_lane process rows event row of lt is h =
    get_or-map (λ (r : TraceRow). is_in_lane process r.what r.reply) rows event row false lt ∙ ap (λ (r : TraceRow). is_in_lane process r.what r.reply) (sym is) ∙ sym h

module _ (trace : Trace) (passages : List Passage) (process event : ℕ) (row : TraceRow) (entries : List LaneEntry) where
  -- one entry more, of the next event
  pub entries_more : (entry : LaneEntry) (of : Bool) → event < length trace.rows.items → row ≡ get_or trace.rows.items event row → of ≡ is_in_lane process row.what row.reply → of ≡ true
      → AllZip (IsEntryOf trace passages process) (lane_below process trace.rows.items event) entries → IsEntryOf trace passages process event entry
      → AllZip (IsEntryOf trace passages process) (lane_below process trace.rows.items (event + 1)) (entries ++ entry ∷ [])
  entries_more entry of lt is by true_so h more =
      let line : suc event ≡ event + 1 = omega arith in
      let rows = trace.rows.items in
      let lane : List ℕ = lane_below process rows event in
      let there : is_lane_event process rows event ≡ true = of_lane process rows event row of lt is by ∙ true_so in
      subst (λ (n : ℕ). AllZip (IsEntryOf trace passages process) (lane_below process rows n) (entries ++ entry ∷ [])) line
      (subst (λ (b : Bool). AllZip (IsEntryOf trace passages process) (if b then lane ++ event ∷ [] else lane) (entries ++ entry ∷ [])) (sym there)
      (zip_push (IsEntryOf trace passages process) lane entries event entry h more))

  -- none more, where the next event is not one of the lane
  pub entries_same : (of : Bool) → event < length trace.rows.items → row ≡ get_or trace.rows.items event row → of ≡ is_in_lane process row.what row.reply → of ≡ false
      → AllZip (IsEntryOf trace passages process) (lane_below process trace.rows.items event) entries
      → AllZip (IsEntryOf trace passages process) (lane_below process trace.rows.items (event + 1)) entries
  entries_same of lt is by false_so h =
      let line : suc event ≡ event + 1 = omega arith in
      let rows = trace.rows.items in
      let lane : List ℕ = lane_below process rows event in
      let there : is_lane_event process rows event ≡ false = of_lane process rows event row of lt is by ∙ false_so in
      subst (λ (n : ℕ). AllZip (IsEntryOf trace passages process) (lane_below process rows n) entries) line
      (subst (λ (b : Bool). AllZip (IsEntryOf trace passages process) (if b then lane ++ event ∷ [] else lane) entries) (sym there) h)
