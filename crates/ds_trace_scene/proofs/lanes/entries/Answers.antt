use Rattle.std.proofs.Common.{◌<◌, ◌+◌, ◌∙◌, List, ap, arith, length, subst, sym}
use Rattle.std.specs.Global.{Vec}
use Rattle.std.specs.List.{AllZip}
use Rattle.ds_trace_scene.specs.Lanes.{IsEntryOf, lane_below}
use Rattle.ds_trace_scene.specs.declared.lanes.LaneEntry.{LaneEntry}
use Rattle.ds_trace_scene.proofs.Laned.{course_more, entries_more, entries_same}
use Rattle.ds_trace_scene.proofs.lanes.entries.Goals.{then-is_of+in_ok-entry_of+in_ok-push, else-is_of}
use Rattle.ds_trace_scene.proofs.lanes.entries.Goals as goal

pub loop-event-preserved : goal.loop-event-preserved
loop-event-preserved c =
    let trace = c.args.trace.now in
    let passages = c.args.passages.now in
    let event = c.loop-event.event in
    let row = c.index-row.result.now in
    let len = c.len-event-end.ensures in
    let test = c.loop-event-test.true in
    let low : event < length trace.rows.items = omega (arith, len, test) in
    let Are : List LaneEntry → Type 0 = λ (l : List LaneEntry). AllZip (IsEntryOf trace passages c.args.process) (lane_below c.args.process trace.rows.items (event + 1)) l in
    record {
      entries = elim c.if-is_of.branch [
        | then-is_of+in_ok-entry_of+in_ok-push w ↦
            subst Are (sym (ap (λ (v : Vec LaneEntry). v.items) w.entries-is ∙ w.in_ok-push.ensures.items))
            (entries_more trace passages c.args.process event row c.loop-event.entries.items w.in_ok-entry_of.field-0 c.is_of.result low c.index-row.ensures c.is_of.ensures w.if-is_of.true c.loop-event.invariant.entries
            (w.in_ok-entry_of.ensures c.args.process c.loop-event.invariant.course))
        | else-is_of w ↦
            subst Are (sym (ap (λ (v : Vec LaneEntry). v.items) w.entries-is))
            (entries_same trace passages c.args.process event row c.loop-event.entries.items c.is_of.result low c.index-row.ensures c.is_of.ensures w.if-is_of.false c.loop-event.invariant.entries)
      ];
      course = course_more c.args.process trace.rows.items event row c.loop-event.course c.course_by-course.result low c.index-row.ensures c.loop-event.invariant.course c.course_by-course.ensures;
    }
