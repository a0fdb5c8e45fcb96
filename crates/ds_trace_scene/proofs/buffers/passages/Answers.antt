use Rattle.std.proofs.Common.{◌≡◌, ◌<◌, ◌+◌, arith, length}
use Rattle.ds_trace_scene.proofs.Buffered.{going_all, going_more, going_none}
use Rattle.ds_trace_scene.proofs.buffers.passages.Goals as goal

pub loop-event-init : goal.loop-event-init
loop-event-init c = going_none c.args.trace.now.rows.items _ c.new-entries.result.items c.new-entries.ensures.items

pub loop-event-preserved : goal.loop-event-preserved
loop-event-preserved c =
    let rows = c.args.trace.now.rows.items in
    let len = c.len-event-end.ensures in
    let test = c.loop-event-test.true in
    let low : c.loop-event.event < length rows = omega (arith, len, test) in
    going_more rows c.loop-event.event (c.len-last.result + 1) c.index-row.result.now c.deed_of.result c.loop-event.entries.items c.go_on.new.entries.items low c.index-row.ensures c.deed_of.ensures c.loop-event.invariant (c.in_ok-go_on.ensures)

pub returns : goal.returns
returns c =
    let rows = c.args.trace.now.rows.items in
    let len = c.len-event-end.ensures in
    let len_last = c.len-last.ensures in
    let test = c.loop-event-test.false in
    let end = c.loop-event.auto.event-end in
    let past : c.loop-event.event ≡ length rows = omega (arith, len, test, end) in
    let last : c.len-last.result + 1 ≡ length rows + 1 = omega (arith, len_last) in
    going_all rows c.loop-event.event (c.len-last.result + 1) c.loop-event.entries.items past last c.loop-event.invariant
