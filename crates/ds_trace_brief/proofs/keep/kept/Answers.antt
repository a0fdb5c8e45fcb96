use Rattle.std.proofs.Common.{ℕ, ◌≡◌, ◌∙◌, length, ap, arith}
use Rattle.ds_trace_brief.specs.Keeping.{kept, kept_below}
use Rattle.ds_trace_brief.proofs.Kept.{kept_within, turning_in}
use Rattle.ds_trace_brief.proofs.Steps.{kept_more}
use Rattle.ds_trace_brief.proofs.keep.kept.Goals as goal

pub loop-event-preserved : goal.loop-event-preserved
loop-event-preserved c =
    kept_more c.args.trace.now c.loop-event.event c.keeps.result c.loop-event.events.items c.add_if.new.numbers.items c.loop-event.invariant c.keeps.ensures c.in_ok-add_if.ensures

pub returns : goal.returns
returns c =
    let test = c.loop-event-test.false in
    let end = c.loop-event.auto.event-end in
    let len = c.len-event-end.ensures in
    let all : c.loop-event.event ≡ length c.args.trace.now.rows.items = omega (arith, test, end, len) in
    let is : c.loop-event.events.items ≡ kept c.args.trace.now = c.loop-event.invariant ∙ ap (λ (n : ℕ). kept_below c.args.trace.now n) all in
    record {
      events = is;
      within = kept_within c.args.trace.now c.loop-event.events.items is;
      none_left_out = λ number event there lt h. turning_in c.args.trace.now c.loop-event.events.items number event is lt there h;
    }
