use Rattle.std.proofs.Common.{◌<◌, refl, subst}
use Rattle.ds_layout.specs.declared.layout.Layout.{Layout}
use Rattle.ds_state.specs.Value.{IsGood, WorldValue}
use Rattle.ds_explore_state.proofs.EmptyBuffers.{all_known, buffers_push}
use Rattle.ds_explore_state.proofs.position.Position.new.Goals as goal

pub loop-process-preserved : goal.loop-process-preserved
loop-process-preserved c = λ none.
    let low : c.loop-process.process < c.args.world.sheet.layout.processes =
    subst (λ (w : WorldValue). c.loop-process.process < w.sheet.layout.processes) c.world.view_is (subst (λ (l : Layout). c.loop-process.process < l.processes) c.layout-process-end.ensures c.loop-process-test.true) in
    buffers_push c.loop-process.seats.items c.push.new.self.items c.in_ok-seat.seat (c.loop-process.invariant none) (c.in_ok-seat.ensures (c.in_ok-entries.ensures (none.empty c.loop-process.process low))) c.in_ok-push.ensures.items

pub returns-clause-known : goal.returns-clause-known
returns-clause-known c =
    all_known (record { world = c.args.world; seats = c.loop-process.seats }) c.args.world c.loop-process.seats.items (subst (λ (w : WorldValue). IsGood w) c.world.view_is c.world.invariant.good) refl refl c.loop-process.invariant
