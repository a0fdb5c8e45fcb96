use Rattle.ds_explore.proofs.Ways.{way_none}
use Rattle.ds_explore.proofs.met.Meeting.on_way.Goals as goal

pub loop-by-init : goal.loop-by-init
loop-by-init c = c.in_ok-pass.ensures (way_none c.args.self.now.start.now c.args.self.now.states.now c.in_ok-marks.marks.items _ c.in_ok-position.position (c.in_ok-marks.ensures.items_if_clones_equal (λ y is. is)) c.in_ok-position.ensures.world c.in_ok-position.ensures.seats)

pub loop-by-preserved : goal.loop-by-preserved
loop-by-preserved c = c.in_ok-pass_on.ensures c.loop-by.invariant

pub returns : goal.returns
returns c = (c.loop-by.position, c.loop-by.invariant)
