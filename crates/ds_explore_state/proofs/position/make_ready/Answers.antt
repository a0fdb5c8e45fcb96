use Rattle.ds_explore_state.proofs.Happening.{ready_by}
use Rattle.ds_explore_state.proofs.position.make_ready.Goals as goal

pub returns : goal.returns
returns c = ready_by c.offer_own-offered.result c.args.world.now c.offer_own-offered.new.world c.args.process c.offer_own-offered.ensures.offered c.offer_own-offered.ensures.unchanged c.offer_own-offered.ensures.none
