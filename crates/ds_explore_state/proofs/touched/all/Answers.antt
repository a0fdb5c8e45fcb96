use Rattle.ds_explore_state.proofs.Parts.{places_more}
use Rattle.ds_explore_state.proofs.touched.all.Goals as goal

pub loop-number-preserved : goal.loop-number-preserved
loop-number-preserved c =
    places_more c.args.groups.now c.loop-number.number c.index-groups-number.result c.deref.result.now c.loop-number.places.items c.extend_from_slice.new.self.items c.loop-number-test.true c.index-groups-number.is c.deref.ensures.value c.loop-number.invariant
    c.in_ok-extend_from_slice.ensures.items
