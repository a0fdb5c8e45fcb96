use Rattle.ds_trace.proofs.play.settle.Goals as goal

pub play_on-requires : goal.play_on-requires
play_on-requires c = c.left_of-left.ensures.within c.args.world.now c.first_turn.ensures.inside
