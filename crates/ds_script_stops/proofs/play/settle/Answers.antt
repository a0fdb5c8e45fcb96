use Rattle.ds_script_stops.proofs.play.settle.Goals as goal

pub returns-clause-within : goal.returns-clause-within
returns-clause-within c = c.left_of.ensures.within c.args.world.now c.first_turn.ensures.inside
