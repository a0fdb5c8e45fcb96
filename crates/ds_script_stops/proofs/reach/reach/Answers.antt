use Rattle.ds_script_stops.proofs.reach.reach.Goals as goal

pub go_on-requires-clause-within : goal.go_on-requires-clause-within
go_on-requires-clause-within c = c.first.ensures.within c.args.world.now

pub returns-in-Ok : goal.returns-in-Ok
returns-in-Ok c = (c.in-Ok.ensures.stands c.args.script.now (c.first.ensures.at c.args.whole c.args.world.now c.requires.made)).0

pub returns-in-Err : goal.returns-in-Err
returns-in-Err c = c.in-Err.ensures.falls c.args.script.now (c.first.ensures.at c.args.whole c.args.world.now c.requires.made)
