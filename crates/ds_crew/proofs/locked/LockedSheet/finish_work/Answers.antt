use Rattle.ds_crew.proofs.Trails.{work_ends_after}
use Rattle.ds_crew.proofs.locked.LockedSheet.finish_work.Goals as goal

pub returns-in-Some-go_on-clause-ends : goal.returns-in-Some-go_on-clause-ends
returns-in-Some-go_on-clause-ends g c = work_ends_after c.args.process c.in-Some-go_on.end c.args.trail.now c.loop.trail c.go_on.new.trail c.loop.invariant c.in-Some-go_on.ensures.ends
