use Rattle.ds_explore.proofs.Ways.{way_marked}
use Rattle.ds_explore.proofs.met.Meeting.pass.Goals as goal

pub returns : goal.returns
returns c = λ before. way_marked c.args.self.now.start.now c.args.self.now.states.now c.args.marks.now.items c.args.position.now c.in-Some.number c.in_ok-number.field-0 c.in_ok-number.ensures c.in-Some.is before
