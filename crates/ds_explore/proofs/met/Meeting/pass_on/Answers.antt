use Rattle.ds_explore.proofs.Ways.{way_more}
use Rattle.ds_explore.proofs.met.Meeting.pass_on.Goals as goal

pub returns : goal.returns
returns c = λ before. c.pass.ensures (way_more c.args.self.now.start.now c.args.self.now.states.now c.args.marks.now.items c.args.position.now c.go_on.new.position c.in_ok-go_on.ensures before)
