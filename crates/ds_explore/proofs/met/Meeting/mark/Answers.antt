use Rattle.std.proofs.Common.{arith}
use Rattle.ds_explore.specs.Judging.{texts_of}
use Rattle.ds_explore.proofs.Meeting.{met_more}
use Rattle.ds_explore.proofs.met.Meeting.mark.Goals as goal

pub returns : goal.returns
returns c = λ led before.
    met_more c.args.self.now.start.now (texts_of c.args.self.now.keys.now) c.args.self.now.states.now c.args.marks.now.items c.args.number
    (let a = c.if-at-len.false in let b = c.len.ensures in omega (arith, a, b)) (c.in_ok-meets.ensures c.if-not-branch.false led) before
