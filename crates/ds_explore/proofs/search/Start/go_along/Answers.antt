use Rattle.std.proofs.Common.{arith}
use Rattle.ds_explore.proofs.Leading.{goes_on_none, goes_on_more}
use Rattle.ds_explore.proofs.search.Start.go_along.Goals as goal

pub loop-by-init : goal.loop-by-init
loop-by-init c = λ moves h. goes_on_none c.args.self.now moves c.args.position.now h

pub loop-by-preserved : goal.loop-by-preserved
loop-by-preserved c = λ moves h. goes_on_more c.args.self.now moves c.loop-by.by-index c.loop-by.position _ (c.loop-by.invariant moves h) c.in_ok-go_on.ensures

pub returns : goal.returns
returns c = λ moves h.
    let r = c.loop-by.invariant moves h in
    let size = r.1 in
    let past = c.loop-by-test.false in
    let end = c.loop-by.auto.by-index-end in
    (r.0, omega (arith, size, past, end), r.2)
