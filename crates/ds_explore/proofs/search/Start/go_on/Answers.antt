use Rattle.std.proofs.Common.{refl}
use Rattle.ds_explore.proofs.Leading.{order_more}
use Rattle.ds_explore.proofs.search.Start.go_on.Goals as goal

pub returns : goal.returns
returns c = λ moves led.
    (c.in-Some.next.now, order_more c.args.self.now moves c.args.position.now c.apply.new.self c.in-Some.next.now led (c.if-not-allows.ensures refl) (c.in_ok-_written._written, c.in_ok-_written.ensures))
