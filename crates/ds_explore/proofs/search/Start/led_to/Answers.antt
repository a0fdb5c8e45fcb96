use Rattle.std.proofs.Common.{[]}
use Rattle.ds_explore.proofs.Leading.{order_first, order_leads}
use Rattle.ds_explore.proofs.search.Start.led_to.Goals as goal

pub returns : goal.returns
returns c =
    let h = c.in_ok-go_along.ensures [] (order_first c.args.self.now c.in_ok-position.position c.in_ok-position.ensures.world c.in_ok-position.ensures.seats) in
    order_leads c.args.self.now h.0 c.go_along.new.position h.2
