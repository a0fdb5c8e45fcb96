use Rattle.ds_explore.proofs.Meeting.{led_on}
use Rattle.ds_explore.proofs.search.Start.gone_on.Goals as goal

pub returns : goal.returns
returns c = λ led. led_on c.args.self.now c.args.position.now c.in_ok-next.next c.go_on.new.position c.in_ok-next.ensures.world c.in_ok-next.ensures.seats c.in_ok-go_on.ensures led
