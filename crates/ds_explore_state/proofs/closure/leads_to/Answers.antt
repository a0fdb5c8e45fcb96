use Rattle.std.proofs.Common.{rules}
use Rattle.ds_explore_state.specs.States.{groups_of}
use Rattle.ds_explore_state.proofs.Closing.{follows_too, happens_from, led}
use Rattle.ds_explore_state.proofs.closure.leads_to.Goals as goal

pub returns : goal.returns
returns c =
    led c.number_of.result c.args.states.now (groups_of c.args.touched.now) c.args.position.now c.lead.new.position c.args.next
    (happens_from c.args.position.now c.in_ok-after.after c.lead.new.position c.args.next c.in_ok-after.ensures.world c.in_ok-after.ensures.seats (c.in_ok-led.ensures.happens (search rules)))
    (λ first h. c.in_ok-led.ensures.follows (search rules) first (follows_too (groups_of c.args.touched.now) first c.args.position.now c.in_ok-after.after c.in_ok-after.ensures.world c.in_ok-after.ensures.seats h)) c.number_of.ensures
