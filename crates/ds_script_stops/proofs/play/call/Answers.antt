use Rattle.ds_script_stops.proofs.Opening.{call_opens, call_within}
use Rattle.ds_script_stops.proofs.play.call.Goals as goal

pub returns-clause-opens : goal.returns-clause-opens
returns-clause-opens c =
    call_opens c.args.world.now c.begins-reply.new.world c.args.process c.args.call c.begins-reply.result c.after_begin.result c.begins-reply.ensures (c.after_begin.ensures.remains c.begins-reply.new.world)

pub returns-clause-within : goal.returns-clause-within
returns-clause-within c = call_within c.begins-reply.new.world c.args.process c.after_begin.result c.after_begin.ensures.same
