use Rattle.ds_script.proofs.InOrder.{begins}
use Rattle.ds_script.proofs.turn.begin_in_order.Goals as goal

pub returns : goal.returns
returns c =
    begins c.args.world.now c.begin-reply.new.world c.args.process c.args.cell c.args.rest c.begin-reply.result c.entered.result
    c.requires c.begin-reply.ensures (c.entered.ensures.remains c.begin-reply.new.world) c.entered.ensures.same
