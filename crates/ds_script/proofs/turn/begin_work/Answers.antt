use Rattle.ds_script.proofs.Turning.{begins}
use Rattle.ds_script.proofs.turn.begin_work.Goals as goal

pub returns : goal.returns
returns c =
    begins c.args.world.now c.begin-reply.new.world c.args.process c.args.rounds c.args.cell c.begin-reply.result c.after_begin.result
    c.requires c.begin-reply.ensures (c.after_begin.ensures.remains c.begin-reply.new.world) c.after_begin.ensures.same
