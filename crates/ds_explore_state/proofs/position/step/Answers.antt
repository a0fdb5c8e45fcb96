use Rattle.std.proofs.Common.{rules}
use Rattle.ds_state.specs.Value.{world_of}
use Rattle.ds_explore_state.proofs.position.step.Goals as goal

pub returns : goal.returns
returns c =
    (c.make_ready.new.world, c.make_ready.ensures, c.wanted-access.ensures, c.step_once-reply.ensures.fits, c.reads_well.ensures (search rules) ((world_of c.make_ready.new.world).situation c.args.process) c.is_to_read-is_to_read.ensures)
