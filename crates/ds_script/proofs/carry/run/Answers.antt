use Rattle.ds_script.proofs.Halting.{no_round_within}
use Rattle.ds_script.proofs.carry.run.Goals as goal

pub drive-halt-requires : goal.drive-halt-requires
drive-halt-requires c = no_round_within c.args.world.now c.args.process c.args.until c.requires
