use Rattle.ds_script_stops.proofs.CleanBlocks.{blocks_clean}
use Rattle.ds_script_stops.proofs.stops.blocks_are_clean.Goals as goal

pub returns : goal.returns
returns c = blocks_clean
