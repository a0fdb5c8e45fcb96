use Rattle.ds_store_sums.specs.Sums.{AreSummed, bytes_of}
use Rattle.ds_store_sums.proofs.sums.LineSums.new.Goals as goal

pub returns : goal.returns
unfolding bytes_of
returns c = record { holds = c.new.ensures; summed = AreSummed.none }
