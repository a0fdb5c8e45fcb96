use Rattle.std.proofs.Common.{length}
use Rattle.ds_explore.proofs.outcomes.+contains_all.Given as goal

abbrev pub decreases-contains_all : goal.decreases-contains_all
decreases-contains_all l = length l.parts.now
