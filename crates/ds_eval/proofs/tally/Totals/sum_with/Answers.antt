use Rattle.std.proofs.Common.{arith}
use Rattle.std.proofs.lemmas.Int.{ints, to_z-of_z}
use Rattle.ds_eval.proofs.tally.Totals.sum_with.Goals as goal

pub returns : goal.returns
returns c = search (arith, ints, to_z-of_z, c.from.ensures)
