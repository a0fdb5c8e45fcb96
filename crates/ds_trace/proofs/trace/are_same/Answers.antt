use Rattle.std.proofs.Common.{rules}
use Rattle.std.proofs.lemmas.Slice.Eq.{slice_eq-Decides}
use Rattle.ds_trace.proofs.trace.are_same.Goals as goal

pub returns : goal.returns
returns c = (slice_eq-Decides (search rules) c.args.places.now c.args.others.now c.eq.result c.eq.ensures).0
