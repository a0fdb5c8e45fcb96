use Rattle.ds_structure.proofs.Recoveries.{recoveries_hold}
use Rattle.ds_structure.proofs.laws.recoveries_are_calls.Goals as goal

pub returns : goal.returns
returns c = recoveries_hold c.args.key.now
