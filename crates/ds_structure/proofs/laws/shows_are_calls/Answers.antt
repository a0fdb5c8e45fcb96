use Rattle.ds_structure.proofs.Shows.{shows_hold}
use Rattle.ds_structure.proofs.laws.shows_are_calls.Goals as goal

pub returns : goal.returns
returns c = shows_hold c.args.key.now
