use Rattle.ds_structure.proofs.Works.{works_hold}
use Rattle.ds_structure.proofs.laws.works_are_calls.Goals as goal

pub returns : goal.returns
returns c = works_hold c.args.key.now
