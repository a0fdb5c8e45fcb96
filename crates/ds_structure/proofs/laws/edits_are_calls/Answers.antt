use Rattle.ds_structure.proofs.Edits.{edits_hold}
use Rattle.ds_structure.proofs.laws.edits_are_calls.Goals as goal

pub returns : goal.returns
returns c = edits_hold c.args.key.now
