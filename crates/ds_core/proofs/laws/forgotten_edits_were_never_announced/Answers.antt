use Rattle.ds_core.proofs.Forgotten.{forgotten_law}
use Rattle.ds_core.proofs.laws.forgotten_edits_were_never_announced.Goals as goal

pub returns : goal.returns
returns c = forgotten_law
