use Rattle.ds_core.proofs.Spent.{overtaken_never}
use Rattle.ds_core.proofs.laws.overtaken_edits_stay_out.Goals as goal

pub returns : goal.returns
returns c = overtaken_never
