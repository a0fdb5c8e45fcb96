use Rattle.ds_recover.proofs.RecoveryNames.{names_cell}
use Rattle.ds_recover.proofs.laws.answers_name_their_cell.Goals as goal

pub returns : goal.returns
returns c = names_cell
