use Rattle.ds_eval.proofs.Sheets as laws
use Rattle.ds_eval.proofs.laws.sheets_law.Goals as goal

pub returns : goal.returns
returns c = laws.scratch_on
