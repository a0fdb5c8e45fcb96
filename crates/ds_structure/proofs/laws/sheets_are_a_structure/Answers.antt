use Rattle.ds_structure.proofs.Structure.{sheet_holds}
use Rattle.ds_structure.proofs.laws.sheets_are_a_structure.Goals as goal

pub returns : goal.returns
returns c = sheet_holds c.args.key.now
