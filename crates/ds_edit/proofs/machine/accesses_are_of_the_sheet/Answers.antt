use Rattle.ds_edit.proofs.Named.{each_named}
use Rattle.ds_edit.proofs.machine.accesses_are_of_the_sheet.Goals as goal

pub returns : goal.returns
returns c = each_named
