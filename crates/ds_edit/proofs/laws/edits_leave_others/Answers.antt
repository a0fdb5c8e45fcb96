use Rattle.ds_edit.proofs.EditLeaves.{edit_leaves, begin_leaves}
use Rattle.ds_edit.proofs.laws.edits_leave_others.Goals as goal

pub returns : goal.returns
returns c = record { steps = edit_leaves; begins = begin_leaves }
