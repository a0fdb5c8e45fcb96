use Rattle.ds_work.proofs.WorkLeaves.{work_leaves, read_leaves, lack_leaves, offer_leaves, begin_leaves}
use Rattle.ds_work.proofs.laws.works_leave_others.Goals as goal

pub returns : goal.returns
returns c = record { steps = work_leaves; reads = read_leaves; lacks = lack_leaves; offers = offer_leaves; begins = begin_leaves }
