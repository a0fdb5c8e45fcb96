use Rattle.ds_recover.proofs.RecoveryLeaves.{recovery_leaves, begin_leaves}
use Rattle.ds_recover.proofs.laws.recoveries_leave_others.Goals as goal

pub returns : goal.returns
returns c = record { steps = recovery_leaves; begins = begin_leaves }
