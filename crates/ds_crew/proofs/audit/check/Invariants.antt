use Rattle.std.proofs.Common.{take}
use Rattle.ds_crew.specs.Audits.{AreRight}
use Rattle.ds_crew.proofs.audit.check.Given as goal

abbrev pub invariant-loop-place : goal.invariant-loop-place
invariant-loop-place l = AreRight l.shape l.counted (take l.place l.receipts)
