use Rattle.std.proofs.Common.{◌≡◌, take}
use Rattle.ds_crew.specs.Kept.{report_of}
use Rattle.ds_crew.proofs.dealing.last_of.Given as goal

abbrev pub invariant-loop-value : goal.invariant-loop-value
invariant-loop-value l = l.last.items ≡ take l.value-index (report_of l.world.reports l.process)
