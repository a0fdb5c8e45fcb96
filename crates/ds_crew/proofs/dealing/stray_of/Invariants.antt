use Rattle.std.proofs.Common.{ℕ, Option, drop}
use Rattle.ds_crew.specs.Passes.{FirstStray}
use Rattle.ds_crew.proofs.dealing.stray_of.Given as goal

abbrev pub invariant-loop-pass : goal.invariant-loop-pass
invariant-loop-pass g l = (stray : Option ℕ) → FirstStray l.world.reports (drop l.pass-index l.passes) stray → FirstStray l.world.reports l.passes stray
