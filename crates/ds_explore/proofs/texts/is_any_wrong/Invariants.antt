use Rattle.std.proofs.Common.{◌≡◌, take}
use Rattle.ds_explore.specs.Explored.{any_wrong}
use Rattle.ds_explore.proofs.texts.is_any_wrong.Given as goal

abbrev pub invariant-loop-at : goal.invariant-loop-at
invariant-loop-at l = l.wrong ≡ any_wrong (take l.at l.outcomes)
