use Rattle.std.proofs.Common.{◌≡◌, take}
use Rattle.ds_explore.specs.Explored.{outcomes_text}
use Rattle.ds_explore.proofs.texts.outcomes.Given as goal

abbrev pub invariant-loop-at : goal.invariant-loop-at
invariant-loop-at l = l.text.items ≡ outcomes_text 0 (take l.at l.outcomes)
