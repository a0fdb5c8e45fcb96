use Rattle.std.proofs.Common.{◌≡◌, take}
use Rattle.ds_explore.specs.Explored.{wrong_texts}
use Rattle.ds_explore.proofs.flaw.wrong_lines.Given as goal

abbrev pub invariant-loop-flaw : goal.invariant-loop-flaw
invariant-loop-flaw l = l.text.items ≡ wrong_texts (take l.flaw-index l.flaws)
