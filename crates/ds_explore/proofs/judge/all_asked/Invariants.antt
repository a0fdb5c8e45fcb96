use Rattle.std.proofs.Common.{◌≡◌, map, take}
use Rattle.std.specs.Prelude.{option_map}
use Rattle.ds_explore.specs.Judging.{asked_in, plain_asked}
use Rattle.ds_explore.proofs.judge.all_asked.Given as goal

abbrev pub invariant-loop-number : goal.invariant-loop-number
invariant-loop-number l = map (option_map plain_asked) l.all.items ≡ map asked_in (take l.number l.situations)
