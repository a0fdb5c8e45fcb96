use Rattle.std.proofs.Common.{◌≡◌, ◌++◌, take}
use Rattle.ds_work.proofs.machine.append.Given as goal

abbrev pub invariant-loop-i : goal.invariant-loop-i
invariant-loop-i l = l.text ≡ take l.most (l.initial.text ++ take l.i l.bytes)
