use Rattle.std.proofs.Common.{◌≡◌, ◌++◌, length}
use Rattle.ds_stop_groups.specs.Groups.{one_line}
use Rattle.ds_stop_groups.proofs.groups.put_one_line.Given as goal

abbrev pub invariant-loop-rest : goal.invariant-loop-rest
invariant-loop-rest l = l.lines.items ++ one_line l.rest ≡ l.fn.lines.items ++ one_line l.answers

abbrev pub decreases-loop-rest : goal.decreases-loop-rest
decreases-loop-rest l = length l.rest
