use Rattle.std.proofs.Common.{◌≡◌, ◌++◌}
use Rattle.ds_trace_brief.specs.Keeping.{sorted_below}
use Rattle.ds_trace_brief.proofs.keep.add.Given as goal

abbrev pub invariant-loop-number : goal.invariant-loop-number
invariant-loop-number l = l.numbers.items ≡ l.fn.numbers.items ++ sorted_below l.sort l.trace l.number
