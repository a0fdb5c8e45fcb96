use Rattle.std.proofs.Common.{◌≡◌}
use Rattle.std.specs.List.{range_with_len}
use Rattle.ds_order.proofs.order.ascending.Given as goal

-- the cells below this one
abbrev pub invariant-loop-cell : goal.invariant-loop-cell
invariant-loop-cell l = l.order.items ≡ range_with_len 0 l.cell
