use Rattle.std.proofs.Common.{◌<◌, ℕ, Contains}
use Rattle.ds_order.proofs.order.are_there.Given as goal

-- the numbers below the cell stand in the list
abbrev pub invariant-loop-cell : goal.invariant-loop-cell
invariant-loop-cell l = (c : ℕ) → c < l.cell → Contains l.list c
