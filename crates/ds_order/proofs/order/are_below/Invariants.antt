use Rattle.std.proofs.Common.{◌<◌, ℕ, length, slice_index_or}
use Rattle.ds_order.proofs.order.are_below.Given as goal

-- the numbers before the place are below
abbrev pub invariant-loop-place : goal.invariant-loop-place
invariant-loop-place l = (k d : ℕ) → k < l.place → slice_index_or l.list k d < length l.list
