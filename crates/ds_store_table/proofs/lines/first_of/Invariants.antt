use Rattle.std.proofs.Common.{◌≡◌, ◌≤◌, List, length, map, vec_capacity}
use Rattle.std.specs.String.{string_bytes}
use Rattle.ds_store_table.specs.Tables.{AreListed, Numbered, RiseFrom}
use Rattle.ds_store_table.proofs.Counting.{Begun}
use Rattle.ds_store_table.proofs.lines.first_of.Given as goal

abbrev pub invariant-loop-row : goal.invariant-loop-row
invariant-loop-row l =
    (l.row-index ≡ length l.lines.items)
    × (length l.fn.rows ≤ vec_capacity l.lines)
    × ((all : List Numbered) → RiseFrom 1 all → AreListed all l.fn.rows → Begun all (map string_bytes l.lines.items))
