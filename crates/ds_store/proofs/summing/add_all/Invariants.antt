use Rattle.std.proofs.Common.{◌≡◌, ◌++◌, ℕ, List, map, take}
use Rattle.std.specs.String.{string_bytes}
use Rattle.ds_store_sums.specs.Taken.{IsAt}
use Rattle.ds_store.proofs.summing.add_all.Given as goal

abbrev pub invariant-loop-line : goal.invariant-loop-line
invariant-loop-line l =
    ((before : List (List ℕ)) → IsAt l.fn.sums before → IsAt l.sums (before ++ map string_bytes (take l.line-index l.lines)))
    × (l.number ≡ l.line-index)
