use Rattle.std.proofs.Common.{◌≡◌, ◌++◌, ℕ, IsTrue, List, Ok, map, take}
use Rattle.std.specs.String.{string_bytes}
use Rattle.sqlite.specs.Held.{state}
use Rattle.sqlite.specs.State.{HasCleanDisk, Survives}
use Rattle.ds_store_table.specs.Statements.{RanInTurn, insertion}
use Rattle.ds_store_table.specs.Tables.{HoldsInside}
use Rattle.ds_store_table.proofs.lines.fill.Given as goal

abbrev pub invariant-loop-line : goal.invariant-loop-line
invariant-loop-line g l =
    (l.tx.conn.ghost_name ≡ l.fn.tx.conn.ghost_name)
    × (HasCleanDisk (state g.S.Store l.tx.conn.now) → (before : List (List ℕ)) → HoldsInside before (state g.S.Store l.fn.tx.conn.now)
    → HoldsInside (before ++ map string_bytes (take l.line-index l.lines)) (state g.S.Store l.tx.conn.now))
    × Survives (state g.S.Store l.fn.tx.conn.now) (state g.S.Store l.tx.conn.now) (λ _. ⊥)
    × (HasCleanDisk (state g.S.Store l.tx.conn.now) → IsTrue l.fn.tx.conn.now.in_transaction
    → RanInTurn g.S.Store (map insertion (map string_bytes (take l.line-index l.lines))) l.fn.tx.conn.now l.tx.conn.now (Ok tt))
