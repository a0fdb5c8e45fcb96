-- A database that has nothing has no lines.
use Rattle.std.proofs.Common.{◌≡◌, ◌∙◌, ℕ, Bool, true, false, List, ap, sym, length, arith}
use Rattle.sqlite.specs.Effect.{Database}
use Rattle.ds_store_table.specs.Tables.{Holds, IsBare}

pub bare_has_none : (db : Database) (lines : List (List ℕ)) → IsBare db → Holds lines db → ⊥
bare_has_none db lines bare holds = let none : 0 ≡ 1 = ap (λ s. length s.tables) (sym bare ∙ holds.schema) in omega (arith, none)

-- no truth value is both
pub not_both : (b : Bool) → b ≡ true → b ≡ false → ⊥
not_both b is not = let bad : true ≡ false = sym is ∙ not in cc
