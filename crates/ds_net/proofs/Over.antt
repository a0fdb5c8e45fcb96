-- A store goes over to a new sheet from the lines that it has held.
use Rattle.std.proofs.Common.{◌≡◌, ◌++◌, [], ℕ, List, Result, Ok, IfOk, append-nil, subst, sym}
use Rattle.sqlite.specs.Effect.{Database}
use Rattle.ds_store.specs.GoingOver.{GoesOver}
use Rattle.ds_store_table.specs.Tables.{Holds}

-- what is so of a value that was made
pub made : {T E : Type 0} (P : T → Type 0) (r : Result T E) (it : T) → r ≡ Ok it → IfOk r P → P it
made P r it was h = subst (λ r. IfOk r P) was h

-- from the lines that were read, which are those that it held
pub gone_over : (lines held next : List (List ℕ)) (mid now committed : Database) → (lines ≡ held) × Holds held mid → GoesOver lines next → (Holds lines mid → Holds next now × Holds next committed)
    → GoesOver held next × Holds next now × Holds next committed
gone_over lines held next mid now committed (same, holds) over then =
    let kept = then (subst (λ l. Holds l mid) (sym same) holds) in
    (subst (λ l. GoesOver l next) same over, kept.0, kept.1)

-- nothing more is held
pub holds_no_more : (held : List (List ℕ)) (db : Database) → Holds held db → Holds (held ++ []) db
holds_no_more held db holds = subst (λ l. Holds l db) (sym (append-nil held)) holds
