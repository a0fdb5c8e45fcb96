-- What takes the table away.
use Rattle.std.proofs.Common.{◌≡◌, ℕ, List, [], Ok, Err, Result, OnOk, None, IsTrue, ap, subst, ◌∙◌}
use Rattle.sqlite.specs.Command.TheVariants.{DropTable}
use Rattle.sqlite.specs.Does.{Tally, Does}
use Rattle.sqlite.specs.declared.error.Error.{Error}
use Rattle.sqlite.specs.Effect.{Database}
use Rattle.sqlite.specs.State.{State, mode_of, Executes, ExecutesInside}
use Rattle.sqlite.specs.Listing.{understood}
use Rattle.sqlite.proofs.Callers.{statement_of, runs_as}
use Rattle.ds_store_table.specs.Tables.{Holds, HoldsInside, IsBare, journal_schema}
use Rattle.ds_store_table.proofs.Texts.{drop_text, drop_is, drop_plain, went, same_value}

-- the table was the only one, so nothing is left
pub removes : (old new : State) (r : Result ℕ Error) (lines : List (List ℕ)) → Holds lines old.now → Executes drop_text [] old new r → OnOk r (IsBare new.now)
removes old new (Err e) lines has h = tt
removes old new (Ok count) lines has h =
    let w = runs_as drop_text [] old new journal_schema has.schema (DropTable 0) drop_is drop_plain count h in
    let text = statement_of drop_text (understood journal_schema drop_text) in
    let done = subst (λ s. Does old.step_limit (mode_of old) [] (record old.now { schema = s }) text None (DropTable 0) (Ok (w.tally, new.now))) has.schema w.changed in
    let dropped = went (went (went (went done).2).2).2 in
    let now : new.now ≡ dropped.0 = ap (λ (p : Tally × Database). p.1) (same_value dropped.2) in
    ap (λ (d : Database). d.schema) now ∙ dropped.1.0

-- the same within a transaction, which goes on
pub removes_inside : (old new : State) (r : Result ℕ Error) (lines : List (List ℕ)) → HoldsInside lines old → ExecutesInside 0 drop_text [] old new r
    → OnOk r (IsTrue new.in_transaction × IsBare new.now)
removes_inside old new (Err e) lines has h = tt
removes_inside old new (Ok count) lines has h = (h.1.mode, removes old new (Ok count) lines has.holds h.0)
