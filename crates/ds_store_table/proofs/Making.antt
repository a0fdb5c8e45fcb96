-- What makes the table.
use Rattle.std.proofs.Common.{◌≡◌, ℕ, [], Ok, Err, Result, OnOk, None, false, sym, ap, subst, ◌∙◌}
use Rattle.sqlite.specs.Change.{created, next_tree}
use Rattle.sqlite.specs.Does.{Tally, lacks_sequence}
use Rattle.sqlite.specs.declared.error.Error.{Error}
use Rattle.sqlite.specs.Command.TheVariants.{CreateTable}
use Rattle.sqlite.specs.Effect.{Database}
use Rattle.sqlite.specs.State.{State, Writes, Executes, ExecutesInside}
use Rattle.sqlite.proofs.Callers.{runs_as}
use Rattle.ds_store_table.specs.Tables.{Holds, HoldsInside, IsBare, journal, journal_schema, no_schema}
use Rattle.ds_store_table.proofs.Texts.{create_text, create_is, create_plain, went, same_value}

-- the table is made, and has no rows
pub makes : (old new : State) (r : Result ℕ Error) → IsBare old.now → Executes create_text [] old new r → OnOk r (Holds [] new.now)
makes old new (Err e) has h = tt
makes old new (Ok count) has h =
    let w = subst (λ t. Writes old new None CreateTable t [] count) create_is.1 (runs_as create_text [] old new no_schema has CreateTable create_is.0 create_plain count h) in
    let all = went w.changed in
    let first = went all.1 in
    let made = first.1 in
    let both : Ok made.table ≡ Ok journal = sym made.defined ∙ create_is.2 in
    let same : made.table ≡ journal = cc in
    let schema : first.0.schema ≡ journal_schema = made.is ∙ ap (λ s. created s made.table) has ∙ ap (created no_schema) same in
    let plain : lacks_sequence first.0.schema ≡ false = ap lacks_sequence schema in
    let now : new.now ≡ first.0 = ap (λ (p : Tally × Database). p.1) (same_value all.2) ∙ same_value (rw plain at first.2) in
    record {
      schema = ap (λ (d : Database). d.schema) now ∙ schema;
      rows = ap (λ (d : Database). d.trees 0) now ∙ subst (λ s. first.0.trees (next_tree s) ≡ []) has made.empty;
    }

-- the same within a transaction, which goes on
pub makes_inside : (old new : State) (r : Result ℕ Error) → IsBare old.now → ExecutesInside 0 create_text [] old new r → OnOk r (HoldsInside [] new)
makes_inside old new (Err e) has h = tt
makes_inside old new (Ok count) has h = record { inside = h.1.mode; holds = makes old new (Ok count) has h.0 }
