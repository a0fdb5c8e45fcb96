-- What adds a line.
use Rattle.std.proofs.Common.{◌≡◌, ◌+◌, ℕ, List, [], ◌∷◌, ◌++◌, length, Bool, true, false, cond, Ok, Err, Result, OnOk, None, refl, ap, subst, ◌∙◌}
use Rattle.sqlite.specs.declared.types.Value.{Value}
use Rattle.sqlite.specs.declared.types.Value.TheVariants.{Null, Text}
use Rattle.sqlite.specs.Ops.{unary}
use Rattle.sqlite.specs.Kind.TheVariants.{Integer}
use Rattle.sqlite.specs.Source.TheVariants.{Values}
use Rattle.sqlite.specs.Command.TheVariants.{Insert}
use Rattle.sqlite.specs.Cast.{cast}
use Rattle.sqlite.specs.Rowids.TheVariants.{Chosen}
use Rattle.sqlite.specs.Edit.{edit_of, edited}
use Rattle.sqlite.specs.Does.{Tally, Does}
use Rattle.sqlite.specs.Rows.{Written}
use Rattle.sqlite.specs.Tree.{Trees}
use Rattle.sqlite.specs.declared.error.Error.{Error}
use Rattle.sqlite.specs.Effect.{Database}
use Rattle.sqlite.specs.State.{State, mode_of, Executes, ExecutesInside}
use Rattle.sqlite.specs.Listing.{understood}
use Rattle.sqlite.proofs.Callers.{statement_of, runs_as, one_step}
use Rattle.ds_store_table.specs.Tables.{Holds, HoldsInside, journal, journal_schema, rows_from}
use Rattle.ds_store_table.proofs.Numbered.{chosen, goes_last}
use Rattle.ds_store_table.proofs.Texts.{insert_text, insert_is, insert_plain, terms, went, same_value}

either : (b : Bool) (x : Value) → cond b x x ≡ x
either true x = refl
either false x = refl

cast_null : cast Integer Null ≡ Null
unfolding unary
cast_null = either _ Null

-- the line is there, after the others
pub adds : (old new : State) (line : List ℕ) (r : Result ℕ Error) (lines : List (List ℕ)) → Holds lines old.now → Executes insert_text (Text line ∷ []) old new r
    → OnOk r (Holds (lines ++ line ∷ []) new.now)
adds old new line (Err e) lines has h = tt
adds old new line (Ok count) lines has h =
    let params = Text line ∷ [] in
    let db = old.now.trees in
    let command = Insert 0 (Values terms 3) in
    let w = runs_as insert_text params old new journal_schema has.schema command insert_is insert_plain count h in
    let text = statement_of insert_text (understood journal_schema insert_text) in
    let done = went (subst (λ s. Does old.step_limit (mode_of old) params (record old.now { schema = s }) text None command (Ok (w.tally, new.now))) has.schema w.changed) in
    let now = ap (λ (p : Tally × Database). p.1) (same_value (went (went done.2).2).2) in
    let given = went done.1 in
    let written = went (went given.2).2 in
    let counted = went written.2 in
    let trees : done.0.trees ≡ written.0 = ap (λ (it : Written). it.trees) (same_value counted.2) ∙ same_value counted.1 in
    let rows = (one_step journal_schema _ db written.0 (edit_of db journal [] Chosen 0 given.0) refl written.1).rows in
    let edit : edited db (edit_of db journal [] Chosen 0 given.0) ≡ rows_from 1 (lines ++ line ∷ []) =
    ap (λ all. edited db (edit_of db journal [] Chosen 0 all)) given.1.1 ∙ rw (has.rows, cast_null) (rw (chosen 1 lines) (goes_last 1 lines line (1 + length lines) refl)) in
    record {
      schema = ap (λ (d : Database). d.schema) now;
      rows = ap (λ (d : Database). d.trees 0) now ∙ ap (λ (t : Trees). t 0) trees ∙ rows ∙ edit;
    }

-- the same within a transaction, which goes on
pub adds_inside : (old new : State) (line : List ℕ) (r : Result ℕ Error) (lines : List (List ℕ)) → HoldsInside lines old → ExecutesInside 0 insert_text (Text line ∷ []) old new r
    → OnOk r (HoldsInside (lines ++ line ∷ []) new)
adds_inside old new line (Err e) lines has h = tt
adds_inside old new line (Ok count) lines has h = record { inside = h.1.mode; holds = adds old new line (Ok count) lines has.holds h.0 }
