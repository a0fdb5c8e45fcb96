-- What reads the lines.
use Rattle.std.proofs.Common.{◌≡◌, inl, inr, ◌<◌, ℕ, suc, pos, List, [], ◌∷◌, map, flat_map, refl, sym, ap, subst, ◌∙◌, arith, codes, Less, IsPermutation}
use Rattle.std.specs.List.{AllByRecursion}
use Rattle.sqlite.specs.declared.types.Value.TheVariants.{Null, Int}
use Rattle.sqlite.specs.Order.{Row}
use Rattle.sqlite.specs.Query.{IsAnswer, output, output_cmp, Output}
use Rattle.sqlite.specs.Term.{Env}
use Rattle.sqlite.specs.Program.{overlay}
use Rattle.sqlite.specs.Command.TheVariants.{Select}
use Rattle.sqlite.specs.Effect.{Database}
use Rattle.sqlite.specs.State.{CommitsShowing, IsUnchanged, Shown, ShowsRows, State, Survives}
use Rattle.sqlite.specs.Listing.{understood}
use Rattle.sqlite.proofs.Callers.{IsPlain, never_commits, reads_as}
use Rattle.sqlite_keyed.proofs.SortLemmas.{sorted_unique}
use Rattle.sqlite_sql.proofs.QueryLemmas.{output_cmp_total}
use Rattle.sqlite.specs.Tree.{IsAscending}
use Rattle.ds_store_table.specs.Tables.{AreListed, Holds, HoldsSome, Numbered, RiseFrom, journal_schema, numbered, row_of, rows_from, shown}
use Rattle.ds_store_table.proofs.Numbered.{lower}
use Rattle.ds_store_table.proofs.Texts.{query, select_is, select_plain, select_text}

-- the row of a line with its number
abbrev row : Numbered → Row
row it = row_of it.number it.line

-- the ways to fill the query from these rows
abbrev ways : List Row → List Env
ways = flat_map (λ (r : Row). ([] ∷ r ∷ []) ∷ [])

-- what a line is ordered by, and what is shown of it
abbrev out : Numbered → Output
out it = (Int (pos it.number) ∷ [], shown it)

outs : (all : List Numbered) → map (output query) (ways (map row all)) ≡ map out all
outs [] = refl
outs (it ∷ all) = ap (λ os. out it ∷ os) (outs all)

above : (it : Numbered) (least : ℕ) (all : List Numbered) → it.number < least → RiseFrom least all → AllByRecursion (λ o. output_cmp query (out it) o ≡ Less) (map out all)
above it least [] low rise = tt
above it least (next ∷ all) low rise = (rw (lower it.number next.number (omega (arith, rise.0))) refl, above it (suc next.number) all (omega (arith, rise.0)) rise.1)

rises : (least : ℕ) (all : List Numbered) → RiseFrom least all → IsAscending (λ a b. output_cmp query a b ≡ Less) (map out all)
rises least [] rise = tt
rises least (it ∷ all) rise = (above it (suc it.number) all (omega arith) rise.1, rises (suc it.number) all rise.1)

firsts : (all : List Numbered) → map (λ (o : Output). o.1) (map out all) ≡ map shown all
firsts [] = refl
firsts (it ∷ all) = ap (λ rs. shown it ∷ rs) (firsts all)

-- a plain query changes nothing
unchanged_by : (sql : List ℕ) (old new : State) (rows : List Row) → IsPlain (understood old.now.schema sql) → Shown sql [] old new rows → IsUnchanged old new
unfolding Shown
unchanged_by sql old new rows plain h =
    let none = (subst IsPlain h.1.is plain).0 in
    (subst (ShowsRows old new sql h.0 _ rows) none h.2).3

-- what is shown of a table with these lines is each line with its number, by the numbers, and nothing changes
pub lists : (old new : State) (rows : List Row) (all : List Numbered) → HoldsSome all old.now → Shown select_text [] old new rows → AreListed all rows × IsUnchanged old new
lists old new rows all has h =
    let got = reads_as select_text [] old new journal_schema has.schema (Select (record { lets = []; body = query }) (codes "number" ∷ codes "line" ∷ [])) select_is.0 select_plain select_is.1 rows h in
    let a : IsAnswer query (overlay old.now.trees []) [] rows = got.answer Null in
    let db : overlay old.now.trees [] 0 ≡ map row all = has.rows in
    let staged : a.staged ≡ ways (map row all) = a.grouped ∙ ap ways db in
    let kept : a.kept ≡ map out all = a.distinct ∙ ap (map (output query)) staged ∙ outs all in
    let same : IsPermutation (map out all) a.ordered = subst (λ k. IsPermutation k a.ordered) kept a.same in
    let ordered : a.ordered ≡ map out all = sorted_unique (output_cmp query) (output_cmp_total query) (map out all) a.ordered (rises 1 all has.rise) same a.sorted in
    let rows_are : rows ≡ map (λ (o : Output). o.1) a.ordered = a.shown in (
      rows_are ∙ ap (map (λ (o : Output). o.1)) ordered ∙ firsts all,
      unchanged_by select_text old new rows (subst (λ s. IsPlain (understood s select_text)) (sym has.schema) select_plain) h,
    )

rising : (from : ℕ) (lines : List (List ℕ)) → RiseFrom from (numbered from lines)
rising from [] = tt
rising from (line ∷ lines) = (omega arith, rising (suc from) lines)

same_rows : (from : ℕ) (lines : List (List ℕ)) → rows_from from lines ≡ map row (numbered from lines)
same_rows from [] = refl
same_rows from (line ∷ lines) = ap (λ rs. row_of from line ∷ rs) (same_rows (suc from) lines)

-- lines of which none is missing
pub none_missing : (lines : List (List ℕ)) (db : Database) → Holds lines db → HoldsSome (numbered 1 lines) db
none_missing lines db has = record { schema = has.schema; rows = has.rows ∙ same_rows 1 lines; rise = rising 1 lines }

-- the query commits nothing
pub reads_only : (old new : State) (all : List Numbered) → HoldsSome all old.now → Survives old new (CommitsShowing select_text [] old) → Survives old new (λ _. ⊥)
reads_only old new all has s =
    let plain = subst (λ c. IsPlain (understood c select_text)) (sym has.schema) select_plain in
    record {
      clean = s.clean;
      shield = s.shield;
      counts = s.counts;
      limit = s.limit;
      closes = s.closes;
      crash = λ clean db left. elim (s.crash clean db left) [
        | inl before ↦ inl before
        | inr commits ↦ absurd (never_commits select_text [] old db plain commits)
      ];
    }
