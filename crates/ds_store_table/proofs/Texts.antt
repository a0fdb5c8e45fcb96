-- What the statements of the table mean.
use Rattle.std.proofs.Common.{◌≡◌, ◌⊎◌, inl, inr, pos, negsuc, List, [], ◌∷◌, codes, false, None, Ok, Err, Result, refl}
use Rattle.sqlite.specs.declared.types.Value.TheVariants.{Null, Int}
use Rattle.sqlite.specs.Term.{Term, lit, col}
use Rattle.sqlite.specs.Query.{Query, inner, end}
use Rattle.sqlite.specs.Collation.TheVariants.{Binary}
use Rattle.sqlite.specs.Schema.{Schema}
use Rattle.sqlite.specs.Source.TheVariants.{Values}
use Rattle.sqlite.specs.Command.TheVariants.{Insert, Select, CreateTable, DropTable, Begin, Commit}
use Rattle.sqlite.specs.Compile.{table_defined_by}
use Rattle.sqlite_tied.specs.Compute.{everything}
use Rattle.sqlite.specs.Listing.{understood, reads_listing}
use Rattle.sqlite.proofs.Callers.{IsPlain, command_of, statement_of}
pub use Rattle.ds_store_table.specs.Statements.{create_text, drop_text, insert_text, select_text}
use Rattle.ds_store_table.specs.Tables.{journal, journal_schema, no_schema}

-- a new row: its number is chosen, and stands in no column; its line is the parameter
abbrev pub terms : List Term
terms = lit Null ∷ lit Null ∷ col 0 0 ∷ []

-- `create_text` makes the table `journal`
pub create_is : (command_of (understood no_schema create_text) ≡ CreateTable) × (statement_of create_text (understood no_schema create_text) ≡ create_text) × (table_defined_by create_text ≡ Ok journal)
unfolding understood everything
create_is = (refl, refl, refl)

-- it has no RETURNING, and does not read the time
pub create_plain : IsPlain (understood no_schema create_text)
unfolding understood everything
create_plain = (refl, refl)

-- `drop_text` drops the table `journal`
pub drop_is : command_of (understood journal_schema drop_text) ≡ DropTable 0
unfolding understood everything
drop_is = refl

-- it has no RETURNING, and does not read the time
pub drop_plain : IsPlain (understood journal_schema drop_text)
unfolding understood everything
drop_plain = (refl, refl)

-- `insert_text` puts a line into the table, as a new row
pub insert_is : command_of (understood journal_schema insert_text) ≡ Insert 0 (Values terms 3)
unfolding understood everything
insert_is = refl

-- it has no RETURNING, and does not read the time
pub insert_plain : IsPlain (understood journal_schema insert_text)
unfolding understood everything
insert_plain = (refl, refl)

pub begin_is : (schema : Schema) → command_of (understood schema (codes "BEGIN")) ≡ Begin
unfolding understood everything
begin_is schema = refl

pub begin_plain : (schema : Schema) → IsPlain (understood schema (codes "BEGIN"))
unfolding understood everything
begin_plain schema = (refl, refl)

pub commit_is : (schema : Schema) → command_of (understood schema (codes "COMMIT")) ≡ Commit
unfolding understood everything
commit_is schema = refl

pub commit_plain : (schema : Schema) → IsPlain (understood schema (codes "COMMIT"))
unfolding understood everything
commit_plain schema = (refl, refl)

-- a part that gave a value did not stop on the way
pub went : {B E R : Type 0} {b : B} {Stops : E → Type 0} → ((stop : E) × Stops stop × (Ok b ≡ Err stop)) ⊎ R → R
went (inl stopped) = absurd (let e = stopped.2 in cc)
went (inr on) = on

-- a value that two results give is one
pub same_value : {B E : Type 0} {a b : B} → ◌≡◌ {A = Result B E} (Ok a) (Ok b) → a ≡ b
same_value e = cc

-- each row's number and line, by the number
abbrev pub query : Query
query = record {
  from = inner 0 end;
  filter = [];
  group = None;
  project = col 1 0 ∷ col 1 2 ∷ [];
  distinct = false;
  collations = [];
  order = (col 1 0, record { collation = Binary; descending = false }) ∷ [];
  limit = lit (Int (negsuc 0));
  offset = lit (Int (pos 0));
}

-- `select_text` reads the number and the line of each row, by the number, and no listing of the schema
pub select_is : (command_of (understood journal_schema select_text) ≡ Select (record { lets = []; body = query }) (codes "number" ∷ codes "line" ∷ [])) × (reads_listing journal_schema select_text ≡ false)
unfolding understood everything
select_is = (refl, refl)

-- it has no RETURNING, and does not read the time
pub select_plain : IsPlain (understood journal_schema select_text)
unfolding understood everything
select_plain = (refl, refl)
