-- The table of a journal's lines, as a database has it.
use Rattle.std.specs.Prelude.{◌≡◌, ◌<◌, ◌≤◌, ℕ, suc, pos, length, true, false, [], ◌∷◌, ◌++◌, List, MatchOption, Some, None, codes, map, ⊤}
use Rattle.std.specs.String.{string_bytes}
use Rattle.ds_store_table.specs.declared.lines.FirstLines.{FirstLines}
use Rattle.sqlite.specs.Collation.TheVariants.{Binary}
use Rattle.sqlite.specs.declared.types.Value.TheVariants.{Null, Int, Text as Words}
use Rattle.sqlite.specs.Order.{Row}
use Rattle.sqlite.specs.Table.{Table}
use Rattle.sqlite.specs.Schema.{Schema}
use Rattle.sqlite.specs.Kind.TheVariants.{Integer, Text}
use Rattle.sqlite.specs.Effect.{Database}
use Rattle.sqlite.specs.State.{State}
use Rattle.sqlite.specs.Tree.{Trees}

-- the table `journal`: a number, which is the row's own, and a line, which is a text
abbrev pub journal : Table
journal = record {
  name = codes "journal";
  tree = 0;
  columns = (record { name = codes "number"; kind = Integer; is_strict = true; not_null = false; default = Null; collation = Binary })
      ∷ (record { name = codes "line"; kind = Text; is_strict = true; not_null = true; default = Null; collation = Binary }) ∷ [];
  key = Some 0;
  primary = 0 ∷ [];
  uniques = [];
  orders = [];
  checks = [];
  references = [];
  computed = [];
  stamps = record { places = []; terms = []; formats = [] };
  is_counted = false;
}

-- a schema of this table alone
abbrev pub journal_schema : Schema
journal_schema = record { tables = journal ∷ []; indexes = []; views = [] }

-- a schema of nothing
abbrev pub no_schema : Schema
no_schema = record { tables = []; indexes = []; views = [] }

-- the row of the line with this number
abbrev pub row_of : ℕ → List ℕ → Row
row_of number line = Int (pos number) ∷ Null ∷ Words line ∷ []

-- the rows of these lines, numbered from this number on
abbrev pub rows_from : ℕ → List (List ℕ) → List Row
rows_from number [] = []
rows_from number (line ∷ lines) = row_of number line ∷ rows_from (suc number) lines

-- the database has the table `journal` alone, with these lines, numbered from 1
pub record Holds (lines : List (List ℕ)) (db : Database) : Type 0 where
  pub schema : db.schema ≡ journal_schema
  pub rows : db.trees 0 ≡ rows_from 1 lines

-- the database has nothing
abbrev pub IsBare : Database → Type 0
IsBare db = db.schema ≡ no_schema

-- a line with its number
pub record Numbered : Type 0 where
  pub number : ℕ
  pub line : List ℕ

-- these lines, numbered from this number on
abbrev pub numbered : ℕ → List (List ℕ) → List Numbered
numbered number [] = []
numbered number (line ∷ lines) = record { number = number; line = line } ∷ numbered (suc number) lines

-- the first number is at least this, and each is above the one before it
abbrev pub RiseFrom : ℕ → List Numbered → Type 0
RiseFrom least [] = ⊤
RiseFrom least (it ∷ more) = (least ≤ it.number) × RiseFrom (suc it.number) more

-- the database has the table `journal` alone, with lines of these numbers, which rise from 1 on; some may be missing
pub record HoldsSome (all : List Numbered) (db : Database) : Type 0 where
  pub schema : db.schema ≡ journal_schema
  pub rows : db.trees 0 ≡ map (λ (it : Numbered). row_of it.number it.line) all
  pub rise : RiseFrom 1 all

-- what is shown of a line: its number and its text
abbrev pub shown : Numbered → Row
shown it = Int (pos it.number) ∷ Words it.line ∷ []

-- the rows show these lines, in their order
abbrev pub AreListed : List Numbered → List Row → Type 0
AreListed all rows = rows ≡ map shown all

-- of all lines these have the numbers from 1 on, and this number is the next: it is missing, though there are higher ones
pub record BreakAt (missing : ℕ) (lines : List (List ℕ)) (all : List Numbered) : Type 0 where
  pub after : List Numbered
  pub parts : all ≡ numbered 1 lines ++ after
  pub next : missing ≡ suc (length lines)
  pub more : 0 < length after
  pub higher : RiseFrom (suc missing) after

-- these are the first lines, up to the first number that is missing
abbrev pub AreBefore : List Numbered → FirstLines → Type 0
AreBefore all first =
    MatchOption first.missing (all ≡ numbered 1 (map string_bytes first.lines.items)) (λ n. BreakAt n (map string_bytes first.lines.items) all)

-- these are all of the lines, and none is missing
pub record AreFirst (lines : List (List ℕ)) (first : FirstLines) : Type 0 where
  pub all : map string_bytes first.lines.items ≡ lines
  pub whole : first.missing ≡ None

-- within a transaction the connection sees the table with these lines
pub record HoldsInside (lines : List (List ℕ)) (s : State) : Type 0 where
  pub inside : s.in_transaction ≡ true
  pub holds : Holds lines s.now

-- the trees of a database that has the table with these lines
pub record MayHold (lines : List (List ℕ)) (trees : Trees) : Type 0 where
  pub db : Database
  pub holds : Holds lines db
  pub trees_are : trees ≡ db.trees
