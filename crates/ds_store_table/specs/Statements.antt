-- The statements on the table of a journal's lines, and why they keep nothing.
use Rattle.std.specs.Prelude.{◌≡◌, ◌⊎◌, ℕ, true, List, [], ◌∷◌, codes, Result, Ok, Err, IsTrue}
use Rattle.sqlite.specs.Store.{Ghosts}
use Rattle.sqlite.specs.declared.error.Error.{Error}
use Rattle.sqlite.specs.declared.error.Error.TheVariants.{SqliteFailure}
use Rattle.sqlite.specs.declared.error.ErrorCode.TheVariants.{TransactionState}
use Rattle.sqlite.specs.declared.types.Value.TheVariants.{Text}
use Rattle.sqlite.specs.Order.{Row}
use Rattle.sqlite.specs.Held.{Held, state}
use Rattle.sqlite.specs.State.{ExecutesInside, IsRolledBack, Survives}
use Rattle.sqlite.specs.Steps.{FailsToCommit}

-- a statement's text, and its parameters
pub record Statement : Type 0 where
  pub text : List ℕ
  pub params : Row

-- the text of the statement that makes the table
abbrev pub create_text : List ℕ
create_text = codes "CREATE TABLE journal (number INTEGER PRIMARY KEY, line TEXT NOT NULL) STRICT"

-- the text of the statement that takes the table away
abbrev pub drop_text : List ℕ
drop_text = codes "DROP TABLE journal"

-- the text of the statement that inserts a line
abbrev pub insert_text : List ℕ
insert_text = codes "INSERT INTO journal (line) VALUES (?1)"

-- the text of the statement that reads the lines
abbrev pub select_text : List ℕ
select_text = codes "SELECT number, line FROM journal ORDER BY number"

-- the table is made
abbrev pub creation : Statement
creation = record { text = create_text; params = [] }

-- the table is taken away
abbrev pub removal : Statement
removal = record { text = drop_text; params = [] }

-- this line is inserted
abbrev pub insertion : List ℕ → Statement
insertion line = record { text = insert_text; params = Text line ∷ [] }

module _ {S : Type 0} (g : Ghosts S) where
  -- the statement was run within a transaction, with this result
  pub record Ran (one : Statement) (old new : Held S) (result : Result ℕ Error) : Type 0 where
    pub runs : ExecutesInside 0 one.text one.params (state g old) (state g new) result
    pub survives : Survives (state g old) (state g new) (λ _. ⊥)

  -- the statements were run within a transaction in turn, up to the first that failed
  abbrev pub RanInTurn : List Statement → Held S → Held S → Result (Unit {0}) Error → Type 0
  RanInTurn [] old new result = (result ≡ Ok tt) × (new ≡ old)
  RanInTurn (one ∷ more) old new result =
      ((e : Error) × (result ≡ Err e) × Ran one old new (Err e)) ⊎ ((mid : Held S) × (count : ℕ) × Ran one old mid (Ok count) × RanInTurn more mid new result)

  -- the statements keep nothing, for this error: a transaction was under way; or one of them failed, and all were taken back; or
  -- their commit failed
  abbrev pub FailsToKeep : List Statement → Held S → Held S → Error → Type 0
  FailsToKeep statements old new e =
      (IsTrue old.in_transaction × (e ≡ SqliteFailure TransactionState) × (new ≡ old))
      ⊎ ((last : Held S)
      × ((RanInTurn statements (record old { in_transaction = true }) last (Err e) × IsRolledBack (state g last) (state g new))
      ⊎ (RanInTurn statements (record old { in_transaction = true }) last (Ok tt) × FailsToCommit (state g last) (state g new) e)))
