-- Why the lines of a table are not read.
use Rattle.std.specs.Prelude.{◌≡◌, ◌⊎◌, ℕ, List, [], Any}
use Rattle.std.specs.Str.{IsUtf8}
use Rattle.ds_store_table.specs.declared.lines.LinesFault.{LinesFault}
use Rattle.ds_store_table.specs.declared.lines.LinesFault.TheVariants.{Database, Missing, NoMemory}
use Rattle.ds_store_table.specs.Statements.{select_text}
use Rattle.ds_store_table.specs.Tables.{BreakAt, Numbered}
use Rattle.sqlite.specs.declared.error.Error.{Error}
use Rattle.sqlite.specs.declared.error.Error.TheVariants.{SqliteFailure, Utf8Error}
use Rattle.sqlite.specs.declared.error.ErrorCode.TheVariants.{OutOfMemory}
use Rattle.sqlite.specs.State.{FailsToQuery, IsUnchanged, State}

-- the fault for an error of a database
abbrev pub fault_of : Error → LinesFault
fault_of (SqliteFailure OutOfMemory) = NoMemory
fault_of e = Database e

-- the fault is that the line is no text
abbrev pub IsNoText : LinesFault → Numbered → Type 0
IsNoText fault it = (fault ≡ Database (Utf8Error 1)) × ¬ IsUtf8 it.line

-- the lines that rows show are not read, for this fault: an allocation failed, or one of them is no text
abbrev pub FailsToTell : List Numbered → LinesFault → Type 0
FailsToTell all fault = (fault ≡ NoMemory) ⊎ Any (IsNoText fault) all

-- the lines are not read, for this fault: the query failed; or it went well and changed nothing, and what it showed is not read
abbrev pub FailsToRead : List Numbered → State → State → LinesFault → Type 0
FailsToRead all old new fault =
    ((e : Error) × FailsToQuery select_text [] old new e × (fault ≡ fault_of e)) ⊎ (IsUnchanged old new × FailsToTell all fault)

-- the fault is that this number is missing, the first one that is
abbrev pub TellsMissing : List Numbered → LinesFault → Type 0
TellsMissing all fault = (n : ℕ) × (lines : List (List ℕ)) × (fault ≡ Missing n) × BreakAt n lines all
