-- What a store answers for why it fails.
use Rattle.std.specs.Prelude.{⊤}
use Rattle.ds_store.specs.declared.fault.StoreFault.{StoreFault}
use Rattle.ds_store.specs.declared.fault.StoreFault.TheVariants.{Busy, Database, Edit, Foreign, Missing, NoMemory, OtherSheet}
use Rattle.ds_store_journal.specs.declared.fault.JournalFault.{JournalFault}
use Rattle.ds_store_journal.specs.declared.fault.JournalFault.TheVariants as journal
use Rattle.ds_store_table.specs.declared.lines.LinesFault.{LinesFault}
use Rattle.ds_store_table.specs.declared.lines.LinesFault.TheVariants as lines
use Rattle.sqlite.specs.declared.error.Error.{Error}
use Rattle.sqlite.specs.declared.error.Error.TheVariants.{SqlInputError, SqliteFailure}
use Rattle.sqlite.specs.declared.error.ErrorCode.TheVariants.{DatabaseBusy, OutOfMemory}

-- the answer for an error of a database
abbrev pub told_of : Error → StoreFault
told_of (SqliteFailure OutOfMemory) = NoMemory
told_of (SqliteFailure DatabaseBusy) = Busy
told_of (SqlInputError why) = Foreign
told_of e = Database e

-- the answer for why lines are not read
abbrev pub lines_told : LinesFault → StoreFault
lines_told (lines.Database e) = told_of e
lines_told (lines.Missing number) = Missing number
lines_told lines.NoMemory = NoMemory

-- the answer for why an edit or a key has no line
abbrev pub edit_told : JournalFault → StoreFault
edit_told journal.NoMemory = NoMemory
edit_told why = Edit why

-- the fault is of lines, or that an allocation failed: it is none of the database, of its file or of what was asked for
abbrev pub IsOfLines : StoreFault → Type 0
IsOfLines (Database e) = ⊥
IsOfLines Busy = ⊥
IsOfLines Foreign = ⊥
IsOfLines (OtherSheet columns rows processes) = ⊥
IsOfLines _ = ⊤
