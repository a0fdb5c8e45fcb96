-- What is told is of lines.
use Rattle.std.proofs.Common.{ℕ}
use Rattle.ds_store.specs.Opened.{fault_at}
use Rattle.ds_store.specs.Told.{IsOfLines, edit_told}
use Rattle.ds_store_journal.specs.declared.fault.JournalFault.{JournalFault}
use Rattle.ds_store_journal.specs.declared.fault.JournalFault.TheVariants.{KeyAgain, NoEdit, NoMemory, NoSheet, NotDone, Other, Refused}

pub at_line : (number : ℕ) (why : JournalFault) → IsOfLines (fault_at number why)
at_line number NoMemory = tt
at_line number NoSheet = tt
at_line number NoEdit = tt
at_line number (Refused why) = tt
at_line number NotDone = tt
at_line number Other = tt
at_line number KeyAgain = tt

pub of_edits : (why : JournalFault) → IsOfLines (edit_told why)
of_edits NoMemory = tt
of_edits NoSheet = tt
of_edits NoEdit = tt
of_edits (Refused why) = tt
of_edits NotDone = tt
of_edits Other = tt
of_edits KeyAgain = tt
