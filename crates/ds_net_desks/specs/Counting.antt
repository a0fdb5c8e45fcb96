-- By which numbers the clients of a process know its edits.
use Rattle.std.specs.Prelude.{◌+◌, ◌-◌, ℕ, List, Option, Some, None, min, nat_le, if◌then◌else◌, slice_get}
use Rattle.ds_state.specs.declared.answer.Other.{Other}
use Rattle.ds_state.specs.declared.recovery.LastEdit.{LastEdit}
use Rattle.ds_server.specs.Replies as said
use Rattle.ds_net_desks.specs.declared.numbering.Numbering.{Numbering}

-- the greatest number of 64 bits
abbrev pub NUMBER_MOST : ℕ
NUMBER_MOST = 18446744073709551615

-- the number by which clients know the edit of this number of its sheet: those of the sheets before come first
abbrev pub number_by : Option Numbering → ℕ → ℕ
number_by None number = number
number_by (Some n) number = min (n.edits + (number - n.made)) NUMBER_MOST

-- the number by which clients know this edit of the process
abbrev pub number_seen : List Numbering → ℕ → ℕ → ℕ
number_seen numberings process number = number_by (slice_get numberings process) number

-- an edit of another process, as clients know it
abbrev pub other_seen : List Numbering → Other → Other
other_seen numberings by = record { process = by.process; number = number_seen numberings by.process by.number }

-- the last edit of a process as its clients know it: that which its sheet reports, or the last one of the sheets before where
-- the process has made none of its own in this one
abbrev pub last_by : Option Numbering → Option LastEdit → Option LastEdit
last_by None last = last
last_by (Some n) None = n.last
last_by (Some n) (Some e) = if nat_le n.made e.number then Some (record { number = number_by (Some n) e.number; cell = e.cell; counts = e.counts }) else n.last

-- the same, of the process
abbrev pub last_seen : List Numbering → ℕ → Option LastEdit → Option LastEdit
last_seen numberings process last = last_by (slice_get numberings process) last

-- what a client of the process is answered where its sheet says this
abbrev pub seen_by : List Numbering → ℕ → said.Said → said.Said
seen_by numberings process (said.Done number) = said.Done (number_seen numberings process number)
seen_by numberings process (said.Overtaken number by) = said.Overtaken (number_seen numberings process number) (other_seen numberings by)
seen_by numberings process (said.Tells last) = said.Tells (last_seen numberings process last)
seen_by numberings process (said.Joined q last) = said.Joined q (last_seen numberings process last)
seen_by numberings process other = other
