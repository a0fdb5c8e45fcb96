-- What a process announces.
use Rattle.std.specs.Prelude.{ℕ, ◌+◌, ◌-◌, ◌*◌, ◌/◌, ◌%◌, ◌<◌, ◌==◌, Option, Some, None, nat_lt, ◌||◌, if◌then◌else◌}
use Rattle.ds_layout.specs.declared.place.TheConstants.{RECORDS}
use Rattle.ds_layout.specs.declared.announcement.Phase.{Phase}
use Rattle.ds_layout.specs.declared.announcement.Phase.TheVariants.{Pending, Done, NotDone}
use Rattle.ds_layout.specs.declared.announcement.Announcement.{Announcement}

-- the number of the announcement is that of a record
abbrev pub IsAnnouncement : Announcement → Type 0
IsAnnouncement a = a.number < RECORDS

-- the code of a phase in an announcement's word
abbrev pub phase_code : Phase → ℕ
phase_code Pending = 1
phase_code Done = 2
phase_code NotDone = 3

-- the word of an announcement: its number, from 1 on, and the code of its phase
abbrev pub announcement_word : Announcement → ℕ
announcement_word a = (a.number + 1) * 4 + phase_code a.phase

-- the announcement of this number whose phase has this code: none where no phase has it
abbrev pub announcement_with : ℕ → ℕ → Option Announcement
announcement_with number code =
    if code == 1 then Some (record { number = number; phase = Pending })
    else (if code == 2 then Some (record { number = number; phase = Done })
    else (if code == 3 then Some (record { number = number; phase = NotDone })
    else None))

-- the number after the one in an announcement's word: 0 where nothing is announced
abbrev pub number_after : ℕ → ℕ
number_after word = word / 4

-- the announcement that the word is: none where the phase is 0 or the number is no record's
abbrev pub announcement_of : ℕ → Option Announcement
announcement_of word =
    if number_after word == 0 || nat_lt RECORDS (number_after word)
    then None
    else announcement_with (number_after word - 1) (word % 4)
