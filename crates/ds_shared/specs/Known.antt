-- What a pass's fields say of its seat at the table.
use Rattle.std.specs.Prelude.{ℕ, ◌≡◌, Bool, false, List, [], ◌∷◌, Some}
use Rattle.ds_state.specs.declared.situation.Situation.TheVariants.{Idle, Stopped}
use Rattle.pm_board.specs.Views.{lone, deeds_at, deeds_in, first_in, seen_at, seen_so_far}
use Rattle.ds_structure.specs.Calls.{second_rest}
use Rattle.ds_structure_shared.specs.Boards.{SheetDeed, SheetEntry, SheetPlace, SheetSeated, sole}

-- the seat has this one process, which has looked, and which is idle, and knows the second layout, where it is not stopped
pub record IsKnown (s : SheetPlace) (process number : ℕ) (stopped : Bool) : Type 0 where
  pub alone : s.me ≡ (lone (sole s), [])
  pub process_is : (sole s).process ≡ process
  pub idle : stopped ≡ false → (sole s).now ≡ Idle (second_rest number)
  pub looked : (sole s).deeds.seen ≡ Some (seen_at s.me)

-- the history of the sheet that the seat's process has seen, the last entry first
abbrev pub seen_by : SheetPlace → List SheetEntry
seen_by s = seen_at s.me

-- what the seat's process did at this sheet, the last thing first: each call that it began, and each answer
abbrev pub outcomes : SheetPlace → List SheetDeed
outcomes s = (deeds_at s.me).done

-- how many steps it took
abbrev pub steps_of : SheetPlace → ℕ
steps_of s = (deeds_at s.me).steps

-- the processes of sheets before, which a seat remembers with what they did
abbrev pub past_in : SheetPlace → List SheetSeated
past_in s = s.me.0.past

-- the seat runs no process: it remembers alone
abbrev pub IsMemory : SheetPlace → Type 0
IsMemory s = s.me ≡ (record { entries = []; past = past_in s }, [])

-- the history that the process had seen, as the seat was shown it
abbrev pub noted_by : SheetPlace → List SheetEntry
noted_by s = seen_so_far (deeds_in s.me.0.past).seen

-- the seat remembers one process alone, which had looked
pub record IsNote (s : SheetPlace) : Type 0 where
  pub one : s.me ≡ (record { entries = []; past = first_in Stopped s.me.0.past ∷ [] }, [])
  pub looked : (first_in Stopped s.me.0.past).deeds.seen ≡ Some (noted_by s)
