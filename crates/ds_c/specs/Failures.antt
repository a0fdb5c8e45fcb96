-- The numbers of failures, as C has them.
use Rattle.std.specs.Prelude.{ℕ}
use Rattle.ds_shared_seats.specs.declared.fault.Fault.{Fault}
use Rattle.ds_shared_seats.specs.declared.fault.Fault.TheVariants as fault
use Rattle.ds_c.specs.declared.failure.Failure.{Failure}
use Rattle.ds_c.specs.declared.failure.Failure.TheVariants.{Empty, Full, BadShape, NoProcess, NoCell, NoWord, NoTask, TooSmall, NoMemory, WrongHolder, SeatTaken}

-- the number of a failure; 0 is that of a call that was carried out, and 10, of the header, that of a null pointer
abbrev pub failure_number : Failure → ℕ
failure_number Empty = 1
failure_number Full = 2
failure_number BadShape = 3
failure_number NoProcess = 4
failure_number NoCell = 5
failure_number NoWord = 6
failure_number NoTask = 7
failure_number TooSmall = 8
failure_number NoMemory = 9
failure_number WrongHolder = 11
failure_number SeatTaken = 12

-- the failure that stands for a fault of a sheet that threads share
abbrev pub failure_of : Fault → Failure
failure_of fault.NoProcess = NoProcess
failure_of fault.NoCell = NoCell
failure_of fault.SeatTaken = SeatTaken
failure_of fault.ShortChoice = TooSmall
failure_of fault.NoMemory = NoMemory
