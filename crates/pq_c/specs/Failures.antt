-- Failures as numbers, as C has them.
use Rattle.std.specs.Prelude.{ℕ}
use Rattle.pq_seats.specs.declared.fault.Fault.{Fault}
use Rattle.pq_seats.specs.declared.fault.Fault.TheVariants as fault
use Rattle.pq_c.specs.declared.failure.Failure.{Failure}
use Rattle.pq_c.specs.declared.failure.Failure.TheVariants.{Empty, Full, BadCount, NoProcess, TooSmall, NoMemory, WrongHolder, SeatTaken, Stopped, Spent}

-- the number of a failure; 0 is that of a call that was carried out, and 10 that of a pointer that is null
abbrev pub failure_number : Failure → ℕ
failure_number Empty = 1
failure_number Full = 2
failure_number BadCount = 3
failure_number NoProcess = 4
failure_number TooSmall = 8
failure_number NoMemory = 9
failure_number WrongHolder = 11
failure_number SeatTaken = 12
failure_number Stopped = 13
failure_number Spent = 14

-- the failure of a call on a queue that threads share
abbrev pub failure_of : Fault → Failure
failure_of fault.NoProcess = NoProcess
failure_of fault.SeatTaken = SeatTaken
failure_of fault.Stopped = Stopped
failure_of fault.Spent = Spent
failure_of fault.ShortChoice = TooSmall
failure_of fault.NoMemory = NoMemory
