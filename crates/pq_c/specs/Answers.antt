-- How calls end, as rows of numbers.
use Rattle.std.specs.Prelude.{ℕ, ◌*◌, ◌/◌, ◌-◌, Option, Some, None}
use Rattle.pq.specs.declared.calls.Ended.{Ended}
use Rattle.pq.specs.declared.calls.Ended.TheVariants as ended
use Rattle.pq.specs.declared.recover.Found.{Found}
use Rattle.pq.specs.declared.recover.Found.TheVariants as found
use Rattle.pq_shared.specs.declared.calls.Recovery.{Recovery}
use Rattle.pq_c.specs.declared.answer.AnswerRow.{AnswerRow}
use Rattle.pq_c.specs.declared.answer.AnswerKind.{AnswerKind}
use Rattle.pq_c.specs.declared.answer.AnswerKind.TheVariants as kind

-- the number of a kind of answer, from 1
abbrev pub kind_number : AnswerKind → ℕ
kind_number kind.Enqueued = 1
kind_number kind.Got = 2
kind_number kind.Empty = 3
kind_number kind.Stopped = 4
kind_number kind.Torn = 5
kind_number kind.Nothing = 6
kind_number kind.WasEnqueued = 7
kind_number kind.NotEnqueued = 8
kind_number kind.NotDequeued = 9

-- a row of these
abbrev pub row : AnswerKind → ℕ → ℕ → AnswerRow
row k number value = record { kind = kind_number k; number = number; value = value }

-- how the operation with this number ended
abbrev pub end_row : ℕ → Ended → AnswerRow
end_row n ended.Enqueued = row kind.Enqueued n 0
end_row n (ended.Got x) = row kind.Got n x
end_row n ended.Empty = row kind.Empty n 0
end_row n (ended.Recovered f) = row kind.Torn n 0
end_row n ended.Torn = row kind.Torn n 0

-- or that its fuse broke it off
abbrev pub ended_row : ℕ → Option Ended → AnswerRow
ended_row n None = row kind.Stopped n 0
ended_row n (Some e) = end_row n e

-- what a recovery found of the operation with this number
abbrev pub found_row : ℕ → Found → AnswerRow
found_row n found.Nothing = row kind.Nothing 0 0
found_row n found.WasEnqueued = row kind.WasEnqueued n 0
found_row n found.NotEnqueued = row kind.NotEnqueued n 0
found_row n (found.Got x) = row kind.Got n x
found_row n found.Empty = row kind.Empty n 0
found_row n found.NotDequeued = row kind.NotDequeued n 0

-- the number of the operation that a process announced by this word
abbrev pub number_of : ℕ → ℕ → ℕ
number_of process announced = announced / 2 - 1024 * process - 1

-- how a recovery of the process ended, which read this announcement
abbrev pub recovered_row : ℕ → ℕ → Ended → AnswerRow
recovered_row process announced (ended.Recovered f) = found_row (number_of process announced) f
recovered_row process announced _ = row kind.Torn 0 0

-- or that its fuse broke it off
abbrev pub recovery_row : ℕ → Option Recovery → AnswerRow
recovery_row process None = row kind.Stopped 0 0
recovery_row process (Some r) = recovered_row process r.announced r.ended
