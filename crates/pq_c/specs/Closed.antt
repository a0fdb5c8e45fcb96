-- Crashes of closed queues.
use Rattle.std.specs.Prelude.{ℕ, ◌≡◌, ◌<◌, ◌≤◌, ◌*◌, List, length, Result, Ok, Err}
use Rattle.pq.specs.Places.{nodes}
use Rattle.pq_seats.specs.Resting.{Crashes}
use Rattle.pq_seats.specs.declared.resting.RestingQueue.{RestingQueue}
use Rattle.pq_c.specs.declared.failure.Failure.{Failure}
use Rattle.pq_c.specs.declared.failure.Failure.TheVariants.{Empty, NoMemory, TooSmall, WrongHolder}
use Rattle.pq_c.specs.Failures.{failure_number}

-- a crash comes, before which the chosen words were evicted, and the number of words is given; or the choice is too short,
-- which that number says; or an allocation failed
pub data CrashesClosed (choice : List ℕ) (before after : ℕ) (old : RestingQueue) (answered : Result (Unit {0}) Failure) (new : RestingQueue) : Type 0 where
  crashed : answered ≡ Ok tt → Crashes choice old new → after ≡ 8 * nodes old.board.key → CrashesClosed choice before after old answered new
  short : answered ≡ Err TooSmall → length choice < 8 * nodes old.board.key → new ≡ old → after ≡ 8 * nodes old.board.key → CrashesClosed choice before after old answered new
  memory : answered ≡ Err NoMemory → 8 * nodes old.board.key ≤ length choice → new ≡ old → after ≡ before → CrashesClosed choice before after old answered new

-- what the caller gets of a crash: a number; where no closed queue is held the number of words stays as it was
abbrev pub TellsCrash : ℕ → ℕ → Result (Unit {0}) Failure → ℕ → Type 0
TellsCrash before after (Ok answered) number = number ≡ 0
TellsCrash before after (Err Empty) number = (after ≡ before) × (number ≡ failure_number Empty)
TellsCrash before after (Err WrongHolder) number = (after ≡ before) × (number ≡ failure_number WrongHolder)
TellsCrash before after (Err why) number = number ≡ failure_number why
