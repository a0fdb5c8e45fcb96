-- Closed queues that may be opened again.
use Rattle.std.specs.Prelude.{ℕ, ◌≡◌, ◌<◌, ◌≤◌, ◌*◌, List, length}
use Rattle.std.specs.Mem.Slots.{slots_items}
use Rattle.pm_base.specs.Structures.{In}
use Rattle.pm_board.specs.Rule.{HasSideLeft}
use Rattle.pm_board.specs.Views.{past_of}
use Rattle.pm_board.specs.declared.board.Seated.{Seated}
use Rattle.pq.specs.Places.{nodes}
use Rattle.pq.specs.Queue.{queue}
use Rattle.pq.specs.declared.calls.Doing.{Doing}
use Rattle.pq.specs.declared.calls.Response.{Response}
use Rattle.pq_seats.specs.Choices.{is_chosen}
use Rattle.pq_seats.specs.declared.fault.Fault.{Fault}
use Rattle.pq_seats.specs.declared.fault.Fault.TheVariants.{NoMemory, ShortChoice}
use Rattle.pq_seats.specs.declared.resting.RestingQueue.{RestingQueue}

-- both sides of its words
abbrev pub words_in : RestingQueue → List ℕ
words_in c = slots_items c.board.table.words

-- the processes, with what each was answered, that it remembers
abbrev pub remembered : RestingQueue → List (Seated Doing Response)
remembered c = past_of c.board.before

-- all that the one remembers the other remembers, of as many processes
pub record Remembers (old new : RestingQueue) : Type 0 where
  pub key : new.board.key ≡ old.board.key
  pub before : (e : Seated Doing Response) → In (remembered old) e → In (remembered new) e

-- a crash comes, before which the chosen words were evicted; what is remembered stays
pub record Crashes (choice : List ℕ) (old new : RestingQueue) : Type 0 where
  pub key : new.board.key ≡ old.board.key
  pub before : remembered new ≡ remembered old
  pub words : (n : ℕ) → n < 8 * nodes old.board.key → HasSideLeft (queue.apart old.board.key) (is_chosen choice n) (words_in old) (words_in new) n

-- why a crash is not made: the choice is too short, or an allocation failed
abbrev pub CanNotCrash : List ℕ → RestingQueue → Fault → Type 0
CanNotCrash choice c ShortChoice = length choice < 8 * nodes c.board.key
CanNotCrash choice c NoMemory = 8 * nodes c.board.key ≤ length choice
CanNotCrash choice c why = ⊥
