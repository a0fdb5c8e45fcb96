-- The words of the queue, by their numbers.
use Rattle.std.specs.Prelude.{ℕ, ◌+◌, ◌*◌, ◌<◌, ◌≤◌}

-- the word that names the node that follows a node
abbrev pub next_at : ℕ → ℕ
next_at node = 8 * node + 0

-- the word that names the operation that took a node
abbrev pub taker_at : ℕ → ℕ
taker_at node = 8 * node + 1

-- the word with the value of a node
abbrev pub value_at : ℕ → ℕ
value_at node = 8 * node + 2

-- the word that says that a node stands in the queue for good
abbrev pub linked_at : ℕ → ℕ
linked_at node = 8 * node + 3

-- the word with what an operation took
abbrev pub result_at : ℕ → ℕ
result_at operation = 8 * operation + 4

-- the word with the last operation that a process announced
abbrev pub announce_at : ℕ → ℕ
announce_at process = 8 * process + 5

-- how many nodes the queue of this many processes has: the sentinel, and one for each operation
abbrev pub nodes : ℕ → ℕ
nodes processes = 1024 * processes + 1

-- the operation is one of the process, which has 1024 of them
abbrev pub Belongs : ℕ → ℕ → Type 0
Belongs process operation = (1024 * process < operation) × (operation ≤ 1024 * process + 1024)

-- the operation of the process with this number, counted from 0
abbrev pub operation_of : ℕ → ℕ → ℕ
operation_of process number = 1024 * process + number + 1
