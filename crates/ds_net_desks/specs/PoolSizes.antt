-- How many processes a server's sheet has.
use Rattle.std.specs.Prelude.{ℕ, ◌≡◌, length, min}
use Rattle.ds_net_desks.specs.declared.seat_pool.NoneFree.{NoneFree}
use Rattle.ds_net_desks.specs.declared.seat_pool.SeatPool.{SeatPool}

-- how many of its processes may be joined or work
abbrev pub count_of : SeatPool → ℕ
count_of pool = length pool.resting.items

-- each of the first processes, this number of them, was looked for, and somebody has it
abbrev pub NoneIsFree : SeatPool → ℕ → NoneFree → Type 0
NoneIsFree pool joins none = (none.from ≡ 0) × (none.count ≡ min joins (count_of pool))
