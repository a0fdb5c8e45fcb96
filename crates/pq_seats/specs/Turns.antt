-- Passes that come back.
use Rattle.std.specs.Prelude.{◌≡◌, List, All}
use Rattle.pq_seats.specs.declared.pass.Pass.{Pass}

-- both passes are of one process of one queue
abbrev pub IsSame : Pass → Pass → Type 0
IsSame first later = (later.place.table_id ≡ first.place.table_id) × (later.process ≡ first.process)

-- the pass is of the process and the queue of each of these
abbrev pub IsSameAll : List Pass → Pass → Type 0
IsSameAll before later = All (λ first. IsSame first later) before
