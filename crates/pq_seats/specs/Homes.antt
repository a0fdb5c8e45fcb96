-- Homes, where passes lie while nobody has taken them.
use Rattle.std.specs.Prelude.{ℕ, ◌≡◌, ◌<◌, List, [], ◌∷◌, All, length, slice_index_or, take}
use Rattle.std.specs.Global.{Global}
use mathlib.Core.List.{IsPrefix}
use Rattle.rtrb.specs.Ring.{known_free, known_items, received, sent, ConsumerLooked}
use Rattle.rtrb.specs.declared.producer.Producer.{Producer}
use Rattle.pq_seats.specs.declared.pass.Pass.{Pass}
use Rattle.pq_seats.specs.Known.{IsOf}
use Rattle.atomic_table.specs.Seated.{TableId}
use Rattle.pq_seats.specs.declared.ring.Home.{Home}
use Rattle.pq_seats.specs.declared.ring.OneProcess.{OneProcess}

-- the pass that lies in a home, if it is known that one does
abbrev pub in_home : Home → List Pass
in_home h = take 1 (known_items h.end)

-- a pass is known to lie in the home
abbrev pub IsFull : Home → Type 0
IsFull h = 0 < length (known_items h.end)

-- the home has been looked at, and more may be known to lie in it
abbrev pub HomeLooked : Home → Home → Type 0
HomeLooked old new = (new.process ≡ old.process) × ConsumerLooked old.end new.end

-- each of these homes may have been looked at
abbrev pub AreLooked : List Home → List Home → Type 0
AreLooked old new = (length new ≡ length old) × ((k : ℕ) (d : Home) → k < length old → HomeLooked (slice_index_or old k d) (slice_index_or new k d))

-- every pass that came out of the home is of the queue
abbrev pub IsHomeOf : TableId → ℕ → Home → Type 0
IsHomeOf t n h = All (λ p. IsOf t n p) (received h.end)

-- the home lends the pass that lay in it, with the end by which it comes back: of its process, and of each queue that the
-- home is of
pub record Lends (old new : Home) (back : Producer Pass Global OneProcess) (p : Pass) : Type 0 where
  pub process : p.process ≡ old.process
  pub came : (rest : List Pass) × IsPrefix (known_items old.end) (p ∷ rest)
  pub of : (t : TableId) (n : ℕ) → IsHomeOf t n old → IsOf t n p
  pub through : sent back ≡ p ∷ []
  pub room : 0 < known_free back
