-- Orders of cells.
use Rattle.std.specs.Prelude.{◌≡◌, ◌<◌, ℕ, List, All, Contains, length}

-- as many cells, by their numbers from 0, each of which stands in the list once
pub record IsOrder (cells : ℕ) (order : List ℕ) : Type 0 where
  pub count : length order ≡ cells
  pub below : All (λ c. c < cells) order
  pub each : (c : ℕ) → c < cells → Contains order c
