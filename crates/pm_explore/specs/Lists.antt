-- What stands where in a list.
use Rattle.std.specs.Prelude.{ℕ, suc, ◌≡◌, ◌<◌, ◌==◌, if◌then◌else◌, List, [], ◌∷◌, length, slice_index_or}

-- the list has this at that place, counted from 0
pub record IsAt {X : Type 0} (xs : List X) (k : ℕ) (x : X) : Type 0 where
  pub low : k < length xs
  pub is : slice_index_or xs k x ≡ x

-- the first place where the list has this number; where it does not, its length
abbrev pub slot : List ℕ → ℕ → ℕ
slot [] n = 0
slot (m ∷ ms) n = if n == m then 0 else suc (slot ms n)
