-- What a fuse was asked.
use Rattle.std.specs.Prelude.{ℕ, ◌+◌}

-- between these two the fuse has said yes and no this often: whatever it has said since it was another one, it has said so
-- much more
abbrev pub Asked : {F : Type 0} → (F → F → ℕ → ℕ → Type 0) → F → F → ℕ → ℕ → Type 0
Asked said old new yes_more no_more = (first : _) (yeses noes : ℕ) → said first old yeses noes → said first new (yeses + yes_more) (noes + no_more)
