-- What is found in a list of positions.
use Rattle.std.specs.Prelude.{ℕ, List}
use Rattle.pm_explore.specs.Changes.{Agrees}
use Rattle.pm_explore.specs.Lists.{IsAt}
use Rattle.pm_explore.specs.declared.position.Position.{Position}

-- the list has a position with the same in all there
pub record IsFound {S T : Type 0} (xs : List (Position S T)) (x : Position S T) (i : ℕ) : Type 0 where
  pub found : Position S T
  pub at : IsAt xs i found
  pub same : Agrees found x
