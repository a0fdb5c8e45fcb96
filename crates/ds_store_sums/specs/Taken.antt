-- What sums know of the lines that were added.
use Rattle.std.specs.Prelude.{ℕ, List}
use Rattle.sha2.specs.Hashers.{Holds256}
use Rattle.ds_store_sums.specs.declared.sums.LineSums.{LineSums}
use Rattle.ds_store_sums.specs.Sums.{AreSummed, bytes_of}

-- these lines were added, and have their sums
pub record IsAt (s : LineSums) (lines : List (List ℕ)) : Type 0 where
  pub holds : Holds256 s.hasher (bytes_of lines)
  pub summed : AreSummed lines s.tail
