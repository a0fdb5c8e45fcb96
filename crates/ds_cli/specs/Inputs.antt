-- Which file a command reads that reads standard input where none is named.
use Rattle.std.specs.Prelude.{◌≡◌, ◌≢◌, ◌⊎◌, List, Option, Some, None, codes}
use Rattle.std.specs.Borrow.{Bor}
use Rattle.clap.specs.Words.{Row, Text, first_of}

-- the matches name this file, or standard input: that by no name, or by `-`
abbrev pub IsInput : List Row → Option (Bor Text) → Type 0
IsInput rows (Some path) = (first_of (codes "file") rows ≡ Some path.now) × (path.now ≢ codes "-")
IsInput rows None = (first_of (codes "file") rows ≡ None) ⊎ (first_of (codes "file") rows ≡ Some (codes "-"))
