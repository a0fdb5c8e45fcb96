-- A table as JSON.
use Rattle.std.specs.Prelude.{ℕ, ◌≡◌, ◌++◌, List, [], ◌∷◌, map, codes}
use Rattle.serde_json.specs.Data.{Data, string, array, object, no_members, member}
use Rattle.serde_json.specs.View.{items_of}
use Rattle.serde_json.specs.Written.{compact_text}
use Rattle.ds_grid.specs.Grids.{IsCsv}

-- a record as JSON: an array of texts
abbrev pub record_data : List (List ℕ) → Data
record_data fields = array (items_of (map string fields))

-- the records of a table as JSON: {"rows":[["3",""],["",""]]}
abbrev pub table_data : List (List (List ℕ)) → Data
table_data rows = object (member (codes "rows") (array (items_of (map record_data rows))) no_members)

-- the line has the records that a table of CSV has, as JSON without spaces
pub record IsTableLine (table line : List ℕ) : Type 0 where
  pub rows : List (List (List ℕ))
  pub csv : IsCsv table rows
  pub is : line ≡ compact_text (table_data rows) ++ 10 ∷ []
