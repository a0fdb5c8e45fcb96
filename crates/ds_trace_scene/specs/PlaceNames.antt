-- The names of places, as scripts write them.
use Rattle.std.specs.Prelude.{ℕ, List, ◌++◌, codes}
use Rattle.std.specs.Fmt.{decimal}
use Rattle.ds_formula.specs.Cells.{cell_at}
use Rattle.ds_formula.specs.Names.{cell_text}
use Rattle.ds_layout.specs.declared.layout.Layout.{Layout}
use Rattle.ds_layout.specs.declared.place.Edition.TheVariants.{First, Second}
use Rattle.ds_layout.specs.declared.place.Place.{Place}
use Rattle.ds_layout.specs.declared.place.Place.TheVariants as place

-- a kind of word, and the cell that it is of
abbrev pub name_by_cell : Layout → List ℕ → ℕ → List ℕ
name_by_cell layout kind cell = kind ++ (codes " " ++ cell_text (cell_at layout.shape cell))

-- a kind of word, and the edit and the part of its text that it is of
abbrev pub name_by_part : List ℕ → ℕ → ℕ → ℕ → List ℕ
name_by_part kind process number part = kind ++ (decimal process ++ (codes " " ++ (decimal number ++ (codes " " ++ decimal part))))

-- the name of a place
abbrev pub name_of : Layout → Place → List ℕ
name_of layout place.Version = codes "version"
name_of layout (place.Head cell) = name_by_cell layout (codes "head") cell
name_of layout (place.Mark cell) = name_by_cell layout (codes "mark") cell
name_of layout (place.Value cell) = name_by_cell layout (codes "value") cell
name_of layout (place.Kind cell) = name_by_cell layout (codes "kind") cell
name_of layout (place.Index row part) = codes "index " ++ (cell_text (cell_at layout.shape row) ++ (codes " " ++ decimal part))
name_of layout (place.Announce process) = codes "announce " ++ decimal process
name_of layout (place.Header process number) = codes "header " ++ (decimal process ++ (codes " " ++ decimal number))
name_of layout (place.Text First process number part) = name_by_part (codes "text ") process number part
name_of layout (place.Text Second process number part) = name_by_part (codes "newtext ") process number part
name_of layout (place.Done process part) = codes "done " ++ (decimal process ++ (codes " " ++ decimal part))
