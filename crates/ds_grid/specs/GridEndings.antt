-- The texts of how the report of a grid ends.
use Rattle.std.specs.Prelude.{ℕ, List, ◌++◌, codes}
use Rattle.ds_formula.specs.Names.{cell_text, fault_text}
use Rattle.ds_grid.specs.declared.ending.GridFault.{GridFault}
use Rattle.ds_grid.specs.declared.ending.GridFault.TheVariants.{EmptyGrid, BadCsv, TooLarge}
use Rattle.ds_grid.specs.declared.ending.GridEnd.{GridEnd}
use Rattle.ds_grid.specs.declared.ending.GridEnd.TheVariants.{Ended, Grid, CellFault, TooLong, ReadFailed, WriteFailed, NoMemory}

-- the text of a fault of a grid's records
abbrev pub name_of_fault : GridFault → List ℕ
name_of_fault EmptyGrid = codes "empty grid"
name_of_fault BadCsv = codes "bad csv"
name_of_fault TooLarge = codes "grid too large"

-- the text of how the report of a grid ended; for the fault of a cell's text: `cell A1: NotWhole 2`
abbrev pub end_text : GridEnd → List ℕ
end_text Ended = codes "ended"
end_text (Grid fault) = name_of_fault fault
end_text (CellFault cell fault) = codes "cell " ++ (cell_text cell ++ (codes ": " ++ fault_text fault))
end_text TooLong = codes "grid too long: more than 1048576 bytes"
end_text ReadFailed = codes "the grid could not be read"
end_text WriteFailed = codes "the values could not be written"
end_text NoMemory = codes "out of memory"
