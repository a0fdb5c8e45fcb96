use Rattle.std.proofs.Common.{◌≡◌, ◌<◌, ℕ, map}
use Rattle.std.specs.Prelude.{Vec, slice_index_or}
use Rattle.std.specs.Global.{Global}
use Rattle.csv.specs.Records.{fields_of}
use Rattle.ds_formula.specs.Cells.{cell_at}
use Rattle.ds_grid.specs.Grids.{cell_field}
use Rattle.ds_store_commands.proofs.tables.are_texts.Given as goal

abbrev pub invariant-loop-index : goal.invariant-loop-index
invariant-loop-index l = (k : ℕ) (d : Vec ℕ Global) → k < l.index → cell_field (map fields_of l.rows) (cell_at l.texts.layout.shape k) ≡ (slice_index_or l.texts.texts.items k d).items
