use Rattle.std.proofs.Common.{ℕ, ◌≡◌, ◌<◌, length, map}
use Rattle.csv.specs.Records.{fields_of}
use Rattle.ds_grid.specs.Grids.{width}
use Rattle.ds_grid.proofs.grid.shape_of.Given as goal

abbrev pub invariant-loop-record : goal.invariant-loop-record
invariant-loop-record l = record {
  even : (row : ℕ) → row < l.record-index → width (map fields_of l.records) row ≡ l.columns;
  first : l.columns ≡ width (map fields_of l.records) 0;
  some : 0 < length l.records;
}
