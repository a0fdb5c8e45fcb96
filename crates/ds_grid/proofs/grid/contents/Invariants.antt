use Rattle.std.proofs.Common.{◌≡◌, length, map}
use Rattle.csv.specs.Records.{fields_of}
use Rattle.ds_grid.specs.Grids.{AreRead}
use Rattle.ds_grid.proofs.grid.contents.Given as goal

abbrev pub invariant-loop-index : goal.invariant-loop-index
invariant-loop-index l = record {
  read : AreRead l.form l.shape (map fields_of l.records) l.contents.items;
  all : length l.contents.items ≡ l.index;
}
