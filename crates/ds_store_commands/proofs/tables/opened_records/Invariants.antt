use Rattle.std.proofs.Common.{◌≡◌, map, take}
use Rattle.std.specs.Prelude.{Ok}
use Rattle.csv.specs.Records.{fields_of}
use Rattle.ds_a1.specs.Notation.{opens}
use Rattle.ds_store_commands.proofs.tables.opened_records.Given as goal

abbrev pub invariant-loop-row : goal.invariant-loop-row
invariant-loop-row l = map (map opens) (map fields_of (take l.row-index l.rows)) ≡ map (map Ok) (map fields_of l.opened.items)
