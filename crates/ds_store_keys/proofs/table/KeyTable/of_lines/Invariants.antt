use Rattle.std.proofs.Common.{◌≡◌, map, take}
use Rattle.std.specs.String.{string_bytes}
use Rattle.ds_store_keys.specs.Keys.{keys_of}
use Rattle.ds_store_keys.specs.Tables.{AreKeys}
use Rattle.ds_store_keys.proofs.table.KeyTable.of_lines.Given as goal

abbrev pub invariant-loop-line : goal.invariant-loop-line
invariant-loop-line l = AreKeys l.table (keys_of l.layout (map string_bytes (take l.line-index l.lines))) × (l.number ≡ l.line-index)
