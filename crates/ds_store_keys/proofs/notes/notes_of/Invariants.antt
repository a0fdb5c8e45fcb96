use Rattle.std.proofs.Common.{◌≡◌, map, take}
use Rattle.std.specs.String.{string_bytes}
use Rattle.ds_store_keys.specs.Keys.{keys_of}
use Rattle.ds_store_keys.proofs.notes.notes_of.Given as goal

abbrev pub invariant-loop-line : goal.invariant-loop-line
invariant-loop-line l = l.notes.items ≡ keys_of l.layout (map string_bytes (take l.line-index l.lines))
