use Rattle.std.proofs.Common.{◌≡◌, ◌+◌, map, take}
use Rattle.std.specs.String.{string_bytes}
use Rattle.ds_store_commands.specs.Logs.{edits_in}
use Rattle.ds_store_commands.proofs.log.first_edits.Given as goal

abbrev pub invariant-loop-line : goal.invariant-loop-line
invariant-loop-line l = record {
  edits : edits_in (map string_bytes (take l.line-index l.lines)) + l.left ≡ l.edits;
  count : l.count ≡ l.line-index;
}
