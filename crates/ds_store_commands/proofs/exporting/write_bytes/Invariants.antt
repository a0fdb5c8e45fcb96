use Rattle.std.proofs.Common.{map, take}
use Rattle.std.specs.Io.KnownBytes.{Appends}
use Rattle.ds_store_commands.specs.Exports.{shown_byte}
use Rattle.ds_store_commands.proofs.exporting.write_bytes.Given as goal

abbrev pub invariant-loop-byte : goal.invariant-loop-byte
invariant-loop-byte g l = Appends (g.W.Write.contents l.fn.out) (g.W.Write.contents l.out) (map shown_byte (take l.byte-index l.line))
