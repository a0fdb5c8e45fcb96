use Rattle.std.proofs.Common.{map, take}
use Rattle.std.specs.Io.KnownBytes.{Appends}
use Rattle.std.specs.String.{string_bytes}
use Rattle.ds_store_commands.specs.Exports.{script_of}
use Rattle.ds_store_commands.proofs.exporting.write_lines.Given as goal

abbrev pub invariant-loop-line : goal.invariant-loop-line
invariant-loop-line g l = Appends (g.W.Write.contents l.fn.out) (g.W.Write.contents l.out) (script_of (map string_bytes (take l.line-index l.lines)))
