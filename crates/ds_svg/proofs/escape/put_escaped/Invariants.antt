use Rattle.std.proofs.Common.{◌≡◌, ◌++◌, take}
use Rattle.ds_svg.specs.Markup.{escaped}
use Rattle.ds_svg.proofs.escape.put_escaped.Given as goal

abbrev pub invariant-loop-byte : goal.invariant-loop-byte
invariant-loop-byte l = l.text.items ≡ l.fn.text.items ++ escaped (take l.byte-index l.bytes)
