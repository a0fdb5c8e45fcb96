use Rattle.std.proofs.Common.{◌≡◌, map, take}
use Rattle.std.specs.Prelude.{Ok, string_bytes}
use Rattle.ds_a1_script.specs.EditLines.{line_opens}
use Rattle.ds_a1_script.specs.declared.lines.Commands.TheVariants.{OfScript}
use Rattle.ds_batch.proofs.lines.lines_from_a1.Given as goal

abbrev pub invariant-loop-line : goal.invariant-loop-line
invariant-loop-line g l = map (line_opens OfScript) (map string_bytes (take l.line-index l.lines)) ≡ map Ok (map string_bytes l.opened.items)
