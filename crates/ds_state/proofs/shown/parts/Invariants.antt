use Rattle.std.proofs.Common.{◌≡◌}
use Rattle.ds_state.specs.Shown.{parts_at}
use Rattle.ds_state.proofs.shown.parts.Given as goal

abbrev pub invariant-loop-part : goal.invariant-loop-part
invariant-loop-part g l = l.bytes.items ≡ parts_at (g.W.SheetReader.seen l.words) l.edition l.process l.number l.count l.part
