use Rattle.std.proofs.Common.{◌≡◌}
use Rattle.std.specs.Prelude.{vec_capacity}
use Rattle.ds_layout.specs.SheetMemory.{memory}
use Rattle.ds_core.proofs.Lost.{IsSifted}
use Rattle.ds_core.proofs.stop.lose.Given as goal

abbrev pub invariant-loop-i : goal.invariant-loop-i
invariant-loop-i l = IsSifted (memory l.fn.words) l.fn.counted.items l.counted.items l.i l.kept × (vec_capacity l.counted ≡ vec_capacity l.fn.counted)
