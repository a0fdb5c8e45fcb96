use Rattle.std.proofs.Common.{◌≡◌}
use Rattle.ds_layout.specs.SheetMemory.{memory}
use Rattle.ds_state.specs.Shown.{text_at}
use Rattle.ds_explore.specs.Judging.{texts_below, texts_of}
use Rattle.ds_explore.proofs.judge.texts.Given as goal

abbrev pub invariant-loop-cell : goal.invariant-loop-cell
invariant-loop-cell l = texts_of l.texts.items ≡ texts_below (text_at l.world.sheet.layout (memory l.world.sheet)) l.cell
