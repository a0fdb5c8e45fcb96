use Rattle.ds_explore.specs.Lines.{IsLines}
use Rattle.ds_explore.proofs.lines.lines_text.Given as goal

abbrev pub invariant-loop-line : goal.invariant-loop-line
invariant-loop-line l = IsLines l.shape l.text.items
