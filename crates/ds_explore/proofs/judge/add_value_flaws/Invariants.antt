use Rattle.ds_explore.specs.Judging.{AddsValueFlaws}
use Rattle.ds_explore.proofs.judge.add_value_flaws.Given as goal

abbrev pub invariant-loop-cell : goal.invariant-loop-cell
invariant-loop-cell l = AddsValueFlaws l.expected l.reported l.cell l.fn.flaws.items l.flaws.items
