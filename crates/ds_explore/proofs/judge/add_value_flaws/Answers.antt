use Rattle.ds_explore.proofs.Valued.{values_more, values_none}
use Rattle.ds_explore.proofs.judge.add_value_flaws.Goals as goal

pub loop-cell-init : goal.loop-cell-init
loop-cell-init c = values_none c.args.expected.now c.args.reported.now c.args.flaws.now.items

pub loop-cell-preserved : goal.loop-cell-preserved
loop-cell-preserved c =
    values_more c.args.expected.now c.args.reported.now c.loop-cell.cell c.args.flaws.now.items c.loop-cell.flaws.items c.add.new.flaws.items c.value_flaw.result c.loop-cell.invariant c.value_flaw.ensures c.in_ok-add.ensures
