use Rattle.ds_eval.proofs.Rounds.{begun_behind}
use Rattle.ds_eval.proofs.guess.blank_table.Goals as goal

pub push-requires-clause-behind : goal.push-requires-clause-behind
push-requires-clause-behind c = begun_behind c.args.shape c.loop-k.k c.loop-k.table.items c.cell-cell.result c.loop-k.invariant.begun c.cell-cell.ensures.value
