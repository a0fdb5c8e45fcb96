use Rattle.ds_explore.proofs.Valued.{crashed_ok}
use Rattle.ds_explore.proofs.judge.crashed_texts.Goals as goal

pub returns : goal.returns
returns c = crashed_ok c.texts.result c.args.world.now c.in_ok-copy.copy c.end_order.new.world c.in_ok-copy.ensures c.end_order.ensures c.texts.ensures
