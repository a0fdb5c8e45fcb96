use Rattle.ds_explore.proofs.Telling.{comes_ok}
use Rattle.ds_explore.proofs.judge.Judge.comes_to.Goals as goal

pub returns : goal.returns
returns c =
    comes_ok c.outcome.result c.args.self.now c.args.position.now c.args.crashed c.in_ok-world.world c.end_order.new.world c.deref.result.now c.in_ok-world.ensures c.end_order.ensures c.deref.ensures.value c.outcome.ensures
