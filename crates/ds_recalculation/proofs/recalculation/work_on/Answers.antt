use Rattle.ds_calls.proofs.Settles.{whole_free}
use Rattle.ds_recalculation.proofs.Recalculated.{work_keeps_layout}
use Rattle.ds_recalculation.proofs.recalculation.work_on.Goals as goal

pub returns : goal.returns
returns c =
    let w = c.whole_work_on-answered.ensures in
    record {
      result = c.whole_work_on-answered.result;
      whole = w.whole;
      stop_is = c.stop_of.ensures;
      layout = work_keeps_layout c.args.process c.args.cell c.args.world.now c.whole_work_on-answered.result c.whole_work_on-answered.new.world w.whole;
      free = whole_free c.args.process c.args.world.now c.whole_work_on-answered.new.world c.whole_work_on-answered.result w.idle w.unchanged;
    }
