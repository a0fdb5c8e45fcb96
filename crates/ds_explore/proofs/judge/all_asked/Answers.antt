use Rattle.ds_explore.proofs.Valued.{asked_more, asked_none}
use Rattle.ds_explore.proofs.judge.all_asked.Goals as goal

pub loop-number-init : goal.loop-number-init
loop-number-init c = asked_none c.new-all.result.items c.new-all.ensures.items

pub loop-number-preserved : goal.loop-number-preserved
loop-number-preserved c =
    asked_more c.args.situations.now c.loop-number.number c.index-situations-number.result c.in_ok-edit_of.field-0 c.loop-number.all.items c.push.new.self.items c.loop-number-test.true c.index-situations-number.is c.in_ok-edit_of.ensures c.loop-number.invariant
    c.in_ok-push.ensures.items
