use Rattle.ds_text_values.proofs.Held.{contents_more, contents_none}
use Rattle.ds_text_values.proofs.values.contents.Goals as goal

pub loop-number-init : goal.loop-number-init
loop-number-init c = contents_none c.args.shape c.new-held.result.items c.new-held.ensures.items

pub loop-number-preserved : goal.loop-number-preserved
loop-number-preserved c =
    contents_more c.args.shape c.args.texts.now c.loop-number.number c.index-texts-number.result c.deref.result.now c.loop-number.held.items c.push.new.self.items c.in_ok-content.content c.loop-number-test.true c.index-texts-number.is c.deref.ensures.value
    c.loop-number.invariant c.in_ok-content.ensures c.in_ok-push.ensures.items
