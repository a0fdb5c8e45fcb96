use Rattle.ds_net_floor.specs.Entries.{entries}
use Rattle.ds_net_values.proofs.Texts.{texts_more, texts_none}
use Rattle.ds_net_values.proofs.values.texts_in.Goals as goal

pub loop-number-init : goal.loop-number-init
loop-number-init c = texts_none c.args.shape (entries c.args.list.now) c.in_ok-texts.texts.items c.in_ok-texts.ensures.items

pub loop-number-preserved : goal.loop-number-preserved
loop-number-preserved c =
    texts_more c.args.shape (entries c.args.list.now) c.loop-number.number c.loop-number.texts.items c.push.new.self.items c.in_ok-text.text c.cell.result c.loop-number.invariant c.in_ok-text.ensures c.cell.ensures.value
    c.in_ok-push.ensures.items
