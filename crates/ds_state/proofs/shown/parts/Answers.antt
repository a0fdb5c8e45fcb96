use Rattle.ds_state.proofs.ReadBack.{next_read}
use Rattle.ds_state.proofs.shown.parts.Goals as goal

pub loop-part-preserved : goal.loop-part-preserved
loop-part-preserved g c =
    next_read (g.W.SheetReader.seen c.args.words.now) c.args.edition c.args.process c.args.number c.args.count c.loop-part.part c.part_length-rest.result c.load-word.result c.loop-part.bytes.items c.part_bytes.result _
    c.loop-part.invariant c.part_length-rest.ensures c.load-word.ensures c.part_bytes.ensures c.in_ok-extend_from_slice.ensures.items
