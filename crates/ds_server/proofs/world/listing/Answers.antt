use Rattle.std.proofs.Common.{ap, length, map}
use Rattle.ds_server.specs.Replies.{entry_view}
use Rattle.ds_server.proofs.Edits.{lists_part}
use Rattle.ds_server.proofs.world.listing.Goals as goal

pub returns-in-Ok : goal.returns-in-Ok
returns-in-Ok c = (
  lists_part c.shape-shape.result c.args.world.now.sheet.layout.shape c.args.from c.args.most (map entry_view c.in-Ok.edits.items) c.part.result.now c.counted-counted.result.now c.args.world.now.counted
      c.shape-shape.ensures c.in-Ok.ensures c.part.ensures c.counted-counted.ensures,
  ap length c.counted-counted.ensures,
)
