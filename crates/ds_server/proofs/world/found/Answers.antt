use Rattle.std.specs.Prelude.{option_map}
use Rattle.ds_server.specs.Replies.{entry_view}
use Rattle.ds_server.proofs.Edits.{last_in, value_in}
use Rattle.ds_server.proofs.world.found.Goals as goal

pub returns : goal.returns
returns c = (
  value_in c.args.world.now c.args.cell c.shape-shape.result c.index-index.result c.counted.result.now c.shape-shape.ensures c.index-index.ensures.value c.counted.ensures c.args.values.now c.value_at-value.result c.value_at-value.ensures,
  last_in c.args.world.now c.args.cell c.shape-shape.result c.index-index.result c.counted.result.now c.shape-shape.ensures c.index-index.ensures.value c.counted.ensures (option_map entry_view c.in_ok-edit.edit) c.in_ok-edit.ensures,
)
