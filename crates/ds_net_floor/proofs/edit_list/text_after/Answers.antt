use Rattle.std.proofs.Common.{map}
use Rattle.ds_server.specs.Replies.{entry_view}
use Rattle.ds_net_floor.proofs.Lists.{has_text}
use Rattle.ds_net_floor.proofs.edit_list.text_after.Goals as goal

pub returns-in-Some : goal.returns-in-Some
returns-in-Some c = has_text c.args.cell (map entry_view c.args.edits.now) (map entry_view c.in-Some.field-0-1.now) (entry_view c.in-Some.edit.now) c.text_of.result c.in-Some.ensures.some c.text_of.ensures
