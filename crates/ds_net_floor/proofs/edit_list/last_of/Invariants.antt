use Rattle.std.proofs.Common.{length, map}
use Rattle.ds_server.specs.Replies.{entry_view}
use Rattle.ds_net_floor.proofs.Lists.{AreLeft}
use Rattle.ds_net_floor.proofs.edit_list.last_of.Given as goal

abbrev pub invariant-loop-edit : goal.invariant-loop-edit
invariant-loop-edit l = AreLeft l.cell (map entry_view l.edits) (map entry_view l.rest)

abbrev pub decreases-loop-edit : goal.decreases-loop-edit
decreases-loop-edit l = length l.rest
