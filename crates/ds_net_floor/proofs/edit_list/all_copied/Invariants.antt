use Rattle.std.proofs.Common.{◌≡◌, map, take}
use Rattle.ds_server.specs.Replies.{entry_view}
use Rattle.ds_net_floor.proofs.edit_list.all_copied.Given as goal

abbrev pub invariant-loop-edit : goal.invariant-loop-edit
invariant-loop-edit l = map entry_view l.copies.items ≡ map entry_view (take l.edit-index l.edits)
