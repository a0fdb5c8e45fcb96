use Rattle.std.proofs.Common.{◌≡◌, take, map}
use Rattle.ds_server.specs.Replies.{entry_view}
use Rattle.ds_server.specs.WorldDesks.{entry_of}
use Rattle.ds_server.proofs.world.listed_all.Given as goal

abbrev pub invariant-loop-edit : goal.invariant-loop-edit
invariant-loop-edit l = map entry_view l.list.items ≡ map (entry_of l.shape) (take l.edit-index l.edits)
