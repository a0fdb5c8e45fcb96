-- The edits of a list.
use Rattle.std.specs.Prelude.{List, map}
use Rattle.ds_server.specs.Replies.{EditEntry, entry_view}
use Rattle.ds_net_floor.specs.declared.edit_list.EditList.{EditList}

-- the edits of a list, in the order in which they count
abbrev pub entries : EditList → List EditEntry
entries list = map entry_view list.edits.items
