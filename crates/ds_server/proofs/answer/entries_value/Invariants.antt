use Rattle.std.proofs.Common.{◌≡◌, take, map}
use Rattle.serde_json.specs.View.{view}
use Rattle.ds_server.specs.Replies.{entry_view}
use Rattle.ds_server.specs.SessionTexts.{entry_data}
use Rattle.ds_server.proofs.answer.entries_value.Given as goal

abbrev pub invariant-loop-edit : goal.invariant-loop-edit
invariant-loop-edit l = map view l.items.items ≡ map entry_data (map entry_view (take l.edit-index l.edits))
