use Rattle.std.proofs.Common.{◌≡◌, take, map}
use Rattle.serde_json.specs.View.{view}
use Rattle.ds_server.specs.SessionTexts.{value_data}
use Rattle.ds_script_json.proofs.values.row_value.Given as goal

abbrev pub invariant-loop-value : goal.invariant-loop-value
invariant-loop-value l = map view l.items.items ≡ map value_data (take l.value-index l.values)
