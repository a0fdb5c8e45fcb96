use Rattle.std.proofs.Common.{◌≡◌, take, map}
use Rattle.serde_json.specs.View.{view}
use Rattle.ds_explore_summary.specs.Lines.{flaw_data}
use Rattle.ds_explore_summary.proofs.json.flaws_value.Given as goal

abbrev pub invariant-loop-flaw : goal.invariant-loop-flaw
invariant-loop-flaw l = map view l.items.items ≡ map flaw_data (take l.flaw-index l.flaws)
