use Rattle.std.proofs.Common.{ℕ, List, subst}
use Rattle.ds_formula.specs.Limits.{INPUT_MOST}
use Rattle.ds_script_stops.specs.StopBlocks.{StopsInRange}
use Rattle.ds_batch.proofs.run.stop_read.Goals as goal

pub returns : goal.returns
returns g c some =
    let stops = c.stop_in_range.ensures.writes some in
    (stops.0, stops.1, subst (λ (script : List ℕ). StopsInRange c.args.range INPUT_MOST script stops.0 c.stop_in_range.result) c.text.ensures stops.2)
