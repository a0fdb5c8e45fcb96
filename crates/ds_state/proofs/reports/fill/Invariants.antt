use Rattle.std.proofs.Common.{◌≡◌, map}
use Rattle.std.specs.Vec.{vec_capacity}
use Rattle.std.specs.List.{range_with_len}
use Rattle.ds_state.specs.KnownShow.{noted}
use Rattle.ds_state.specs.Standing.{shown_entry}
use Rattle.ds_state.proofs.reports.fill.Given as goal

abbrev pub invariant-loop-cell : goal.invariant-loop-cell
invariant-loop-cell l = (vec_capacity l.report ≡ vec_capacity l.fn.report)
    × (l.report.items ≡ map (λ c. (shown_entry l.cells (noted l.values c) (noted l.kinds c)).value) (range_with_len 0 l.cell))
