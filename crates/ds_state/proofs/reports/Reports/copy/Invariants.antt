use Rattle.std.proofs.Common.{◌≡◌, map, take}
use Rattle.std.specs.Vec.{vec_capacity}
use Rattle.ds_state.specs.Reports.{HaveRoom}
use Rattle.ds_state.proofs.reports.Reports.copy.Given as goal

abbrev pub invariant-loop-report : goal.invariant-loop-report
invariant-loop-report l = record {
  same : map (λ v. v.items) l.values.items ≡ map (λ v. v.items) (take l.report-index l.report-items);
  room : HaveRoom l.cells (map (λ v. vec_capacity v) l.values.items);
}
