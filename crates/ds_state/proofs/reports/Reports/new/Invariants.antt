use Rattle.std.proofs.Common.{◌≡◌, [], map, replicate}
use Rattle.std.specs.Vec.{vec_capacity}
use Rattle.ds_state.specs.Reports.{HaveRoom}
use Rattle.ds_state.proofs.reports.Reports.new.Given as goal

abbrev pub invariant-loop : goal.invariant-loop
invariant-loop l = (map (λ v. v.items) l.values.items ≡ replicate l.counter []) × HaveRoom l.cells (map (λ v. vec_capacity v) l.values.items)
