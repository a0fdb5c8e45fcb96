use Rattle.std.proofs.Common.{◌≡◌, length}
use Rattle.ds_grid.specs.Labels.{begins_value}
use Rattle.ds_grid.proofs.form.begins_value.Given as goal

abbrev pub invariant-loop-rest : goal.invariant-loop-rest
invariant-loop-rest l = begins_value l.text ≡ begins_value l.rest

abbrev pub decreases-loop-rest : goal.decreases-loop-rest
decreases-loop-rest l = length l.rest
