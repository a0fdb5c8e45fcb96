use Rattle.std.proofs.Common.{◌≡◌}
use Rattle.std.specs.Prelude.{replicate}
use Rattle.ds_state.specs.declared.situation.Situation.TheVariants.{Idle}
use Rattle.ds_state.proofs.making.idle.Given as goal
use Rattle.ds_state.specs.Value.{rest_in}

abbrev pub invariant-loop : goal.invariant-loop
invariant-loop l = l.situations.items ≡ replicate l.counter (Idle (rest_in l.fn.edition))
