use Rattle.std.proofs.Common.{◌∙◌, ap, arith}
use Rattle.std.specs.Prelude.{replicate}
use Rattle.ds_state.specs.declared.situation.Situation.TheVariants.{Idle}
use Rattle.ds_state.proofs.making.idle.Goals as goal
use Rattle.ds_state.specs.Value.{rest_in}

pub returns : goal.returns
returns c = c.loop.invariant ∙ ap (λ n. replicate n (Idle (rest_in c.args.edition))) (omega arith)
