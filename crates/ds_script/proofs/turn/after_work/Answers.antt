use Rattle.std.proofs.Common.{subst}
use Rattle.ds_calls.specs.declared.settle.SettleStage.{SettleStage}
use Rattle.ds_script.specs.Doing.{at_turn}
use Rattle.ds_script.specs.ScriptTurns.{Remains}
use Rattle.ds_script.proofs.turn.after_work.Goals as goal

pub returns-clause-remains : goal.returns-clause-remains
returns-clause-remains c =
    subst (λ (t : SettleStage). Remains c.left_of.result (at_turn c.args.world.now c.args.process t)) c.worked-next.ensures.value (c.left_of.ensures.remains c.args.world.now)

pub returns-clause-within : goal.returns-clause-within
returns-clause-within c = c.left_of.ensures.within c.args.world.now c.worked-next.ensures.inside
