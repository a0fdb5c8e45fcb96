use Rattle.std.proofs.Common.{ap}
use Rattle.ds_calls.specs.declared.settle.SettleStage.{SettleStage}
use Rattle.ds_script.specs.Doing.{at_turn, end_text}
use Rattle.ds_script.proofs.turn.left_of.Goals as goal

pub returns-in-Ends-clause-remains : goal.returns-in-Ends-clause-remains
returns-in-Ends-clause-remains c = λ w. (end_text w c.args.process c.in-Ends.field-0, ap (λ (t : SettleStage). at_turn w c.args.process t) c.in-Ends.is)
