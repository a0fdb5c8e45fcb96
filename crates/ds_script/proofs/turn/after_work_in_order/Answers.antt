use Rattle.std.proofs.Common.{◌∙◌, ap, sym}
use Rattle.std.specs.Prelude.{Option}
use Rattle.ds_calls.specs.declared.settle.SettleEnd.{SettleEnd}
use Rattle.ds_script.specs.Doing.{after_work, end_text}
use Rattle.ds_script.proofs.turn.after_work_in_order.Goals as goal

pub returns-in-Some-clause-remains : goal.returns-in-Some-clause-remains
returns-in-Some-clause-remains c = (
  end_text c.args.world.now c.args.process c.in-Some.field-0,
  ap (λ (o : Option SettleEnd). after_work c.args.world.now c.args.process c.args.rest.items o) (sym c.stop_of.ensures ∙ c.in-Some.is),
)
