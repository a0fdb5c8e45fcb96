use Rattle.std.proofs.Common.{ℕ, List, subst}
use Rattle.ds_recalculation.specs.Recalculations.{EndsInOrder, lacks_order, recalculates}
use Rattle.ds_recalculation.proofs.recalculation.recalculate.Goals as goal

pub returns-in-Ok-clause-recalculates : goal.returns-in-Ok-clause-recalculates
returns-in-Ok-clause-recalculates c =
    recalculates c.in-Ok.order.items c.recalculate_in.result c.recalculate_in.new.world c.in-Ok.ensures
    (subst (λ (xs : List ℕ). EndsInOrder c.args.process xs c.args.world.now c.recalculate_in.result c.recalculate_in.new.world) c.as_slice.ensures.value c.recalculate_in.ensures.ends)

pub returns-in-Err-clause-recalculates : goal.returns-in-Err-clause-recalculates
returns-in-Err-clause-recalculates c = lacks_order
