use Rattle.std.proofs.Common.{ℕ, List, subst}
use Rattle.ds_recalculation.specs.Recalculations.{EndsInOrder}
use Rattle.ds_script.proofs.Recalculated.{recalculation_leads}
use Rattle.ds_script_json.proofs.carry.recalculate.Goals as goal

pub returns-clause-played : goal.returns-clause-played
returns-clause-played c = (
  c.in_ok-order.order.items,
  c.in_ok-order.ensures,
  recalculation_leads c.args.process c.in_ok-order.order.items c.args.world.now c.recalculate_in-end.result c.recalculate_in-end.new.world
      (subst (λ (xs : List ℕ). EndsInOrder c.args.process xs c.args.world.now c.recalculate_in-end.result c.recalculate_in-end.new.world) c.as_slice.ensures.value c.recalculate_in-end.ensures.ends),
)
