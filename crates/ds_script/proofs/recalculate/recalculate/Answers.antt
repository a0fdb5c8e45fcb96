use Rattle.std.proofs.Common.{ℕ, List, subst}
use Rattle.ds_recalculation.specs.Plans.{IsPlan}
use Rattle.ds_recalculation.specs.Recalculations.{EndsInOrder}
use Rattle.ds_script.specs.Doing.{end_text, in_order}
use Rattle.ds_script.specs.Plays.{Played}
use Rattle.ds_script.proofs.Played.{answered}
use Rattle.ds_script.proofs.Recalculated.{recalculation_leads}
use Rattle.ds_script.proofs.recalculate.recalculate.Goals as goal

pub returns : goal.returns
returns c =
    answered c.end_bytes.result (end_text c.recalculate_in-end.new.world c.args.process c.recalculate_in-end.result)
    (λ (t : List ℕ). (order : List ℕ) × IsPlan c.args.world.now order × Played (in_order c.args.world.now c.args.process order) c.args.world.now t c.recalculate_in-end.new.world) c.end_bytes.ensures (
      c.in_ok-order.order.items,
      c.in_ok-order.ensures,
      recalculation_leads c.args.process c.in_ok-order.order.items c.args.world.now c.recalculate_in-end.result c.recalculate_in-end.new.world
          (subst (λ (xs : List ℕ). EndsInOrder c.args.process xs c.args.world.now c.recalculate_in-end.result c.recalculate_in-end.new.world) c.as_slice.ensures.value c.recalculate_in-end.ensures.ends),
    )
