use Rattle.std.proofs.Common.{◌∙◌, sym}
use Rattle.ds_recalculation.specs.Recalculations.{passes_it, works_on_it}
use Rattle.ds_recalculation.proofs.recalculation.turn.Goals as goal

pub returns-then-is_marked : goal.returns-then-is_marked
returns-then-is_marked c = works_on_it c.work_on.result c.work_on.new.world (sym c.is_marked.ensures ∙ c.if-is_marked.true) c.work_on.ensures

pub returns-else-is_marked : goal.returns-else-is_marked
returns-else-is_marked c = passes_it (sym c.is_marked.ensures ∙ c.if-is_marked.false)
