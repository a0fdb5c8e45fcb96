use Rattle.ds_order.specs.Along.{LeadsOn, content_at}
use Rattle.ds_order.proofs.along.others_lead_on.Given as goal

abbrev pub invariant-loop-cell : goal.invariant-loop-cell
invariant-loop-cell l = LeadsOn l.sheet.shape (content_at l.sheet) l.cells l.cell
