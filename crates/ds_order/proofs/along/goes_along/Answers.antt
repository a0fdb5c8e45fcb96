use Rattle.std.proofs.Common.{Bool, List, IsTrue, subst}
use Rattle.std.proofs.lemmas.Result.{IfOk-weaker}
use Rattle.ds_formula.specs.Cells.{count_of}
use Rattle.ds_eval.specs.SheetContents.{contents_of}
use Rattle.ds_order.specs.Along.{GoesAlong, LeadsOn, content_at}
use Rattle.ds_order.proofs.Going.{goes}
use Rattle.ds_order.proofs.along.goes_along.Goals as goal

pub returns : goal.returns
returns c =
    IfOk-weaker c.others_lead_on.result
    (λ (b : Bool). IsTrue b → LeadsOn c.args.sheet.now.shape (content_at c.args.sheet.now) c.as_slice.result.now (count_of c.args.sheet.now.shape))
    (λ (b : Bool). IsTrue b → GoesAlong c.args.sheet.now.shape (contents_of c.args.sheet.now) c.args.order.now)
    (λ b leads yes. goes c.args.sheet.now c.args.order.now c.in_ok-cells.cells.items c.in_ok-cells.ensures
    (subst (λ (cells : List Bool). LeadsOn c.args.sheet.now.shape (content_at c.args.sheet.now) cells (count_of c.args.sheet.now.shape)) c.as_slice.ensures.value (leads yes)))
    c.others_lead_on.ensures
