use Rattle.std.proofs.Common.{IsTrue, subst, sym}
use Rattle.ds_formula.specs.declared.cells.Shape.{Shape}
use Rattle.ds_formula.specs.Cells.{IsInside}
use Rattle.ds_server.specs.LineAnswers.{response_view}
use Rattle.ds_http.specs.Taking.{sets, outside}
use Rattle.ds_http.proofs.edits.set_within.Goals as goal

pub returns-then-contains-clause-sets : goal.returns-then-contains-clause-sets
returns-then-contains-clause-sets g c = sets (response_view c.set.result) c.set.new.desk (subst (λ (s : Shape). IsInside s c.args.wanted.cell) c.shape.ensures (c.contains.ensures.0 c.if-contains.true)) c.set.ensures.does

pub returns-else-contains-clause-sets : goal.returns-else-contains-clause-sets
returns-else-contains-clause-sets g c = outside (λ inside.
    let yes : IsTrue c.contains.result = c.contains.ensures.1 (subst (λ (s : Shape). IsInside s c.args.wanted.cell) (sym c.shape.ensures) inside) in cc (yes, c.if-contains.false))
