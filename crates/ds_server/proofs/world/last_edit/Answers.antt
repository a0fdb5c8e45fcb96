use Rattle.std.proofs.Common.{IsTrue, ◌∙◌}
use Rattle.ds_server.proofs.Edits.{ends_with, ends_without, has_none}
use Rattle.ds_server.proofs.world.last_edit.Goals as goal

pub returns-then-is_of : goal.returns-then-is_of
returns-then-is_of c =
    c.edits.invariant ∙ ends_with c.args.cell c.edits.rest.now c.in-Some.before.now c.in-Some.edit.now c.in-Some.ensures.cases.0 (c.is_of.ensures.0 c.if-is_of.true)

pub edits-preserved : goal.edits-preserved
edits-preserved c =
    c.edits.invariant ∙ ends_without c.args.cell c.edits.rest.now c.in-Some.before.now c.in-Some.edit.now c.in-Some.ensures.cases.0
    (λ its. let yes : IsTrue c.is_of.result = c.is_of.ensures.1 its in cc (yes, c.if-is_of.false))

pub returns : goal.returns
returns c = c.edits.invariant ∙ has_none c.args.cell c.edits.rest.now c.in_default.ensures.cases
