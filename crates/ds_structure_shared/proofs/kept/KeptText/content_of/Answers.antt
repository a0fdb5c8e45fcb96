use Rattle.std.proofs.Common.{ℕ, List, subst}
use Rattle.ds_formula.specs.declared.cells.Shape.{Shape}
use Rattle.ds_formula.specs.Grammar.{Reads}
use Rattle.ds_formula.specs.Plain.{plain}
use Rattle.ds_structure_shared.proofs.kept.KeptText.content_of.Goals as goal

pub returns-in-Ok-clause-reads : goal.returns-in-Ok-clause-reads
returns-in-Ok-clause-reads c =
    subst (λ (z : Shape × List ℕ). Reads z.0 z.1 (plain c.in-Ok.copied.0)) (λ i. (c.is.ensures.shape c.if-not-is.false i, c.is.ensures.text c.if-not-is.false i)) c.in-Ok.ensures.reads
