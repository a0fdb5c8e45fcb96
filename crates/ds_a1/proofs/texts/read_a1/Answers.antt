use Rattle.std.proofs.Common.{ℕ, List, subst}
use Rattle.ds_formula.specs.Grammar.{Answers}
use Rattle.ds_a1.proofs.Opened.{by_opened}
use Rattle.ds_a1.proofs.texts.read_a1.Goals as goal

pub returns-in-Ok : goal.returns-in-Ok
returns-in-Ok c =
    by_opened c.args.shape.now c.args.text.now c.in-Ok.open.items c.read_content.result c.in-Ok.ensures
    (subst (λ (t : List ℕ). Answers c.args.shape.now t c.read_content.result) c.deref.ensures.value c.read_content.ensures)
