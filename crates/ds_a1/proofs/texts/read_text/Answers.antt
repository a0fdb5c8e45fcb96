use Rattle.std.proofs.Common.{sym, subst}
use Rattle.ds_a1.specs.declared.notation.Notation.{Notation}
use Rattle.ds_a1.specs.Answers.{AnswersBy}
use Rattle.ds_a1.proofs.Opened.{by_itself}
use Rattle.ds_a1.proofs.texts.read_text.Goals as goal

pub returns-in-OpenFormula : goal.returns-in-OpenFormula
returns-in-OpenFormula c =
    subst (λ (n : Notation). AnswersBy n c.args.shape.now c.args.text.now c.read_content.result) (sym c.in-OpenFormula.is)
    (by_itself c.args.shape.now c.args.text.now c.read_content.result c.read_content.ensures)
