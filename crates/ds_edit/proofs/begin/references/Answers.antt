use Rattle.std.proofs.Common.{arith}
use Rattle.ds_formula.proofs.Formed.{read_inside}
use Rattle.ds_formula.specs.Plain.{plain}
use Rattle.ds_state.specs.declared.refusal.Refusal.{Refusal}
use Rattle.ds_state.specs.Refusals.{refusal_of}
use Rattle.ds_edit.specs.Begun.{RefusesIdle}
use Rattle.ds_edit.proofs.Beginning.{text_refused, handed_on}
use Rattle.ds_edit.proofs.begin.references.Goals as goal

pub numbers-requires : goal.numbers-requires
numbers-requires c = λ cell refers. read_inside c.args.shape.now c.args.text.now (plain c.in_ok-content.content) cell c.in_ok-content.ensures.reads refers

pub returns-in_err-content-clause-refused : goal.returns-in_err-content-clause-refused
returns-in_err-content-clause-refused c =
    handed_on c.from_residual.result (refusal_of c.in_err-content.field-0.0) (λ (r : Refusal). RefusesIdle c.args.shape.now c.args.next c.args.text.now r) c.from_residual.ensures.1
    (text_refused c.args.shape.now c.args.next c.args.text.now c.in_err-content.field-0.0 (let f = c.if-text-most.false in let k = c.parts-most.ensures in omega arith) c.in_err-content.ensures)
