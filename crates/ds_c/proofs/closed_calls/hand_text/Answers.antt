use Rattle.std.proofs.Common.{◌≡◌, length, refl, ap, subst, ◌∙◌, arith}
use Rattle.std.specs.Prelude.{Ok, Err}
use Rattle.c_handles.specs.Handles.{content, other}
use Rattle.ds_c.specs.Calls.{Fills}
use Rattle.ds_c.specs.Failures.{failure_number, failure_of}
use Rattle.ds_c.specs.declared.failure.Failure.TheVariants.{WrongHolder}
use Rattle.ds_c.proofs.HeldSteps.{lacks_closed_text}
use Rattle.ds_c.proofs.closed_calls.hand_text.Goals as goal

pub returns-in_default : goal.returns-in_default
returns-in_default c = (Err WrongHolder, other c.in_default.not-Closed refl refl, (refl, refl, c.number.ensures))

pub returns-in-Ok : goal.returns-in-Ok
returns-in-Ok c =
    let sheet = c.in-Closed.closed in
    let many : c.len.result ≡ length c.in-Ok.text.items = omega (arith, c.len.ensures, c.in-Ok.text.ok.0) in
    let fills = subst (λ bytes. Fills bytes c.args.buffer.now c.fill.new.buffer c.fill.result) c.deref.ensures.value c.fill.ensures in
    (Ok c.in-Ok.text.items, content sheet sheet c.in-Closed.is c.in-Closed.is (c.in-Ok.ensures.ok.0, c.in-Ok.ensures.ok.1, refl), (fills, many))

pub returns-in-Err : goal.returns-in-Err
returns-in-Err c =
    let sheet = c.in-Closed.closed in
    let lacks = lacks_closed_text sheet c.args.cell c.in-Err.fault c.in-Err.ensures.err in
    (Err (failure_of c.in-Err.fault), content sheet sheet c.in-Closed.is c.in-Closed.is (lacks, refl), (refl, refl, c.number-in-Err.ensures ∙ ap failure_number c.of.ensures))
