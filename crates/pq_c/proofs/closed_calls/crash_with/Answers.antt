use Rattle.std.proofs.Common.{refl, sym, ap, ◌∙◌}
use Rattle.std.specs.Prelude.{Ok, Err}
use Rattle.c_handles.specs.Handles.{content, other}
use Rattle.pq_c.specs.Closed.{crashed}
use Rattle.pq_c.specs.Failures.{failure_number}
use Rattle.pq_c.specs.declared.failure.Failure.TheVariants.{WrongHolder}
use Rattle.pq_c.proofs.HeldSteps.{no_memory, too_short}
use Rattle.pq_c.proofs.closed_calls.crash_with.Goals.{then-eq, else-eq}
use Rattle.pq_c.proofs.closed_calls.crash_with.Goals as goal

pub returns-in_default : goal.returns-in_default
returns-in_default c = (Err WrongHolder, other c.in_default.not-Closed refl refl, (refl, c.number.ensures))

pub returns-in-Ok : goal.returns-in-Ok
returns-in-Ok c = (Ok tt, content c.in-Closed.closed c.crash_with.new.self c.in-Closed.is refl (crashed refl c.in-Ok.ensures.ok c.words-count.ensures), refl)

pub returns-after-eq : goal.returns-after-eq
returns-after-eq c =
    let words = c.words-count.ensures in
    let number = c.number-in-Err.ensures ∙ ap failure_number c.of.ensures in
    elim c.if-eq.branch [
      | then-eq w ↦ too_short c.in-Closed.is c.in-Err.ensures.err.1 c.in-Err.fault c.in-Err.ensures.err.0 (sym c.eq.ensures ∙ w.if-eq.true) (w.words-is ∙ words) number
      | else-eq w ↦ no_memory c.in-Closed.is c.in-Err.ensures.err.1 c.in-Err.fault c.in-Err.ensures.err.0 (sym c.eq.ensures ∙ w.if-eq.false) w.words-is number
    ]
