use Rattle.std.proofs.Common.{refl, subst}
use Rattle.c_handles.specs.Handles.{fails, taken}
use Rattle.pq_c.specs.Queues.{IsTaken, IsNotTaken}
use Rattle.pq_c.proofs.queues.pq_c_queue_take.Goals as goal

pub returns-in-Ok : goal.returns-in-Ok
returns-in-Ok c =
    let is = subst (λ h. IsTaken c.args.process h c.take-answered.new.held c.in-Ok.taken.value) c.deref_mut.ensures.value c.in-Ok.ensures.ok in
    taken c.in-Some.held.value c.take-answered.new.held c.in-Ok.taken.value c.in-Some.ensures.some.0 c.of.ensures (c.if-not-is_empty.ensures.empty refl) c.of-in-Ok.ensures is refl

pub returns-in-Err : goal.returns-in-Err
returns-in-Err c =
    let why = subst (λ h. IsNotTaken c.args.process h c.in-Err.failure c.take-answered.new.held) c.deref_mut.ensures.value c.in-Err.ensures.err in
    fails c.in-Some.held.value c.take-answered.new.held c.in-Err.failure c.in-Some.ensures.some.0 c.of.ensures (c.if-not-is_empty.ensures.empty refl) refl why c.number-in-Err.ensures
