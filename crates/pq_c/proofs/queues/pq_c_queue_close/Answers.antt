use Rattle.std.proofs.Common.{refl, subst}
use Rattle.c_handles.specs.Handles.{fails, moved}
use Rattle.pq_c.specs.Queues.{Closes, ClosesNot}
use Rattle.pq_c.proofs.queues.pq_c_queue_close.Goals as goal

pub returns-in-Ok : goal.returns-in-Ok
returns-in-Ok c =
    let did = subst (λ h. Closes h c.close.new.held) c.deref_mut.ensures.value c.in-Ok.ensures.ok in
    moved c.in-Some.held.value c.close.new.held c.in-Some.ensures.some.0 c.in-Some.ensures.some.1 (c.if-not-is_empty.ensures.empty refl) c.of.ensures did refl

pub returns-in-Err : goal.returns-in-Err
returns-in-Err c =
    let why = subst (λ h. ClosesNot h c.in-Err.failure c.close.new.held) c.deref_mut.ensures.value c.in-Err.ensures.err in
    fails c.in-Some.held.value c.close.new.held c.in-Err.failure c.in-Some.ensures.some.0 c.of-in-Err.ensures (c.if-not-is_empty.ensures.empty refl) refl why c.number-in-Err.ensures
