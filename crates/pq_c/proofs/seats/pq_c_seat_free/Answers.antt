use Rattle.std.proofs.Common.{refl, sym, subst, ◌∙◌}
use Rattle.c_handles.specs.Handles.{other}
use Rattle.c_handles.proofs.Carried.{let_go}
use Rattle.pq_c.specs.Holders.{HasHeld}
use Rattle.pq_c.proofs.seats.pq_c_seat_free.Goals as goal

pub returns-in-Seat : goal.returns-in-Seat
returns-in-Seat c = let_go c.in-Seat.taken c.in-Some.ensures.some.0 (sym (c.in-Seat.ensures.value ∙ c.deref_mut.ensures.value)) c.in-Some.ensures.some.1 refl

pub returns-in_default-replace : goal.returns-in_default-replace
returns-in_default-replace c =
    let is = c.replace.ensures.value ∙ c.deref_mut.ensures.value in
    other c.in-Some.held.value c.in-Some.ensures.some.0 (λ x e. c.in_default-replace.not-Seat x (is ∙ e)) (subst (HasHeld c.of.result) is c.of.ensures) c.number-in_default-replace.ensures
