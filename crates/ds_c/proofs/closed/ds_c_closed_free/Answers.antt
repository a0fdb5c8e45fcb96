use Rattle.std.proofs.Common.{refl, sym, ◌∙◌}
use Rattle.c_handles.specs.Handles.{other}
use Rattle.c_handles.proofs.Carried.{let_go}
use Rattle.ds_c.proofs.closed.ds_c_closed_free.Goals as goal

pub returns-in-Closed : goal.returns-in-Closed
returns-in-Closed c = let_go c.in-Closed.field-0 c.in-Some.ensures.some.0 (sym c.deref.ensures ∙ c.in-Closed.is) c.in-Some.ensures.some.1 refl

pub returns : goal.returns
returns c = other c.in-Some.held.value c.in-Some.ensures.some.0 (λ x e. c.in_default-deref.not-Closed x (c.deref.ensures ∙ e)) c.of.ensures c.number-2.ensures
