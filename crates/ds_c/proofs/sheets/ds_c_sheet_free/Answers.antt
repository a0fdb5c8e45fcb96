use Rattle.std.proofs.Common.{refl, sym, ◌∙◌}
use Rattle.c_handles.specs.Handles.{other}
use Rattle.c_handles.proofs.Carried.{let_go}
use Rattle.ds_c.proofs.sheets.ds_c_sheet_free.Goals as goal

pub returns-in-Sheet : goal.returns-in-Sheet
returns-in-Sheet c = let_go c.in-Sheet.field-0 c.in-Some.ensures.some.0 (sym c.deref.ensures ∙ c.in-Sheet.is) c.in-Some.ensures.some.1 refl

pub returns : goal.returns
returns c = other c.in-Some.held.value c.in-Some.ensures.some.0 (λ x e. c.in_default-deref.not-Sheet x (c.deref.ensures ∙ e)) c.of.ensures c.number-2.ensures
