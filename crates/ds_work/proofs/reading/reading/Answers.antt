use Rattle.std.proofs.Common.{ℕ, ◌∙◌, List, sym, ap, subst, inl}
use Rattle.ds_formula.specs.declared.cells.Cell.{Cell}
use Rattle.ds_formula.specs.Grammar.{Reads}
use Rattle.ds_formula.specs.Plain.{plain}
use Rattle.ds_formula.specs.Refs.{AreRefs}
use Rattle.ds_state.specs.Works.{PlainWorkCall}
use Rattle.ds_work.proofs.reading.reading.Goals as goal

pub take_content-requires-clause-reads : goal.take_content-requires-clause-reads
take_content-requires-clause-reads c = subst (λ (xs : List ℕ). Reads c.args.shape xs (plain c.in-Ok.content)) (c.as_slice.ensures ∙ ap (λ (x : PlainWorkCall). x.text) c.call.view_is) c.in-Ok.ensures.reads

pub take_content-requires-clause-cells : goal.take_content-requires-clause-cells
take_content-requires-clause-cells c = subst (λ (xs : List Cell). AreRefs (plain c.in-Ok.content) xs) (sym c.deref.ensures.value) c.in-Ok.ensures.cells

pub returns-in-Ok : goal.returns-in-Ok
returns-in-Ok c = inl c.take_content.ensures
