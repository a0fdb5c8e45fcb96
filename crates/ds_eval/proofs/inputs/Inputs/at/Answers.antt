use Rattle.std.proofs.Common.{◌≡◌, ◌+◌, ◌<◌, length, subst, sym, refl, ap, ◌∙◌, slice_index_or, arith}
use Rattle.std.proofs.lemmas.List.{get_or_read}
use Rattle.ds_eval.specs.declared.inputs.Input.{Input}
use Rattle.ds_eval.specs.Inputs.{PlainInputs, no_input, cell_in}
use Rattle.ds_eval.proofs.Cells.{entry_found}
use Rattle.ds_eval.proofs.inputs.Inputs.at.Goals as goal

pub overflow_add-place : goal.overflow_add-place
overflow_add-place c =
    let h = subst (λ (p : PlainInputs). c.args.place + c.args.k < length p.items) (sym c.self.view_is) c.requires in
    omega (arith, h, c.self.inside.items.ok.0)

pub returns : goal.returns
returns c =
    let xs = c.self.inside.items.items in
    let k = c.args.place + c.args.k in
    let h = subst (λ (p : PlainInputs). k < length p.items) (sym c.self.view_is) c.requires in
    let r : c.index.result.now ≡ slice_index_or xs k no_input = get_or_read xs _ _ h c.index.ensures no_input in
    rw (← c.self.view_is) (ap (λ (i : Input). i.entry) r ∙ sym (entry_found xs k (cell_in xs k) c.self.invariant h refl))
