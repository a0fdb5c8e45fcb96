use Rattle.std.proofs.Common.{◌≡◌, subst, sym, ◌<◌, length, slice_index_or, slice_set}
use Rattle.std.proofs.lemmas.List.{get_or_read}
use Rattle.ds_eval.specs.declared.inputs.Input.{Input}
use Rattle.ds_eval.specs.Inputs.{PlainInputs, IsAscending, no_input}
use Rattle.ds_eval.proofs.Cells.{ascending_with}
use Rattle.ds_eval.proofs.inputs.Inputs.set.Goals as goal

pub invariant_of-self : goal.invariant_of-self
invariant_of-self c =
    let xs = c.self.inside.items.items in
    let k = c.args.place in
    let h = subst (λ (p : PlainInputs). k < length p.items) (sym c.self.view_is) c.requires in
    let r : c.index_mut-input.result.now ≡ slice_index_or xs k no_input = get_or_read xs _ _ h c.index_mut-input.ensures.value no_input in
    subst (λ (i : Input). IsAscending (slice_set xs k (record { cell = i.cell; entry = c.args.entry }))) (sym r) (ascending_with xs k c.args.entry h c.self.invariant)
