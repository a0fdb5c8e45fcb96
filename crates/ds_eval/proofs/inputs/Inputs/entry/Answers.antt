use Rattle.std.proofs.Common.{◌≡◌, sym, refl, ap, ◌∙◌, slice_index_or}
use Rattle.std.proofs.lemmas.List.{get_or_read}
use Rattle.ds_eval.specs.declared.inputs.Input.{Input}
use Rattle.ds_eval.specs.Inputs.{no_input}
use Rattle.ds_eval.proofs.Cells.{entry_found, entry_nowhere}
use Rattle.ds_eval.proofs.inputs.Inputs.entry.Goals as goal

pub returns-in-Some : goal.returns-in-Some
returns-in-Some c =
    let xs = c.self.inside.items.items in
    let d = rw c.deref.ensures.value at c.in-Some.ensures.some in
    let f = entry_found xs c.in-Some.place c.args.cell c.self.invariant d.0 d.1 in
    let r : c.index.result.now ≡ slice_index_or xs c.in-Some.place no_input = get_or_read xs _ _ d.0 c.index.ensures no_input in
    rw (← c.self.view_is) (ap (λ (i : Input). i.entry) r ∙ sym f)

pub returns-in-None : goal.returns-in-None
returns-in-None c =
    let d = rw c.deref.ensures.value at c.in-None.ensures.none in
    rw (← c.self.view_is) (sym (entry_nowhere c.self.inside.items.items c.args.cell (d refl)))
