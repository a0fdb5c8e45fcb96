use Rattle.std.proofs.Common.{◌∙◌, ◌++◌, ◌∷◌, [], ap, sym, subst, arith, ◌<◌, length, vec_len, vec_capacity, Bool, if◌then◌else◌}
use Rattle.ds_eval.specs.Inputs.{PlainInputs}
use Rattle.ds_eval.proofs.inputs.Inputs.push.Goals as goal

pub returns-clause-items : goal.returns-clause-items
returns-clause-items c =
    let v = c.self.inside.items in
    let h = subst (λ (p : PlainInputs). length p.items < p.room) (sym c.self.view_is) c.requires.room in
    let l : vec_len v < vec_capacity v = omega (arith, v.ok.0) in
    let s = c.push.ensures.succeeds l in
    let i = ap (λ (p : PlainInputs). p.items ++ c.args.input ∷ []) c.self.view_is in
    c.push.ensures.items ∙ ap (λ (b : Bool). if b then v.items ++ c.args.input ∷ [] else v.items) s ∙ i
