use Rattle.std.proofs.Common.{rules, ◌≡◌, ◌∙◌, sym}
use Rattle.ds_formula.specs.Plain.{plain}
use Rattle.ds_eval.proofs.Tasks.{task_same, shape_same}
use Rattle.ds_eval.proofs.task.Task.is.Goals as goal

pub returns-then-same_content-clause-yes : goal.returns-then-same_content-clause-yes
returns-then-same_content-clause-yes c = λ t.
    let a = c.self.inside in
    let p : a.process ≡ c.args.process = search rules in
    let g : a.generation ≡ c.args.generation = search rules in
    let d : a.cell ≡ c.args.cell = search rules in
    let s = shape_same a.shape c.args.shape (search rules) (search rules) in
    let k : plain a.content ≡ plain c.args.content.now = search rules in
    let i : a.inputs.items ≡ c.args.inputs.now.items = sym c.as_slice.ensures ∙ c.same_inputs.ensures.yes t ∙ c.as_slice-then-same_content.ensures in
    sym c.self.view_is ∙ task_same p d g s k i
