use Rattle.std.proofs.Common.{ℕ, ◌<◌, ◌∙◌, List, length, sym, ap, subst, arith}
use Rattle.std.proofs.lemmas.List.{length-map}
use Rattle.ds_formula.specs.Plain.{plain}
use Rattle.ds_formula.specs.Refs.{IsPossible}
use Rattle.ds_eval.specs.declared.inputs.Input.{Input}
use Rattle.ds_eval.specs.Inputs.{cell_in}
use Rattle.ds_state.specs.Works.{PlainWorkCall, IsWork}
use Rattle.ds_work.specs.WorkSteps.{read_from}
use Rattle.ds_work.specs.Reading.{unseen}
use Rattle.ds_work.proofs.Gathered.{taken, read_is, each_possible}
use Rattle.ds_work.proofs.reading.set_content.Goals as goal

pub invariant_of-call : goal.invariant_of-call
invariant_of-call c =
    let v : PlainWorkCall = record { process = c.call.inside.process; edition = c.call.inside.edition; next = c.call.inside.next; cell = c.call.inside.cell; cells = c.call.inside.cells; processes = c.call.inside.processes; mark = c.call.inside.mark; head = c.call.inside.head; length = c.call.inside.length; text = c.call.inside.text; content = plain c.call.inside.content; inputs = c.call.inside.inputs.items; value = c.call.inside.value; kind = c.call.inside.kind; entry = c.call.inside.entry; row = c.call.inside.row; stage = c.call.inside.stage } in
    let made = taken v (plain c.args.content) c.fill.new.inputs.items c.input_from-call-inside.result (c.input_from-call-inside.ensures (record v { content = plain c.args.content; inputs = c.fill.new.inputs.items }) (ap (λ (xs : List Input). length xs) c.fill.ensures.items ∙ length-map c.args.cells.now unseen)) in
    let each : (j : ℕ) → j < length c.fill.new.inputs.items → IsPossible (cell_in c.fill.new.inputs.items j) = subst (λ (xs : List Input). (j : ℕ) → j < length xs → IsPossible (cell_in xs j)) (sym c.fill.ensures.items) (each_possible c.args.shape c.args.cells.now c.requires.inside) in
    let is : IsWork (read_from v (plain c.args.content) c.fill.new.inputs.items) = read_is v (plain c.args.content) c.fill.new.inputs.items c.call.invariant.is each in
    record { is = subst (λ (e : PlainWorkCall). IsWork e) (sym made) is; room = (let room = c.fill.ensures.room in let same = c.requires.sheet in let cells = ap (λ (x : PlainWorkCall). x.cells) c.call.view_is in omega (arith, room, same, cells)) }
