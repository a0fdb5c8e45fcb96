use Rattle.std.proofs.Common.{ℕ, ◌≡◌, ◌≤◌, sym, subst}
use Rattle.ds_formula.specs.Plain.{plain}
use Rattle.ds_state.specs.Works.{PlainWorkCall, IsWork, IsWorkIn}
use Rattle.ds_work.specs.WorkSteps.{next_at}
use Rattle.ds_work.proofs.Next.{takes_input, next_within}
use Rattle.ds_work.proofs.machine.take_input.Goals as goal

made_so : (c : goal.After-next-1) → record { process = c.call.inside.process; edition = c.call.inside.edition; next = c.call.inside.next; cell = c.call.inside.cell; cells = c.call.inside.cells; processes = c.call.inside.processes; mark = c.call.inside.mark; head = c.call.inside.head; length = c.call.inside.length; text = c.call.inside.text; content = plain c.call.inside.content; inputs = c.note_input.new.inputs.items; value = c.call.inside.value; kind = c.call.inside.kind; entry = c.call.inside.entry; row = c.call.inside.row; stage = c.next-next.result }
    ≡ next_at c.args.call.now c.args.call.now.stage c.args.word
made_so c = takes_input c.args.call.now (record { process = c.call.inside.process; edition = c.call.inside.edition; next = c.call.inside.next; cell = c.call.inside.cell; cells = c.call.inside.cells; processes = c.call.inside.processes; mark = c.call.inside.mark; head = c.call.inside.head; length = c.call.inside.length; text = c.call.inside.text; content = plain c.call.inside.content; inputs = c.call.inside.inputs.items; value = c.call.inside.value; kind = c.call.inside.kind; entry = c.call.inside.entry; row = c.call.inside.row; stage = c.call.inside.stage }) c.args.word c.note_input.new.inputs.items c.next-next.result
    c.call.view_is c.requires c.next-next.ensures c.note_input.ensures.items

pub returns : goal.returns
returns c = made_so c

pub invariant_of-call : goal.invariant_of-call
invariant_of-call c = subst (λ (e : PlainWorkCall). IsWorkIn e c.note_input.new.inputs.room) (sym (made_so c)) (next_within c.args.call.now c.args.word c.note_input.new.inputs.room (subst (λ (e : PlainWorkCall). IsWork e) c.call.view_is c.call.invariant.is) (subst (λ (e : PlainWorkCall). e.cells ≤ c.note_input.new.inputs.room) c.call.view_is (subst (λ (n : ℕ). c.call.inside.cells ≤ n) (sym c.note_input.ensures.room) c.call.invariant.room)))
