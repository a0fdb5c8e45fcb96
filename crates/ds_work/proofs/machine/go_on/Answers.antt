use Rattle.std.proofs.Common.{◌≡◌, ◌≤◌, sym, subst}
use Rattle.ds_formula.specs.Plain.{plain}
use Rattle.ds_state.specs.Works.{PlainWorkCall, IsWork, IsWorkIn}
use Rattle.ds_work.specs.WorkSteps.{next_at}
use Rattle.ds_work.proofs.Next.{goes_on, next_within}
use Rattle.ds_work.proofs.machine.go_on.Goals as goal

made_so : (c : goal.After-call-1) → record { process = c.call.inside.process; edition = c.call.inside.edition; next = c.call.inside.next; cell = c.call.inside.cell; cells = c.call.inside.cells; processes = c.call.inside.processes; mark = c.call.inside.mark; head = c.call.inside.head; length = c.call.inside.length; text = c.call.inside.text; content = plain c.call.inside.content; inputs = c.call.inside.inputs.items; value = c.call.inside.value; kind = c.call.inside.kind; entry = c.call.inside.entry; row = c.call.inside.row; stage = c.next-call-inside.result }
    ≡ next_at c.args.call.now c.args.call.now.stage c.args.word
made_so c = goes_on c.args.call.now (record { process = c.call.inside.process; edition = c.call.inside.edition; next = c.call.inside.next; cell = c.call.inside.cell; cells = c.call.inside.cells; processes = c.call.inside.processes; mark = c.call.inside.mark; head = c.call.inside.head; length = c.call.inside.length; text = c.call.inside.text; content = plain c.call.inside.content; inputs = c.call.inside.inputs.items; value = c.call.inside.value; kind = c.call.inside.kind; entry = c.call.inside.entry; row = c.call.inside.row; stage = c.call.inside.stage }) c.args.word c.next-call-inside.result
    c.call.view_is c.requires c.next-call-inside.ensures

pub returns : goal.returns
returns c = made_so c

pub invariant_of-call : goal.invariant_of-call
invariant_of-call c = subst (λ (e : PlainWorkCall). IsWorkIn e c.call.inside.inputs.room) (sym (made_so c)) (next_within c.args.call.now c.args.word c.call.inside.inputs.room (subst (λ (e : PlainWorkCall). IsWork e) c.call.view_is c.call.invariant.is) (subst (λ (e : PlainWorkCall). e.cells ≤ c.call.inside.inputs.room) c.call.view_is c.call.invariant.room))
