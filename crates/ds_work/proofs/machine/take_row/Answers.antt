use Rattle.std.proofs.Common.{◌≡◌, ◌≤◌, ◌∙◌, refl, sym, subst}
use Rattle.ds_formula.specs.Plain.{plain}
use Rattle.ds_state.specs.Works.{PlainWorkCall, IsWork, IsWorkIn}
use Rattle.ds_work.specs.WorkSteps.{next_at}
use Rattle.ds_work.proofs.Next.{takes_row, next_within}
use Rattle.ds_work.proofs.machine.take_row.Goals as goal

-- the work whose row is not yet noted
abbrev work_of : goal.After-call-1 → PlainWorkCall
work_of c = record { process = c.call.inside.process; edition = c.call.inside.edition; next = c.call.inside.next; cell = c.call.inside.cell; cells = c.call.inside.cells; processes = c.call.inside.processes; mark = c.call.inside.mark; head = c.call.inside.head; length = c.call.inside.length; text = c.call.inside.text; content = plain c.call.inside.content; inputs = c.call.inside.inputs.items; value = c.call.inside.value; kind = c.call.inside.kind; entry = c.call.inside.entry; row = c.call.inside.row; stage = c.call.inside.stage }

made_so : (c : goal.After-call-1) → record (work_of c) { row = c.note_row.new.row; stage = c.row_next-call-inside.result } ≡ next_at c.args.call.now c.args.call.now.stage c.args.word
made_so c = takes_row c.args.call.now (work_of c) c.args.word c.note_row.new.row c.row_next-call-inside.result
    c.call.view_is c.requires (c.row_next-call-inside.ensures (work_of c) c.args.word (c.as_slice.ensures ∙ c.note_row.ensures) refl) c.note_row.ensures

pub returns : goal.returns
returns c = made_so c

pub invariant_of-call : goal.invariant_of-call
invariant_of-call c = subst (λ (e : PlainWorkCall). IsWorkIn e c.call.inside.inputs.room) (sym (made_so c)) (next_within c.args.call.now c.args.word c.call.inside.inputs.room (subst (λ (e : PlainWorkCall). IsWork e) c.call.view_is c.call.invariant.is) (subst (λ (e : PlainWorkCall). e.cells ≤ c.call.inside.inputs.room) c.call.view_is c.call.invariant.room))
