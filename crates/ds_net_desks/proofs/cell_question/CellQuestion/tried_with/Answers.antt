use Rattle.std.proofs.Common.{◌∙◌, refl, subst, sym}
use Rattle.ds_server.specs.Replies.{got_view, report_view}
use Rattle.ds_net_desks.specs.CellQuestions.{SaysLast}
use Rattle.ds_net_desks.proofs.Reading.{got_failed, got_told, tried_none}
use Rattle.ds_net_desks.proofs.cell_question.CellQuestion.tried_with.Goals as goal

pub returns-in-Ok-clause-got : goal.returns-in-Ok-clause-got
returns-in-Ok-clause-got g c =
    let cell = c.args.self.now.cell in
    got_told cell c.args.self.now.number c.args.numbered.now c.report-end.new.numbered c.args.notebook.now.seen.items c.show.new.notebook.seen.items c.show-in-Ok.new.notebook.seen.items c.last_in.result c.last_in.result c.in-Ok.edit c.in-Ok.edit
    (report_view c.report-end.result) (got_view cell c.got_of.result)
    (record { list = c.show.result.now; seen = c.show.ensures.seen; says = c.last_in.ensures }) c.in-Ok.is c.report-end.ensures.uses
    (record { list = c.show-in-Ok.result.now; seen = c.show-in-Ok.ensures.seen; says = subst (λ l. SaysLast cell l c.last_in.result) (c.show.ensures.list ∙ sym c.show-in-Ok.ensures.list) c.last_in.ensures }) c.in-Ok.is refl (c.got_of.ensures cell)

pub returns-in-Err-clause-got : goal.returns-in-Err-clause-got
returns-in-Err-clause-got g c =
    let now = c.args.numbered.now in
    let seen = c.args.notebook.now.seen.items in
    got_failed c.args.self.now.cell c.args.self.now.number now now seen seen c.show.new.notebook.seen.items c.last_in.result c.in-Err.why (tried_none now seen) (record { list = c.show.result.now; seen = c.show.ensures.seen; says = c.last_in.ensures }) c.in-Err.is
