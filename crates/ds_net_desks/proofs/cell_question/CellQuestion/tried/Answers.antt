use Rattle.ds_server.specs.Replies.{got_view, report_view}
use Rattle.ds_net_desks.specs.CellQuestions.{look}
use Rattle.ds_net_desks.proofs.Reading.{got_failed, got_told, tried_look, tried_none, tried_report}
use Rattle.ds_net_desks.proofs.cell_question.CellQuestion.tried.Goals as goal

pub returns-in-Err-clause-some : goal.returns-in-Err-clause-some
returns-in-Err-clause-some g c =
    let now = c.args.numbered.now in
    let seen = c.args.notebook.now.seen.items in
    got_failed c.args.self.now.cell c.args.self.now.number now now seen seen c.last.new.notebook.seen.items c.last.result c.in-Err.why (tried_none now seen) c.last.ensures.looked c.in-Err.is

pub returns-in-Err-last-clause-some : goal.returns-in-Err-last-clause-some
returns-in-Err-last-clause-some g c =
    let now = c.args.numbered.now in
    let new = c.report-end.new.numbered in
    let seen = c.args.notebook.now.seen.items in
    let mid = c.last.new.notebook.seen.items in
    let looked = tried_look now now seen seen (look c.last.ensures.looked.list) mid (tried_none now seen) c.last.ensures.looked.seen in
    let reported = tried_report now now new seen mid (report_view c.report-end.result) looked c.report-end.ensures.uses in
    got_failed c.args.self.now.cell c.args.self.now.number now new seen mid c.last-2.new.notebook.seen.items c.last-2.result c.in-Err-last.why reported c.last-2.ensures.looked c.in-Err-last.is

pub returns-then-is_same-clause-some : goal.returns-then-is_same-clause-some
returns-then-is_same-clause-some g c =
    let now = c.args.numbered.now in
    let new = c.report-end.new.numbered in
    got_told c.args.self.now.cell c.args.self.now.number now new c.args.notebook.now.seen.items c.last.new.notebook.seen.items c.last-2.new.notebook.seen.items c.last.result c.last-2.result c.in-Ok.first c.in-Ok-last.later
    (report_view c.report-end.result) (got_view c.args.self.now.cell c.got_of.result) c.last.ensures.looked c.in-Ok.is c.report-end.ensures.uses c.last-2.ensures.looked c.in-Ok-last.is (c.is_same.ensures c.if-is_same.true) (c.got_of.ensures c.args.self.now.cell)

pub returns-clause-none : goal.returns-clause-none
returns-clause-none g c =
    let now = c.args.numbered.now in
    let new = c.report-end.new.numbered in
    let seen = c.args.notebook.now.seen.items in
    let mid = c.last.new.notebook.seen.items in
    let looked = tried_look now now seen seen (look c.last.ensures.looked.list) mid (tried_none now seen) c.last.ensures.looked.seen in
    let reported = tried_report now now new seen mid (report_view c.report-end.result) looked c.report-end.ensures.uses in
    λ _. tried_look now new seen mid (look c.last-2.ensures.looked.list) c.last-2.new.notebook.seen.items reported c.last-2.ensures.looked.seen
