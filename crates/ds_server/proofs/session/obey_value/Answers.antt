use Rattle.std.proofs.Common.{◌≡◌, ◌∙◌, ap, subst, sym, ℕ, Option}
use Rattle.serde_json.specs.View.{view}
use Rattle.ds_formula.specs.declared.cells.Shape.{Shape}
use Rattle.ds_server.specs.Desks.{Seated, joined_after}
use Rattle.ds_server.specs.LineRequests.{IsCallOf}
use Rattle.ds_server.specs.Replies.{Said, said_to}
use Rattle.ds_server.specs.Session.{Obeys}
use Rattle.ds_server.specs.Asked.{request_view}
use Rattle.ds_server.specs.LineAnswers.{response_view}
use Rattle.ds_server.proofs.Answered.{joined_alike, obeys_call, obeys_fault}
use Rattle.ds_server.proofs.session.obey_value.Goals as goal

pub carry_out-response-requires-clause-call : goal.carry_out-response-requires-clause-call
carry_out-response-requires-clause-call g c =
    subst (λ (n : ℕ). IsCallOf (g.B.Desk.rules.shape c.args.desk.now) n c.args.joined (request_view c.in-Ok.request)) c.processes-processes.ensures
    (subst (λ (s : Shape). IsCallOf s c.processes-processes.result c.args.joined (request_view c.in-Ok.request)) c.shape-shape.ensures c.in-Ok.ensures.fits)

pub returns-in-Ok-clause-obeys : goal.returns-in-Ok-clause-obeys
returns-in-Ok-clause-obeys g c =
    subst (λ (s : Said). Obeys g.B.Desk.rules c.args.desk.now c.args.joined (view c.args.value.now) s c.carry_out-response.new.desk)
    (sym (c.said_to.ensures ∙ ap (λ (n : Option ℕ). said_to n (response_view c.carry_out-response.result)) c.done_of.ensures))
    (obeys_call g.B.Desk.rules c.args.desk.now c.args.joined (view c.args.value.now) c.shape-shape.result c.processes-processes.result _
    (request_view c.in-Ok.request) (response_view c.carry_out-response.result) c.carry_out-response.new.desk c.shape-shape.ensures c.processes-processes.ensures c.token-token.ensures c.in-Ok.ensures.value c.carry_out-response.ensures.does)

pub returns-in-Ok-clause-seated : goal.returns-in-Ok-clause-seated
returns-in-Ok-clause-seated g c =
    subst (λ (j : Option ℕ). Seated g.B.Desk.rules j c.carry_out-response.new.desk)
    (sym (ap (joined_after c.args.joined) c.said_to.ensures ∙ joined_alike c.done_of.result c.args.joined (response_view c.carry_out-response.result)))
    c.carry_out-response.ensures.seated

pub returns-in-Err-clause-obeys : goal.returns-in-Err-clause-obeys
returns-in-Err-clause-obeys g c =
    obeys_fault g.B.Desk.rules c.args.desk.now c.args.joined (view c.args.value.now) c.shape-shape.result c.processes-processes.result _
    c.in-Err.fault c.shape-shape.ensures c.processes-processes.ensures c.token-token.ensures c.in-Err.ensures.value
