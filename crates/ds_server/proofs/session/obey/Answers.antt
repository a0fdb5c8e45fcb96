use Rattle.serde_json.specs.View.{view}
use Rattle.ds_server.specs.LineAnswers.{response_view}
use Rattle.ds_server.specs.Session.{reads}
use Rattle.ds_server.proofs.Answered.{no_value}
use Rattle.ds_server.proofs.session.obey.Goals as goal

pub returns-in-Ok-clause-answers : goal.returns-in-Ok-clause-answers
returns-in-Ok-clause-answers g c = reads (view c.in-Ok.value) (response_view c.obey_value.result) c.obey_value.new.desk c.in-Ok.ensures c.obey_value.ensures.obeys

pub returns-in-Err-clause-answers : goal.returns-in-Err-clause-answers
returns-in-Err-clause-answers g c = no_value g.B.Desk.rules c.args.desk.now c.args.joined c.args.line.now c.in-Err.fault c.in-Err.ensures
