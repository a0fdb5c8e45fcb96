use Rattle.ds_server.specs.LineAnswers.{response_view}
use Rattle.ds_http.specs.Taking.{none, visits}
use Rattle.ds_http.proofs.edits.edit.Goals as goal

pub returns-in-Ok : goal.returns-in-Ok
returns-in-Ok g c = visits c.in-Ok.process (response_view c.set_within-answer.result) c.take_process.new.desk c.set_within-answer.new.desk c.leave.new.self c.in-Ok.ensures.takes c.set_within-answer.ensures.sets c.leave.ensures

pub returns-in-Err : goal.returns-in-Err
returns-in-Err g c = none c.in-Err.why c.take_process.new.desk c.in-Err.ensures.takes
