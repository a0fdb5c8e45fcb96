use Rattle.std.proofs.Common.{option_copied}
use Rattle.serde_json.specs.View.{view}
use Rattle.ds_server.specs.LineAnswers.{response_view}
use Rattle.ds_http.specs.Edits.{reads}
use Rattle.ds_http.proofs.Posting.{no_value}
use Rattle.ds_http.proofs.edits.post_edit.Goals as goal

pub returns-in-Ok : goal.returns-in-Ok
returns-in-Ok g c = reads (view c.in-Ok.value) (response_view c.edit_by_value.result) c.edit_by_value.new.desk c.in-Ok.ensures c.edit_by_value.ensures

pub returns-in-Err : goal.returns-in-Err
returns-in-Err g c = no_value g.B.Desk.rules c.args.desk.now (option_copied c.args.head) c.args.body.now c.in-Err.fault c.in-Err.ensures
