use Rattle.std.proofs.Common.{Ok, Err}
use Rattle.ds_server.specs.Replies.{joined_view}
use Rattle.ds_server.specs.WorldDesks.{joins, joins_any, has_none}
use Rattle.ds_server.proofs.world.joined_any.Goals as goal

pub returns-in_default-clause-does : goal.returns-in_default-clause-does
returns-in_default-clause-does c = has_none c.in_default.ensures

pub returns-in-Ok-clause-does : goal.returns-in-Ok-clause-does
returns-in-Ok-clause-does c =
    let r = c.in-Ok.ensures.recovered in
    joins_any c.in-Some.process (joined_view c.in-Some.process (Ok c.in-Ok.last)) c.recovered.new.world c.in-Some.ensures
    (joins c.in-Some.process r.answer (Ok c.in-Ok.last) c.recovered.new.world r.whole r.tells)

pub returns-in-Err-clause-does : goal.returns-in-Err-clause-does
returns-in-Err-clause-does c =
    let r = c.in-Err.ensures.recovered in
    joins_any c.in-Some.process (joined_view c.in-Some.process (Err c.in-Err.refusal)) c.recovered.new.world c.in-Some.ensures
    (joins c.in-Some.process r.answer (Err c.in-Err.refusal) c.recovered.new.world r.whole r.tells)
