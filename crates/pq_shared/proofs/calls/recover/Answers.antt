use Rattle.pq_shared.proofs.Ending.{recovery_breaks, recovery_broken, recovered}
use Rattle.pq_shared.proofs.calls.recover.Goals as goal

pub returns-in-Some-clause-ends : goal.returns-in-Some-clause-ends
returns-in-Some-clause-ends g c =
    let h = c.in-Some.ensures.me in
    (h.0, h.1, recovered c.args.board.now.key c.args.process c.new-call.result c.args.place.now.me c.drive.new.seat.me c.drive.new.call c.in-Some.ended h.0 c.new-call.ensures h.2)

pub returns-in-Some-clause-runs : goal.returns-in-Some-clause-runs
returns-in-Some-clause-runs g c =
    let h = c.in-Some.ensures.me in
    (recovered c.args.board.now.key c.args.process c.new-call.result c.args.place.now.me c.drive.new.seat.me c.drive.new.call c.in-Some.ended h.0 c.new-call.ensures h.2).sits.runs

pub returns-in-None-clause-runs : goal.returns-in-None-clause-runs
returns-in-None-clause-runs g c =
    let h = c.in-None.ensures.me in
    recovery_broken c.args.board.now.key c.args.process c.new-call.result c.args.place.now.me c.drive.new.seat.me c.drive.new.call h.0 c.new-call.ensures c.requires.runs h.2

pub returns-in-None-clause-ends : goal.returns-in-None-clause-ends
returns-in-None-clause-ends g c =
    let h = c.in-None.ensures.me in
    (h.0, h.1, recovery_breaks c.args.board.now.key c.args.process c.new-call.result c.args.place.now.me c.drive.new.seat.me c.drive.new.call h.0 c.new-call.ensures h.2)
