use Rattle.pm_board.specs.Fuses.{Asked}
use Rattle.pq_shared.proofs.Ending.{enqueue_out, enqueue_runs}
use Rattle.pq_shared.proofs.calls.enqueue.Goals as goal

pub returns-clause-ends : goal.returns-clause-ends
returns-clause-ends g c = enqueue_out (λ k. Asked g.F.Fuse.said c.args.fuse.now c.drive.new.fuse k 1) (λ k. Asked g.F.Fuse.said c.args.fuse.now c.drive.new.fuse k 0) c.args.board.now.key c.args.operation.process c.args.operation.number c.args.value c.new-call.result c.args.place.now.me c.drive.new.seat.me c.drive.new.call c.drive.result c.new-call.ensures c.requires.sits.runs c.drive.ensures.me

pub returns-clause-runs : goal.returns-clause-runs
returns-clause-runs g c = enqueue_runs (λ k. Asked g.F.Fuse.said c.args.fuse.now c.drive.new.fuse k 1) (λ k. Asked g.F.Fuse.said c.args.fuse.now c.drive.new.fuse k 0) c.args.board.now.key c.args.operation.process c.args.operation.number c.args.value c.args.place.now.me c.drive.new.seat.me c.drive.result c.requires.sits.runs (returns-clause-ends g c)
