use Rattle.pm_board.specs.Fuses.{Asked}
use Rattle.pm_shared.proofs.Writing.{write_out, write_runs}
use Rattle.pm_shared.proofs.registers.write.Goals as goal

pub returns-clause-wrote : goal.returns-clause-wrote
returns-clause-wrote g c = rw c.is_some.ensures (write_out (λ k. Asked g.F.Fuse.said c.args.fuse.now c.drive.new.fuse k 1) (λ k. Asked g.F.Fuse.said c.args.fuse.now c.drive.new.fuse k 0) c.args.board.now.key c.args.process c.args.value c.args.place.now.me c.drive.new.seat.me c.drive.new.call c.drive.result c.requires.sits.runs c.drive.ensures.me)

pub returns-clause-runs : goal.returns-clause-runs
returns-clause-runs g c = write_runs (λ k. Asked g.F.Fuse.said c.args.fuse.now c.drive.new.fuse k 1) (λ k. Asked g.F.Fuse.said c.args.fuse.now c.drive.new.fuse k 0) c.args.board.now.key c.args.place.now.me c.drive.new.seat.me c.args.process c.args.value c.is_some.result c.requires.sits.runs (returns-clause-wrote g c)
