use Rattle.pm_board.specs.Fuses.{Asked}
use Rattle.pm_shared.proofs.Writing.{recovery_out, recovery_runs}
use Rattle.pm_shared.proofs.registers.recover.Goals as goal

pub returns-clause-recovered : goal.returns-clause-recovered
returns-clause-recovered g c = recovery_out (λ k. Asked g.F.Fuse.said c.args.fuse.now c.drive.new.fuse k 1) (λ k. Asked g.F.Fuse.said c.args.fuse.now c.drive.new.fuse k 0) c.args.board.now.key c.args.process c.args.place.now.me c.drive.new.seat.me c.drive.new.call c.drive.result c.requires.runs c.drive.ensures.me

pub returns-clause-runs : goal.returns-clause-runs
returns-clause-runs g c = recovery_runs (λ k. Asked g.F.Fuse.said c.args.fuse.now c.drive.new.fuse k 1) (λ k. Asked g.F.Fuse.said c.args.fuse.now c.drive.new.fuse k 0) c.args.board.now.key c.args.place.now.me c.drive.new.seat.me c.args.process c.drive.result c.requires.runs (returns-clause-recovered g c)
