use Rattle.pm_board.specs.Fuses.{Asked}
use Rattle.pm_shared.proofs.Raised.{raise_out, raise_runs}
use Rattle.pm_shared.proofs.mark.raise.Goals as goal

pub returns-clause-raised : goal.returns-clause-raised
returns-clause-raised g c = raise_out (λ k. Asked g.F.Fuse.said c.args.fuse.now c.drive.new.fuse k 1) (λ k. Asked g.F.Fuse.said c.args.fuse.now c.drive.new.fuse k 0) c.args.board.now.key c.args.process c.args.value c.args.place.now.me c.drive.new.seat.me c.drive.new.call c.drive.result c.requires.sits.runs c.drive.ensures.me

pub returns-clause-runs : goal.returns-clause-runs
returns-clause-runs g c = raise_runs (λ k. Asked g.F.Fuse.said c.args.fuse.now c.drive.new.fuse k 1) (λ k. Asked g.F.Fuse.said c.args.fuse.now c.drive.new.fuse k 0) c.args.board.now.key c.args.place.now.me c.drive.new.seat.me c.args.process c.args.value c.drive.result c.requires.sits.runs (returns-clause-raised g c)
