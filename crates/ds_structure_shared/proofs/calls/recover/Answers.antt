use Rattle.std.proofs.Common.{◌≡◌, ◌∙◌, refl, ap}
use Rattle.ds_structure.proofs.Recoveries.{next_same}
use Rattle.ds_state.specs.Works.{PlainRecoverCall}
use Rattle.pm_board.specs.Fuses.{Asked}
use Rattle.ds_structure.specs.Calls.{recoveries}
use Rattle.ds_structure_shared.proofs.Beginning.{recovery_served, goes_recovery}
use Rattle.ds_structure_shared.proofs.Ending.{kept_out, out, runs_out, quiet_recovery}
use Rattle.ds_structure_shared.proofs.calls.recover.Goals as goal

pub drive-requires-clause-serves : goal.drive-requires-clause-serves
drive-requires-clause-serves g c = λ fits go. recovery_served c.args.board.now.key c.args.call.now (ap (λ (z : PlainRecoverCall). z.stage) c.requires.fresh)

pub returns-clause-ended : goal.returns-clause-ended
returns-clause-ended g c = out recoveries c.args.board.now.key (λ d go. quiet_recovery d d.stage go) (λ d word. (next_same d d.stage word).process) c.args.call.now c.args.place.now.me c.drive.new.seat.me c.drive.new.call (λ k. Asked g.F.Fuse.said c.args.fuse.now c.drive.new.fuse k 1) (λ k. Asked g.F.Fuse.said c.args.fuse.now c.drive.new.fuse k 0) c.drive.result (goes_recovery c.args.call.now.stage (ap (λ (z : PlainRecoverCall). z.stage) c.requires.fresh)) c.drive.ensures.me

pub returns-clause-runs : goal.returns-clause-runs
returns-clause-runs g c = runs_out recoveries c.args.board.now.key (λ d go. quiet_recovery d d.stage go) (λ d word. (next_same d d.stage word).process) c.args.call.now c.args.place.now.me c.drive.new.seat.me c.drive.new.call (λ k. Asked g.F.Fuse.said c.args.fuse.now c.drive.new.fuse k 1) (λ k. Asked g.F.Fuse.said c.args.fuse.now c.drive.new.fuse k 0) c.drive.result c.requires.runs (returns-clause-ended g c)

pub returns-clause-same : goal.returns-clause-same
returns-clause-same g c = kept_out recoveries c.args.board.now.key (λ d. d.process ≡ c.args.call.now.process) (λ d word h. (next_same d d.stage word).process ∙ h) c.args.call.now c.args.place.now.me c.drive.new.seat.me c.drive.new.call (λ k. Asked g.F.Fuse.said c.args.fuse.now c.drive.new.fuse k 1) (λ k. Asked g.F.Fuse.said c.args.fuse.now c.drive.new.fuse k 0) c.drive.result refl c.drive.ensures.me
