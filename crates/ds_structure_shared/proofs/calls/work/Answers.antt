use Rattle.std.proofs.Common.{◌≡◌, ◌∙◌, refl, ap}
use Rattle.ds_structure.proofs.Works.{next_process}
use Rattle.ds_state.specs.Works.{PlainWorkCall}
use Rattle.ds_work.proofs.Next.{next_noted}
use Rattle.pm_board.specs.Fuses.{Asked}
use Rattle.ds_structure.specs.Calls.{works}
use Rattle.ds_structure_shared.proofs.Beginning.{work_served, can_begin}
use Rattle.ds_structure_shared.proofs.Ending.{kept_out, out, runs_out, quiet_work}
use Rattle.ds_structure_shared.proofs.calls.work.Goals as goal

pub drive-requires-clause-serves : goal.drive-requires-clause-serves
drive-requires-clause-serves g c = λ fits go. work_served c.args.board.now.key c.requires.may.0 c.args.call.now c.requires.may.2

pub drive-requires-clause-begins : goal.drive-requires-clause-begins
drive-requires-clause-begins g c = can_begin works c.args.board.now.key c.args.place.now.me c.args.call.now c.requires.may.0 c.requires.may.1 c.requires.may.2

pub returns-clause-ended : goal.returns-clause-ended
returns-clause-ended g c = out works c.args.board.now.key (λ d go. quiet_work d d.stage go) (λ d word. next_process d word) c.args.call.now c.args.place.now.me c.drive.new.seat.me c.drive.new.call (λ k. Asked g.F.Fuse.said c.args.fuse.now c.drive.new.fuse k 1) (λ k. Asked g.F.Fuse.said c.args.fuse.now c.drive.new.fuse k 0) c.drive.result (c.requires.goes) c.drive.ensures.me

pub returns-clause-runs : goal.returns-clause-runs
returns-clause-runs g c = runs_out works c.args.board.now.key (λ d go. quiet_work d d.stage go) (λ d word. next_process d word) c.args.call.now c.args.place.now.me c.drive.new.seat.me c.drive.new.call (λ k. Asked g.F.Fuse.said c.args.fuse.now c.drive.new.fuse k 1) (λ k. Asked g.F.Fuse.said c.args.fuse.now c.drive.new.fuse k 0) c.drive.result c.requires.may.1.runs (returns-clause-ended g c)

pub returns-clause-same : goal.returns-clause-same
returns-clause-same g c = kept_out works c.args.board.now.key (λ d. (d.process ≡ c.args.call.now.process) × (d.next ≡ c.args.call.now.next) × (d.cell ≡ c.args.call.now.cell)) (λ d word h. let is = next_noted d word d.stage in (ap (λ (z : PlainWorkCall). z.process) is ∙ h.0, ap (λ (z : PlainWorkCall). z.next) is ∙ h.1, ap (λ (z : PlainWorkCall). z.cell) is ∙ h.2)) c.args.call.now c.args.place.now.me c.drive.new.seat.me c.drive.new.call (λ k. Asked g.F.Fuse.said c.args.fuse.now c.drive.new.fuse k 1) (λ k. Asked g.F.Fuse.said c.args.fuse.now c.drive.new.fuse k 0) c.drive.result (refl, refl, refl) c.drive.ensures.me
