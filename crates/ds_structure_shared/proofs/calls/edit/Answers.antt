use Rattle.std.proofs.Common.{◌≡◌, ◌∙◌, refl, ap}
use Rattle.ds_state.specs.World.{edit_of}
use Rattle.pm_board.specs.Fuses.{Asked}
use Rattle.ds_structure.specs.Calls.{edits}
use Rattle.ds_structure_shared.proofs.Beginning.{edit_served, goes_edit}
use Rattle.ds_structure_shared.proofs.Ending.{kept_out, out, runs_out, quiet_edit}
use Rattle.ds_structure_shared.proofs.calls.edit.Goals as goal

pub drive-requires-clause-serves : goal.drive-requires-clause-serves
drive-requires-clause-serves g c = λ fits go. edit_served c.args.board.now.key c.args.call.now c.requires.may.first fits

pub returns-clause-ended : goal.returns-clause-ended
returns-clause-ended g c = out edits c.args.board.now.key (λ d go. quiet_edit d d.stage go) (λ d word. refl) c.args.call.now c.args.place.now.me c.drive.new.seat.me c.drive.new.call (λ k. Asked g.F.Fuse.said c.args.fuse.now c.drive.new.fuse k 1) (λ k. Asked g.F.Fuse.said c.args.fuse.now c.drive.new.fuse k 0) c.drive.result (goes_edit c.args.call.now.stage c.requires.may.first) c.drive.ensures.me

pub returns-clause-runs : goal.returns-clause-runs
returns-clause-runs g c = runs_out edits c.args.board.now.key (λ d go. quiet_edit d d.stage go) (λ d word. refl) c.args.call.now c.args.place.now.me c.drive.new.seat.me c.drive.new.call (λ k. Asked g.F.Fuse.said c.args.fuse.now c.drive.new.fuse k 1) (λ k. Asked g.F.Fuse.said c.args.fuse.now c.drive.new.fuse k 0) c.drive.result c.requires.sits.runs (returns-clause-ended g c)

pub returns-clause-same : goal.returns-clause-same
returns-clause-same g c = kept_out edits c.args.board.now.key (λ d. edit_of d ≡ edit_of c.args.call.now) (λ d word h. h) c.args.call.now c.args.place.now.me c.drive.new.seat.me c.drive.new.call (λ k. Asked g.F.Fuse.said c.args.fuse.now c.drive.new.fuse k 1) (λ k. Asked g.F.Fuse.said c.args.fuse.now c.drive.new.fuse k 0) c.drive.result refl c.drive.ensures.me
