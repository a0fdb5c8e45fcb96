use Rattle.std.proofs.Common.{◌≡◌, ◌∙◌, refl, ap}
use Rattle.ds_structure.proofs.Shows.{next_same}
use Rattle.ds_state.specs.Works.{PlainShowCall}
use Rattle.pm_board.specs.Fuses.{Asked}
use Rattle.ds_structure.specs.Calls.{shows}
use Rattle.ds_structure_shared.proofs.Beginning.{show_served, goes_show}
use Rattle.ds_structure_shared.proofs.Ending.{kept_out, out, runs_out, quiet_show}
use Rattle.ds_structure_shared.proofs.calls.show.Goals as goal

pub drive-requires-clause-serves : goal.drive-requires-clause-serves
drive-requires-clause-serves g c = λ fits go. show_served c.args.board.now.key c.args.call.now (ap (λ (z : PlainShowCall). z.stage) c.requires.may.fresh)

pub returns-clause-ended : goal.returns-clause-ended
returns-clause-ended g c = out shows c.args.board.now.key (λ d go. quiet_show d d.stage go) (λ d word. (next_same d d.stage word).process) c.args.call.now c.args.place.now.me c.drive.new.seat.me c.drive.new.call (λ k. Asked g.F.Fuse.said c.args.fuse.now c.drive.new.fuse k 1) (λ k. Asked g.F.Fuse.said c.args.fuse.now c.drive.new.fuse k 0) c.drive.result (goes_show c.args.call.now.stage (ap (λ (z : PlainShowCall). z.stage) c.requires.may.fresh)) c.drive.ensures.me

pub returns-clause-runs : goal.returns-clause-runs
returns-clause-runs g c = runs_out shows c.args.board.now.key (λ d go. quiet_show d d.stage go) (λ d word. (next_same d d.stage word).process) c.args.call.now c.args.place.now.me c.drive.new.seat.me c.drive.new.call (λ k. Asked g.F.Fuse.said c.args.fuse.now c.drive.new.fuse k 1) (λ k. Asked g.F.Fuse.said c.args.fuse.now c.drive.new.fuse k 0) c.drive.result c.requires.sits.runs (returns-clause-ended g c)

pub returns-clause-same : goal.returns-clause-same
returns-clause-same g c = kept_out shows c.args.board.now.key (λ d. (d.process ≡ c.args.call.now.process) × (d.next ≡ c.args.call.now.next)) (λ d word h. let is = next_same d d.stage word in (is.process ∙ h.0, is.next ∙ h.1)) c.args.call.now c.args.place.now.me c.drive.new.seat.me c.drive.new.call (λ k. Asked g.F.Fuse.said c.args.fuse.now c.drive.new.fuse k 1) (λ k. Asked g.F.Fuse.said c.args.fuse.now c.drive.new.fuse k 0) c.drive.result (refl, refl) c.drive.ensures.me
