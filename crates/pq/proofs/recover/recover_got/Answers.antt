use Rattle.std.proofs.Common.{ℕ, ◌<◌, sym, subst}
use Rattle.pq.specs.Calls.{RecoverStageFits}
use Rattle.pq.proofs.Fits.{stage_fits, announced_fits}
use Rattle.pq.proofs.recover.recover_got.Goals as goal

pub returns-clause-fits : goal.returns-clause-fits
returns-clause-fits c f = (
  f.0,
  subst (λ (z : ℕ). z < 33554432) (sym c.announced_then-announced.ensures) (announced_fits c.args.call.now.stage c.args.call.now.announced c.args.word f.1),
  subst RecoverStageFits (sym c.after-stage.ensures) (stage_fits c.args.call.now.announced c.args.call.now.turns c.args.call.now.stage c.args.word f.2),
)
