use Rattle.std.proofs.Common.{rules, ℕ, ◌≡◌, ◌+◌, refl, subst}
use Rattle.ds_crew.specs.Trails.{Trail, GoesOver, HasGoneRound, none}
use Rattle.ds_crew.proofs.Trails.{over_one_more, served}
use Rattle.ds_crew.proofs.workers.rounds.Goals as goal

pub loop-init : goal.loop-init
loop-init g c = none

pub loop-preserved : goal.loop-preserved
loop-preserved g c =
    let n = c.loop.counter in
    over_one_more (λ (round : ℕ) (old new : Trail). HasGoneRound c.args.sheet.now.layout.shape c.pass.inside.process old new) c.pass.inside.trail c.loop.trail c.round.new.trail n (n + 1) refl c.loop.invariant c.round.ensures

pub returns : goal.returns
returns g c =
    let shape = c.args.sheet.now.layout.shape in
    let all : c.loop.counter ≡ c.args.turns = search rules in
    served shape c.args.turns c.args.pass.now _ c.loop.trail c.pass.view_is
    (subst (λ (n : ℕ). GoesOver (λ (round : ℕ) (old new : Trail). HasGoneRound shape c.pass.inside.process old new) c.pass.inside.trail n c.loop.trail) all c.loop.invariant)
