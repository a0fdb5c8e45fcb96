use Rattle.ds_crew.specs.Trails.{GoesOver, HasGoneRound}
use Rattle.ds_crew.proofs.workers.rounds.Given as goal

abbrev pub invariant-loop : goal.invariant-loop
invariant-loop g l = GoesOver (λ round. HasGoneRound l.sheet.layout.shape l.process) l.initial.trail l.counter l.trail
