use Rattle.std.specs.Prelude.{All}
use Rattle.std.specs.Arc.{arc_value}
use Rattle.ds_shared.specs.Answers.{IsOf}
use Rattle.bench_threads.proofs.shared.deal.Given as goal

abbrev pub invariant-loop-runner : goal.invariant-loop-runner
invariant-loop-runner l = All (λ p. IsOf (arc_value l.sheet) p) l.passes.items
