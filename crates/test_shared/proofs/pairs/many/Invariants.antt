use Rattle.ds_shared.specs.Answers.{IsOf}
use Rattle.test_shared.proofs.pairs.many.Given as goal

abbrev pub invariant-loop-round : goal.invariant-loop-round
invariant-loop-round l = IsOf l.sheet l.pass
