use Rattle.ds_shared.specs.Answers.{IsOf}
use Rattle.test_shared.proofs.hand.settle.Given as goal

abbrev pub invariant-loop-round : goal.invariant-loop-round
invariant-loop-round l = IsOf l.sheet l.member.pass

abbrev pub invariant-loop-cell : goal.invariant-loop-cell
invariant-loop-cell l = IsOf l.sheet l.member.pass
