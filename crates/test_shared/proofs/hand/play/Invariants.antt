use Rattle.ds_shared.specs.Answers.{IsOf}
use Rattle.test_shared.proofs.hand.play.Given as goal

abbrev pub invariant-loop-turn : goal.invariant-loop-turn
invariant-loop-turn l = IsOf l.sheet l.member.pass
