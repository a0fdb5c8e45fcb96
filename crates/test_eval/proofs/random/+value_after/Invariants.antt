use Rattle.test_eval.proofs.random.+value_after.Given as goal

abbrev pub decreases-value_after : goal.decreases-value_after
decreases-value_after l = l.steps
