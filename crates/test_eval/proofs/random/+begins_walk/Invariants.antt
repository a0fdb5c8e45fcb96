use Rattle.test_eval.proofs.random.+begins_walk.Given as goal

abbrev pub decreases-begins_walk : goal.decreases-begins_walk
decreases-begins_walk l = l.steps
