use Rattle.test_shared.proofs.rounds.crash.Goals as goal

pub returns-then-sides-words : goal.returns-then-sides-words
returns-then-sides-words c = c.crash_with.ensures.rests c.requires
