use Rattle.test_shared.proofs.pairs.broken_off.Goals as goal

pub reopen-requires : goal.reopen-requires
reopen-requires c = c.crash_with.ensures.rests c.in_ok-closed.ensures.1
