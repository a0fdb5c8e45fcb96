use Rattle.test_pq.proofs.schedule.drive.Given as goal

abbrev pub invariant-loop-step : goal.invariant-loop-step
invariant-loop-step g l = g.M.Machine.calls.fits 2 l.call
