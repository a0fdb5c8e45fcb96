use Rattle.bench_threads.proofs.locked.measure.Given as goal

abbrev pub ghosts-once-L-Ledger : goal.ghosts-once-L-Ledger
ghosts-once-L-Ledger g a = record { name = a.dones.name; parts = a.dones.parts }

abbrev pub ghosts-once-M-Ledger : goal.ghosts-once-M-Ledger
ghosts-once-M-Ledger g a = record { name = a.settleds.name; parts = a.settleds.parts }
