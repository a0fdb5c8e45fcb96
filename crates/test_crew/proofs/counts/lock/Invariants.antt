use Rattle.test_crew.proofs.counts.lock.Given as goal

abbrev pub ghosts-lock_and_edit-L-Ledger : goal.ghosts-lock_and_edit-L-Ledger
ghosts-lock_and_edit-L-Ledger g a = record { name = a.dones.name; parts = a.dones.parts }

abbrev pub ghosts-lock_and_edit-M-Ledger : goal.ghosts-lock_and_edit-M-Ledger
ghosts-lock_and_edit-M-Ledger g a = record { name = a.settleds.name; parts = a.settleds.parts }
