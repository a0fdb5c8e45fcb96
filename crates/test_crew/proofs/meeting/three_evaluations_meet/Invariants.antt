use Rattle.test_crew.proofs.meeting.three_evaluations_meet.Given as goal

abbrev pub ghosts-run_all-L-Ledger : goal.ghosts-run_all-L-Ledger
ghosts-run_all-L-Ledger g a = record { name = a.dones.name; parts = a.dones.parts }

abbrev pub ghosts-run_all-M-Ledger : goal.ghosts-run_all-M-Ledger
ghosts-run_all-M-Ledger g a = record { name = a.settleds.name; parts = a.settleds.parts }
