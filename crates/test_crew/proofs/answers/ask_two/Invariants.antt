use Rattle.test_crew.proofs.answers.ask_two.Given as goal

abbrev pub ghosts-lock_and_ask-L-Ledger : goal.ghosts-lock_and_ask-L-Ledger
ghosts-lock_and_ask-L-Ledger g a = record { name = a.dones.name; parts = a.dones.parts }

abbrev pub ghosts-lock_and_ask-M-Ledger : goal.ghosts-lock_and_ask-M-Ledger
ghosts-lock_and_ask-M-Ledger g a = record { name = a.settleds.name; parts = a.settleds.parts }
