use Rattle.bank_store.proofs.bank_run.run_bank.Given as goal

abbrev pub ghosts-run_on_fresh : goal.ghosts-run_on_fresh
ghosts-run_on_fresh g a = record { heap = a.heap }
