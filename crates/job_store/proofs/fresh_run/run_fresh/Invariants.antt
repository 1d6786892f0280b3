use Rattle.job_store.proofs.fresh_run.run_fresh.Given as goal

abbrev pub ghosts-run_on_fresh : goal.ghosts-run_on_fresh
ghosts-run_on_fresh g a = record { heap = a.heap }
