use Rattle.job_store.proofs.recovered_run.run_recovered.Given as goal

abbrev pub ghosts-run_on_recovered : goal.ghosts-run_on_recovered
ghosts-run_on_recovered g a = record { heap = a.recovered.heap }
