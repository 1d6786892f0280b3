use Rattle.job_store.proofs.synced_run.run_synced.Given as goal

abbrev pub ghosts-synced_on_fresh : goal.ghosts-synced_on_fresh
ghosts-synced_on_fresh g a = record { heap = a.heap }
