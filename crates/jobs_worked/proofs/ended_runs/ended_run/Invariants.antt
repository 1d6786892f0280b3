use Rattle.jobs_worked.proofs.ended_runs.ended_run.Given as goal

abbrev pub ghosts-run_on : goal.ghosts-run_on
ghosts-run_on g a = record { heap = a.heap }
