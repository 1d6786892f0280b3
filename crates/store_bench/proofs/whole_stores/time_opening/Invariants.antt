use Rattle.store_bench.proofs.whole_stores.time_opening.Given as goal

abbrev pub ghosts-open_on : goal.ghosts-open_on
ghosts-open_on g a = record { heap = a.heap }
