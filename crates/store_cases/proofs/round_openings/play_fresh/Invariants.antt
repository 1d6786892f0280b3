use Rattle.store_cases.proofs.round_openings.play_fresh.Given as goal

abbrev pub ghosts-play_on_fresh : goal.ghosts-play_on_fresh
ghosts-play_on_fresh g a = record { heap = a.heap }
