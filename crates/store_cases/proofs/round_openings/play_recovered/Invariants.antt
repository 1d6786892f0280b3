use Rattle.store_cases.proofs.round_openings.play_recovered.Given as goal

abbrev pub ghosts-play_on_recovered : goal.ghosts-play_on_recovered
ghosts-play_on_recovered g a = record { heap = a.recovered.heap }
