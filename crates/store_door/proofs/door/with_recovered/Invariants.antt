use Rattle.store_door.proofs.door.with_recovered.Given as goal

abbrev pub ghosts-work_on_recovered : goal.ghosts-work_on_recovered
ghosts-work_on_recovered g a = record { heap = a.recovered.heap }
