use Rattle.store_door.proofs.door.with_fresh.Given as goal

abbrev pub ghosts-work_on_fresh : goal.ghosts-work_on_fresh
ghosts-work_on_fresh g a = record { heap = a.heap }
