use Rattle.store_worked.proofs.long_use.words_left.Given as goal

abbrev pub ghosts-used : goal.ghosts-used
ghosts-used g a = record { heap = a.heap }
