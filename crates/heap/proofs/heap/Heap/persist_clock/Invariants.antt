use Rattle.heap.proofs.heap.Heap.persist_clock.Given as goal

abbrev pub ghosts-store_clock : goal.ghosts-store_clock
ghosts-store_clock g a = record { opening = a.self.now.opening }
