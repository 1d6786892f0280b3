use Rattle.heap.proofs.heap.Heap.persist_close.Given as goal

abbrev pub ghosts-store_closed : goal.ghosts-store_closed
ghosts-store_closed g a = record { opening = a.self.now.opening }
