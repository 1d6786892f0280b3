use Rattle.heap.proofs.heap.Heap.load_told.Given as goal

abbrev pub ghosts-load_announced : goal.ghosts-load_announced
ghosts-load_announced g a = record { opening = a.self.now.opening }
