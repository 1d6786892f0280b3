use Rattle.heap.proofs.heap.Heap.load_durable.Given as goal

abbrev pub ghosts-load_known : goal.ghosts-load_known
ghosts-load_known g a = record { opening = a.self.now.opening }
