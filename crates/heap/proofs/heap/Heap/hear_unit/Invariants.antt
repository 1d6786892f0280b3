use Rattle.heap.proofs.heap.Heap.hear_unit.Given as goal

abbrev pub ghosts-load_heard : goal.ghosts-load_heard
ghosts-load_heard a = record { opening = a.self.now.opening }
