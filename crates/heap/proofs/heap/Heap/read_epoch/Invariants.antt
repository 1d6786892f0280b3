use Rattle.heap.proofs.heap.Heap.read_epoch.Given as goal

abbrev pub ghosts-load_read : goal.ghosts-load_read
ghosts-load_read g a = record { opening = a.self.now.opening; op = a.op.now; reply = a.reply.now }
