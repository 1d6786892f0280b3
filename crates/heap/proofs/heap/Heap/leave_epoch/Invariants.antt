use Rattle.heap.proofs.heap.Heap.leave_epoch.Given as goal

abbrev pub ghosts-store_left : goal.ghosts-store_left
ghosts-store_left g a = record { opening = a.self.now.opening; op = a.op.now; reply = a.reply.now }
