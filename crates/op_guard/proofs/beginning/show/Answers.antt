use Rattle.std.proofs.Common.{rules}
use Rattle.op_guard.proofs.Begins.{ready_as_shown}
use Rattle.op_guard.proofs.beginning.show.Goals as goal

pub returns-clause-ready : goal.returns-clause-ready
returns-clause-ready c =
    ready_as_shown c.args.heap.now c.args.region.now _ c.args.ticket.now (search rules) c.requires.ready
