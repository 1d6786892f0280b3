use Rattle.std.proofs.Common.{sym, subst}
use Rattle.heap_pass.specs.Kept.{StandLast}
use Rattle.heap_pass.proofs.Kept.{none_last}
use Rattle.heap_pass.proofs.pass.Pass.forget.Goals as goal

pub invariant_of-self : goal.invariant_of-self
invariant_of-self g c =
    let all = c.args.self.now.ticket.known.part.receipts in
    record { kept = subst (StandLast all) (sym c.clear.ensures.items) (none_last all) }
