use Rattle.std.proofs.Common.{sym, subst}
use Rattle.heap_pass.specs.Kept.{StandLast}
use Rattle.heap_pass.proofs.Kept.{none_last}
use Rattle.heap_pass.proofs.pass.Pass.new.Goals as goal

pub invariant_of-result : goal.invariant_of-result
invariant_of-result g c = record {
  kept = subst (StandLast c.args.ticket.known.part.receipts) (sym c.new.ensures.items) (none_last c.args.ticket.known.part.receipts);
}
