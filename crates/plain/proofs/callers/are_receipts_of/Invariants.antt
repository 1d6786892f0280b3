use Rattle.mont_base.specs.Seen.{IsReceiptOf}
use Rattle.plain.proofs.Each.{EachBelow}
use Rattle.plain.proofs.callers.are_receipts_of.Given as goal

abbrev pub invariant-loop-call : goal.invariant-loop-call
invariant-loop-call l = EachBelow (λ call r. IsReceiptOf l.histories l.caller call r) l.receipts l.call
