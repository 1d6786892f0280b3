use Rattle.plain.specs.Callers.{AreReceiptsOf}
use Rattle.plain.proofs.Each.{EachBelow}
use Rattle.plain.proofs.callers.are_receipts.Given as goal

abbrev pub invariant-loop-caller : goal.invariant-loop-caller
invariant-loop-caller l = EachBelow (λ caller rs. AreReceiptsOf l.histories caller rs) l.receipts l.caller
