use Rattle.std.proofs.Common.{length}
use Rattle.plain.specs.Callers.{ArePlacesNamed}
use Rattle.plain.proofs.Each.{EachBelow}
use Rattle.plain.proofs.callers.are_named_once.Given as goal

abbrev pub invariant-loop-unit : goal.invariant-loop-unit
invariant-loop-unit l = EachBelow (λ unit h. ArePlacesNamed l.receipts unit (length h)) l.histories l.unit
