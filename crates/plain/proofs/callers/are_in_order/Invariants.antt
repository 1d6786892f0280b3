use Rattle.std.specs.List.{AllPairs}
use Rattle.mont_base.specs.Seen.{IsInOrder}
use Rattle.plain.proofs.Each.{EachBelow}
use Rattle.plain.proofs.callers.are_in_order.Given as goal

abbrev pub invariant-loop-of_caller : goal.invariant-loop-of_caller
invariant-loop-of_caller l = EachBelow (λ _ rs. AllPairs IsInOrder rs) l.receipts l.of_caller-index
