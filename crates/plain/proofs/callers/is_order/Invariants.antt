use Rattle.std.proofs.Common.{take}
use Rattle.std.specs.List.{AllPairs}
use Rattle.mont_base.specs.Seen.{IsInOrder}
use Rattle.plain.proofs.callers.is_order.Given as goal

abbrev pub invariant-loop-at : goal.invariant-loop-at
invariant-loop-at l = AllPairs IsInOrder (take l.at l.receipts)
