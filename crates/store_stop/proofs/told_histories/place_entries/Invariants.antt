use Rattle.std.proofs.Common.{take}
use Rattle.store_stop.specs.ToldHistories.{Fills}
use Rattle.store_stop.proofs.told_histories.place_entries.Given as goal

abbrev pub invariant-loop-receipt : goal.invariant-loop-receipt
invariant-loop-receipt l = Fills l.unit (take l.receipt-index l.receipts) l.initial.history.items l.history.items
