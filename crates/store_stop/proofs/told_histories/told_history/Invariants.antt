use Rattle.std.proofs.Common.{◌≤◌, List, length, take}
use Rattle.std.specs.Prelude.{All}
use Rattle.mont_base.specs.declared.operation.Entry.{Entry}
use Rattle.store_stop.specs.ToldHistories.{HoldsEntryOf, TellsHistory}
use Rattle.store_stop.proofs.told_histories.told_history.Given as goal

abbrev pub invariant-loop-of_caller : goal.invariant-loop-of_caller
invariant-loop-of_caller l =
    (h : List Entry) → TellsHistory l.receipts l.unit h
    → (length l.history.items ≤ length h) × All (All (HoldsEntryOf l.unit l.history.items)) (take l.of_caller-index l.receipts)
