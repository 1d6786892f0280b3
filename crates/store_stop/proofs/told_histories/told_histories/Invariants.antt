use Rattle.std.proofs.Common.{◌≡◌, List, length, take}
use Rattle.mont_base.specs.declared.operation.Entry.{Entry}
use Rattle.store_stop.specs.ToldHistories.{TellAll}
use Rattle.store_stop.proofs.told_histories.told_histories.Given as goal

abbrev pub invariant-loop-unit : goal.invariant-loop-unit
invariant-loop-unit l =
    (histories : List (List Entry)) → length histories ≡ l.units → TellAll l.receipts histories
    → l.histories ≡ take l.unit histories
