-- Which of its ticket's receipts a pass keeps.
use Rattle.std.specs.Prelude.{◌≡◌, ◌-◌, List, length, drop}
use Rattle.mont_base.specs.declared.operation.Receipt.{Receipt}
use Rattle.heap.specs.HeapShown.{CallerShown}

-- these stand last among those
abbrev pub StandLast : {A : Type 0} → List A → List A → Type 0
StandLast all last = last ≡ drop (length all - length last) all

-- it keeps them all
abbrev pub IsWhole : CallerShown → List Receipt → Type 0
IsWhole q kept = kept ≡ q.known.part.receipts
