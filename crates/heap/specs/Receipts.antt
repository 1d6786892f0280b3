-- What a caller is given for an answer.
use Rattle.std.specs.Prelude.{length}
use Rattle.mont_base.specs.declared.operation.Entry.{Entry}
use Rattle.mont_base.specs.declared.operation.Receipt.{Receipt}
use Rattle.heap_rule.specs.declared.views.UnitKnown.{UnitKnown}

-- the entry stands after all others of the unit
abbrev pub receipt_of : UnitKnown → Entry → Receipt
receipt_of h e = record { unit = h.unit; place = length h.part.history; entry = e }
