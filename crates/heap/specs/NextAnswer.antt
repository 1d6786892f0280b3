-- Where the next answer of a unit to a caller stands, and the receipt that comes of it.
use Rattle.std.specs.Prelude.{ℕ, length}
use Rattle.mont_base.specs.declared.operation.Op.{Op}
use Rattle.mont_base.specs.declared.operation.Receipt.{Receipt}
use Rattle.mont_base.specs.declared.operation.Reply.{Reply}
use Rattle.heap_rule.specs.declared.views.CallerKnown.{CallerKnown}
use Rattle.heap_rule.specs.declared.views.UnitKnown.{UnitKnown}
use Rattle.heap.specs.declared.next_answer.NextAnswer.{NextAnswer}

-- after the unit's entries, and after the caller's answered calls
abbrev pub next_answer : UnitKnown → CallerKnown → NextAnswer
next_answer h q = record {
  unit = h.unit;
  place = length h.part.history;
  caller = q.caller;
  call = q.part.calls;
}

-- the receipt of an operation that is answered so there, within an epoch
abbrev pub receipt_at : NextAnswer → Op → Reply → ℕ → Receipt
receipt_at n op reply epoch = record {
  unit = n.unit;
  place = n.place;
  entry = record { caller = n.caller; call = n.call; op = op; reply = reply; epoch = epoch };
}
