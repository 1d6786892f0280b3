use Rattle.std.proofs.Common.{sym, ◌∙◌}
use Rattle.plain.proofs.callers.tell_histories.Goals as goal
use Rattle.plain.proofs.callers.tell_histories.Goals.{then-are_receipts, else-are_receipts}

pub returns-then-are_in_order : goal.returns-then-are_in_order
returns-then-are_in_order c = elim c.if-are_receipts.branch [
  | then-are_receipts w ↦ (
    λ t. record {
      called = c.are_receipts.ensures.0 w.if-are_receipts.true;
      order = w.are_in_order.ensures.0 (sym w.value-is ∙ c.if-are_in_order.true);
      once = c.are_named_once.ensures.0 t;
    },
    λ h. c.are_named_once.ensures.1 h.once,
  )
  | else-are_receipts w ↦ absurd (cc)
]
