-- Two units that leave their epoch one after the other.
use Rattle.std.proofs.Common.{◌≡◌, ℕ, ◌+◌, ◌≤◌, ap, ◌∙◌, arith}
use Rattle.mont_base.specs.declared.constants.TheConstants.{LAST}
use Rattle.mont_base.specs.declared.operation.Op.{Op}
use Rattle.mont_base.specs.declared.operation.Receipt.{Receipt}
use Rattle.mont_base.specs.declared.operation.Reply.{Reply}
use Rattle.mont_base.specs.Layout.{Shape}
use Rattle.core_steps.specs.declared.parts.CallerPart.{CallerPart}
use Rattle.core_steps.specs.declared.parts.UnitPart.{UnitPart}
use Rattle.core_steps.specs.CallAnswers.{CanLeave}
use Rattle.heap.specs.HeapShown.{HeapShown, CallerShown}
use Rattle.slots.specs.Books.{RegionShown}
use Rattle.op_guard.specs.Answered.{HasCommitted}

-- ---- the second unit may leave after the first
pub can_leave_next : (s : Shape) (u : ℕ) (p : UnitPart) (q r : CallerPart) (op : Op) (reply : Reply) (epoch : ℕ) → r.calls ≡ q.calls + 1
    → q.calls + 1 ≤ LAST → r.newest ≡ epoch → CanLeave s u p q op reply epoch → CanLeave s u p r op reply epoch
can_leave_next s u p q r op reply epoch next last newest k = record {
  unfrozen = k.unfrozen;
  stage = k.stage;
  whole = k.whole;
  some = k.some;
  judged = k.judged;
  changes = k.changes;
  numbers = record { place = k.numbers.place; call = omega arith };
  newest = omega arith;
}

module _ (heap : HeapShown) (old new : RegionShown) (q r : CallerShown) (op : Op) (reply : Reply) (epoch : ℕ) (receipt : Receipt)
    (k : HasCommitted heap old new q r op reply epoch receipt) where
  epoch_is : receipt.entry.epoch ≡ epoch
  epoch_is = ap (λ (x : Receipt). x.entry.epoch) k.answered.receipt_is

  pub calls_behind : r.known.part.calls ≡ q.known.part.calls + 1
  calls_behind = ap (λ (x : CallerShown). x.known.part.calls) k.answered.caller

  pub newest_behind : r.known.part.newest ≡ epoch
  newest_behind = ap (λ (x : CallerShown). x.known.part.newest) k.answered.caller ∙ epoch_is
