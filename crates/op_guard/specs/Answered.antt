-- What an answer leaves of a region and of the caller.
use Rattle.std.specs.Prelude.{◌≡◌, ℕ, max}
use Rattle.mont_base.specs.declared.operation.Op.{Op}
use Rattle.mont_base.specs.declared.operation.Receipt.{Receipt}
use Rattle.mont_base.specs.declared.operation.Reply.{Reply}
use Rattle.core_steps.specs.CallAnswers.{after_leave, after_read}
use Rattle.heap.specs.HeapShown.{HeapShown, CallerShown}
use Rattle.heap.specs.Receipts.{receipt_of}
use Rattle.heap_rule.specs.Plays.{IsClock, IsNotBeyond, answer_of}
use Rattle.heap_rule.specs.Views.{caller_answered}
use Rattle.slots.specs.Books.{RegionShown, books_showing}
use Rattle.slots.specs.Reclaiming.{IsSound}
use Rattle.op_guard.specs.Regions.{IsReady}

-- The unit has one entry more, of this epoch, and the receipt names it. It stands after all that
-- the caller had seen of the unit, which stood first there.
pub record HasAnswered
    (heap : HeapShown) (old new : RegionShown) (q r : CallerShown) (op : Op) (reply : Reply)
    (epoch : ℕ) (receipt : Receipt) : Type 0 where
  pub receipt_is : receipt ≡ receipt_of old.seat.known (answer_of q.known op reply epoch)
  pub seen : IsNotBeyond q.known old.seat.known
  pub caller : r ≡ record {
    table = q.table;
    known = caller_answered q.known old.seat.known receipt.entry;
  }
  pub books : new.books ≡ books_showing old.books new.seat.known.part
  pub ready : IsReady heap new
  pub sound_before : IsSound heap old
  pub sound : IsSound heap new

-- what was written became records
pub record HasCommitted
    (heap : HeapShown) (old new : RegionShown) (q r : CallerShown) (op : Op) (reply : Reply)
    (epoch : ℕ) (receipt : Receipt) : Type 0 where
  pub answered : HasAnswered heap old new q r op reply epoch receipt
  pub part : new.seat.known.part ≡ after_leave old.seat.known.part receipt.entry

-- nothing but the history changed, and the entry's epoch is the clock that was loaded
pub record HasRead
    (heap : HeapShown) (old new : RegionShown) (q r : CallerShown) (op : Op) (reply : Reply)
    (receipt : Receipt) : Type 0 where
  pub answered : HasAnswered heap old new q r op reply receipt.entry.epoch receipt
  pub part : new.seat.known.part ≡ after_read old.seat.known.part receipt.entry
  pub clock : IsClock (record {
    newest = max old.seat.known.learnt.newest q.known.part.newest;
    durable = max old.seat.known.learnt.durable q.known.part.durable;
  }) old.seat.known.part receipt.entry.epoch
