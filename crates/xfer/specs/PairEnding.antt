-- What the records of an operation of two units, and its end, leave.
use Rattle.std.specs.Prelude.{◌≡◌, ℕ, ◌+◌, [], ◌∷◌, ◌++◌, Option, Some, None}
use Rattle.mont_base.specs.declared.operation.Op.{Op}
use Rattle.mont_base.specs.declared.operation.Receipt.{Receipt}
use Rattle.mont_base.specs.declared.operation.Reply.{Reply}
use Rattle.mont_base.specs.declared.record.Change.{Change}
use Rattle.heap.specs.HeapShown.{HeapShown, CallerShown}
use Rattle.slots.specs.Books.{RegionShown}
use Rattle.op_guard.specs.Answered.{HasCommitted}
use Rattle.op_guard.specs.Guarding.{HasChanged}
use Rattle.op_guard.specs.Regions.{KeepsStage, WasHalted}
use Rattle.xfer.specs.declared.pair_guard.PairGuard.{PairGuard}
use Rattle.xfer.specs.declared.pair_guard.PairReceipt.{PairReceipt}
use Rattle.xfer.specs.Pairs.{WereHalted, low_half, high_half}

-- ---- written
-- the record of one change stands in a slot of each unit
pub record HasWrittenPair
    (heap : HeapShown) (low low_now high high_now : RegionShown) (before after : PairGuard)
    (low_change high_change : Change) : Type 0 where
  pub low_slot : ℕ
  pub high_slot : ℕ
  pub guard_is : after ≡ record before { written = 2 }
  pub lower : HasChanged heap low low_now (low_half before) (low_half after) low_change low_slot
  pub higher : HasChanged heap high high_now (high_half before) (high_half after) high_change
      high_slot

-- ---- ended
-- Both entries are of the guard's epoch, and their calls of the caller follow each other.
pub record HasCommittedPair
    (heap : HeapShown) (low low_now high high_now : RegionShown) (q r : CallerShown)
    (low_op : Op) (low_reply : Reply)
    (high_op : Op) (high_reply : Reply)
    (epoch : ℕ) (receipts : PairReceipt) : Type 0 where
  pub between : CallerShown
  pub lower : HasCommitted heap low low_now q between low_op low_reply epoch receipts.low
  pub higher : HasCommitted heap high high_now between r high_op high_reply epoch receipts.high
  pub lower_epoch : receipts.low.entry.epoch ≡ epoch
  pub higher_epoch : receipts.high.entry.epoch ≡ epoch
  pub next_call : receipts.high.entry.call ≡ receipts.low.entry.call + 1

-- ---- cut
-- No entry was added, and both units are left halted where they were in the epoch.
pub record WereStopped
    (heap : HeapShown) (low low_now high high_now : RegionShown) (q r : CallerShown)
    : Type 0 where
  pub halted : WereHalted heap low low_now high high_now q r
  pub low_stage : KeepsStage low low_now
  pub high_stage : KeepsStage high high_now

-- The lower unit's entry stands alone. The higher unit is left halted within the entry's epoch, and
-- the caller keeps that.
pub record HasLeftAlone
    (heap : HeapShown) (low low_now high high_now : RegionShown) (q r : CallerShown) (op : Op)
    (reply : Reply) (epoch : ℕ) (receipt : Receipt) : Type 0 where
  pub between : CallerShown
  pub lower : HasCommitted heap low low_now q between op reply epoch receipt
  pub lower_epoch : receipt.entry.epoch ≡ epoch
  pub higher : WasHalted heap high high_now between r
  pub within : r.known.within
      ≡ q.known.within ++ record { unit = high.books.unit; epoch = epoch } ∷ []

-- by the receipt of the lower unit's entry, where it had left
abbrev pub LeavesPairCut :
    HeapShown → RegionShown → RegionShown → RegionShown → RegionShown → CallerShown → CallerShown
    → Op → Reply → ℕ → Option Receipt → Type 0
LeavesPairCut heap low low_now high high_now q r op reply epoch None =
    WereStopped heap low low_now high high_now q r
LeavesPairCut heap low low_now high high_now q r op reply epoch (Some receipt) =
    HasLeftAlone heap low low_now high high_now q r op reply epoch receipt
