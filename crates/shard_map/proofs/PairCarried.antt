-- What two planned operations leave that were begun, written and ended as a pair.
use Rattle.std.proofs.Common.{◌≡◌, ℕ, ◌≤◌, [], ◌∷◌, ap, arith}
use Rattle.std.specs.Prelude.{◌≢◌, Some, None}
use Rattle.mont_base.specs.declared.constants.TheConstants.{LAST}
use Rattle.mont_base.specs.declared.operation.Receipt.{Receipt}
use Rattle.mont_base.specs.declared.record.Change.{Change}
use Rattle.core_steps.specs.CallAnswers.{CanLeave}
use Rattle.heap.specs.HeapShown.{HeapShown, CallerShown}
use Rattle.slots.specs.Books.{RegionShown}
use Rattle.slots.specs.WrittenRecords.{CanPut}
use Rattle.op_guard.specs.declared.guard.Guard.{Guard}
use Rattle.op_guard.specs.Answered.{HasCommitted}
use Rattle.op_guard.specs.Guarding.{HasBegun, HasChanged}
use Rattle.op_guard.specs.Regions.{IsReady}
use Rattle.structure_call.specs.Carrying.{HasWrittenAll}
use Rattle.structure_call.specs.Planning.{IsPlan, first_at_end}
use Rattle.structure_call.proofs.CarriedOut.{may_put_all, may_leave, answered_call, has_carried}
use Rattle.structure_call.proofs.ChangeNumbers.{numbers_left}
use Rattle.structure_call.proofs.WrittenChanges.{none_written, more_written, may_put}
use Rattle.xfer.specs.PairBeginning.{HasBegunHalf}
use Rattle.shard_map.specs.declared.pair_carrying.PlannedChange.{PlannedChange}
use Rattle.shard_map.specs.PairCarrying.{IsPlanned, HasCarriedOne}
use Rattle.shard_map.proofs.PairHalves.{plan_behind, none_ends_behind, answered_before, carried_before}

one_change : (c : Change) → c ∷ [] ≢ []
one_change c e = absurd (cc)

module _ (heap : HeapShown) (old : RegionShown) (q : CallerShown) (plan : PlannedChange) (ready : IsReady heap old)
    (planned : IsPlanned old plan) (none : first_at_end q.known.part old (plan.change ∷ []) ≡ None) (mid : RegionShown) (g : Guard)
    (half : HasBegunHalf heap old mid q g) where
  abbrev before : RegionShown
  before = half.before

  abbrev change : Change
  change = plan.change

  plan_now : IsPlan before plan.op plan.reply (change ∷ [])
  plan_now = plan_behind heap old before ready half.room.ready half.room.keeps plan.op plan.reply (change ∷ []) planned

  none_now : (s : CallerShown) → s.known.part.calls ≤ LAST → first_at_end s.known.part before (change ∷ []) ≡ None
  none_now s low = none_ends_behind heap old before ready half.room.ready half.room.keeps q.known.part s.known.part plan.op plan.reply
      (change ∷ []) planned none low

  calls : q.known.part.calls ≤ LAST
  calls = (numbers_left q.known.part old (change ∷ []) none).call

  -- the record may be written
  pub may_write : CanPut mid.books mid.seat.known.part.records change
  may_write = may_put heap mid g (change ∷ [])
      (may_put_all heap before q plan.op plan.reply (change ∷ []) half.room.ready plan_now (none_now q calls) mid g half.begun)
      mid g None 0 change (omega arith) (none_written heap mid g half.begun.under_way)

  module _ (done : RegionShown) (h : Guard) (slot : ℕ) (changed : HasChanged heap mid done g h change slot) where
    written : HasWrittenAll heap mid done g h (change ∷ []) (Some slot)
    written = more_written heap mid g mid g [] None (none_written heap mid g half.begun.under_way) done h change slot changed

    -- and the operation ended
    pub may_end : CanLeave heap.opening.layout done.books.unit done.seat.known.part q.known.part plan.op plan.reply h.epoch
    may_end = may_leave heap before q plan.op plan.reply (change ∷ []) half.room.ready plan_now (none_now q calls) mid g half.begun
        done h (Some slot) written (one_change change)

    -- by whatever caller it is ended then
    pub carried_one : (s r : CallerShown) (new : RegionShown) (receipt : Receipt) → HasBegun heap before mid s 1 g
        → s.known.part.calls ≤ LAST → HasCommitted heap done new s r plan.op plan.reply h.epoch receipt
        → HasCarriedOne heap old new s r plan (record { receipt = receipt; slot = Some slot })
    carried_one s r new receipt begun low k = record {
      answered = answered_before heap old before ready half.room.ready half.room.keeps new s r plan.op receipt
          (answered_call heap before s plan.op plan.reply (change ∷ []) half.room.ready plan_now (none_now s low) mid g begun done h
          (Some slot) written new r receipt k);
      op = ap (λ (x : Receipt). x.entry.op) k.answered.receipt_is;
      reply = ap (λ (x : Receipt). x.entry.reply) k.answered.receipt_is;
      wrote = carried_before heap old before ready half.room.ready half.room.keeps new (change ∷ []) receipt (Some slot)
          (has_carried heap before s plan.op plan.reply (change ∷ []) half.room.ready plan_now (none_now s low) mid g begun done h
          (Some slot) written new r receipt k);
    }
