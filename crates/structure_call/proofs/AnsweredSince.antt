-- An operation that was carried out after the checks of its call, which left the region, the caller and its receipts as they were.
use Rattle.std.proofs.Common.{◌≡◌, ℕ, List, subst}
use Rattle.std.specs.Prelude.{Option}
use Rattle.mont_base.specs.declared.operation.Receipt.{Receipt}
use Rattle.mont_base.specs.declared.operation.Op.{Op}
use Rattle.mont_base.specs.declared.operation.Reply.{Reply}
use Rattle.mont_base.specs.declared.record.Change.{Change}
use Rattle.heap.specs.HeapShown.{HeapShown, CallerShown}
use Rattle.heap_pass.specs.KeptReceipt.{KeepsReceipt}
use Rattle.heap_pass.proofs.KeptReceipts.{kept_so}
use Rattle.slots.specs.Books.{RegionShown}
use Rattle.structure_call.specs.Calling.{HasAnsweredCall, HasCarriedOut}

pub answered_since : {heap : HeapShown} {first old new : RegionShown} {p q r : CallerShown} {op : Op} {reply : Reply}
    {changes : List Change} {slot : Option ℕ} {before mid after : List Receipt} → old ≡ first → q ≡ p → mid ≡ before
    → KeepsReceipt mid after (HasCarriedOut heap old new q r op reply changes slot)
    → KeepsReceipt before after (HasAnsweredCall heap first new p r op)
answered_since {heap = heap} {new = new} {r = r} {op = op} same_region same_caller same k = kept_so same
    (λ receipt h. subst (λ (x : RegionShown × CallerShown). HasAnsweredCall heap x.0 new x.1 r op receipt)
    (λ i. (same_region i, same_caller i)) h.answered) k
