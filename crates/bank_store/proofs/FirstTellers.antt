-- What the tickets of the bank's callers show, one caller more at a time.
use Rattle.std.proofs.Common.{◌≡◌, ℕ, zero, suc, ◌+◌, ◌<◌, ◌≤◌, Bool, true, cond, List, [], ◌∷◌, length, replicate, refl, ap, ◌∙◌, arith, inl, inr}
use Rattle.std.specs.Prelude.{◌⊎◌, slice_get, Option, Some, None, All}
use Rattle.std.proofs.lemmas.Bool.{lt-ltb}
use Rattle.mont_base.specs.declared.constants.TheConstants.{LAST}
use Rattle.mont_base.specs.declared.operation.Entry.{Entry}
use Rattle.mont_base.specs.declared.operation.Receipt.{Receipt}
use Rattle.core_steps.specs.Notes.{after_hear, caller_note}
use Rattle.heap_rule.specs.declared.views.CallerKnown.{CallerKnown}
use Rattle.heap_rule.specs.Views.{caller_heard, first_caller, longer, longer_each, note_of_caller}
use Rattle.heap.specs.FreshOpening.{fresh_opening}
use Rattle.heap.specs.HeapShown.{HeapShown, CallerShown}
use Rattle.caller.specs.Telling.{TakesGreater, has_mark}
use Rattle.caller.proofs.TakenNotes.{takes_greater}
use Rattle.bank_job.specs.Bank.{bank_layout, first_puts}
use Rattle.heap.specs.Opens.{dealt_callers}
use Rattle.bank_store.specs.BankCallers.{AreNewTickets, IsReady}
use Rattle.bank_store.specs.MadeShifts.{HasSeenPlace}
use Rattle.bank_store.specs.OpenedAccounts.{HaveComeTo, IsSettled, KnowsOpening, puts_given}
use Rattle.store_stop.proofs.Items.{all_gives}
use Rattle.core_steps.proofs.RowFacts.{all_at}
use Rattle.bank_store.proofs.ShiftsMade.{all_weaker}

-- ---- what a caller hears that has seen nothing
longer_none : (front : List Entry) → longer [] front ≡ front
longer_none [] = refl
longer_none (e ∷ es) = ap (λ (b : Bool). cond b (e ∷ es) []) (lt-ltb 0 (length (e ∷ es)) (omega arith))

heard_at : (n : ℕ) (es : List (List Entry)) (unit : ℕ) (front : List Entry) → unit < n → slice_get es unit ≡ Some front
    → slice_get (longer_each (replicate n []) es) unit ≡ Some front
heard_at zero es unit front low at = absurd (omega (arith, low))
heard_at (suc n) [] unit front low at = absurd (cc at)
heard_at (suc n) (e ∷ es) zero front low at = ap Some (longer_none e) ∙ at
heard_at (suc n) (e ∷ es) (suc unit) front low at = heard_at n es unit front (omega (arith, low)) at

abbrev pub new_caller : ℕ → CallerKnown
new_caller caller = first_caller (fresh_opening bank_layout 4) caller

pub heard_seen : (caller : ℕ) (q : CallerKnown) (x : Receipt) → x.unit < 6 → HasSeenPlace q x
    → HasSeenPlace (caller_heard (new_caller caller) (note_of_caller q)) x
heard_seen caller q x low s = record {
  front = s.front;
  of_unit = heard_at 6 q.entries x.unit s.front low s.of_unit;
  inside = s.inside;
}

all_heard : (caller : ℕ) (q : CallerKnown) (opening : List Receipt) → All (λ (x : Receipt). x.unit < 6) opening
    → All (HasSeenPlace q) opening → All (HasSeenPlace (caller_heard (new_caller caller) (note_of_caller q))) opening
all_heard caller q opening low seen =
    all_at (HasSeenPlace (caller_heard (new_caller caller) (note_of_caller q))) opening
    (λ i x e. heard_seen caller q x (all_gives (λ (y : Receipt). y.unit < 6) opening i x low e) (all_gives
    (HasSeenPlace q) opening i x seen e))

-- ---- what it knows to be durable, and of the epochs
heard_settled : (caller : ℕ) (q : CallerKnown) → IsSettled q → IsSettled (caller_heard (new_caller caller) (note_of_caller q))
heard_settled caller q settled = by settled
  where
    greater : TakesGreater (new_caller caller).part (caller_note q.part) (after_hear (new_caller caller).part (caller_note q.part))
    greater = takes_greater (new_caller caller).part (caller_note q.part)

    by : (q.part.newest + 2 ≤ q.part.durable)
        ⊎ ((q.part.durable ≡ LAST) ⊎ ((unit : ℕ) × (has_mark q.part.marks (record { unit = unit; by = None }) ≡ true)))
        → IsSettled (caller_heard (new_caller caller) (note_of_caller q))
    by (inl past) = let n = greater.newest in let d = greater.durable in inl (omega (arith, n, d, past))
    by (inr (inl last)) = let d = greater.durable in inr (inl (omega (arith, d, last)))
    by (inr (inr (unit, marked))) = inr (inr (unit, greater.marks (record { unit = unit; by = None }) marked))

heard_epochs : (caller : ℕ) (q : CallerKnown) (opening : List Receipt) → All (λ (x : Receipt). x.entry.epoch ≤ q.part.newest) opening
    → All (λ (x : Receipt). x.entry.epoch ≤ (caller_heard (new_caller caller) (note_of_caller q)).part.newest) opening
heard_epochs caller q opening epochs =
    all_weaker (λ (x : Receipt). x.entry.epoch ≤ q.part.newest)
    (λ (x : Receipt). x.entry.epoch ≤ (caller_heard (new_caller caller) (note_of_caller q)).part.newest)
    (λ x l. omega (arith, l)) opening epochs

-- so it knows of the opening what the other one does
pub all_known : (caller : ℕ) (q : CallerKnown) (opening : List Receipt) → All (λ (x : Receipt). x.unit < 6) opening → KnowsOpening q opening
    → KnowsOpening (caller_heard (new_caller caller) (note_of_caller q)) opening
all_known caller q opening low k = record {
  seen = all_heard caller q opening low k.seen;
  epochs = heard_epochs caller q opening k.epochs;
  settled = heard_settled caller q k.settled;
}

-- ---- ready
-- another caller than the first one, that has heard
pub hearer_ready : (heap : HeapShown) (opening : List Receipt) (caller : ℕ) (q : CallerKnown) → All (λ (x : Receipt). x.unit < 6) opening
    → KnowsOpening q opening
    → IsReady heap opening (suc caller) (record { table = heap.table; known = caller_heard (new_caller (suc caller)) (note_of_caller q) })
hearer_ready heap opening caller q low k = record {
  table = refl;
  number = refl;
  calls = refl;
  receipts = refl;
  cuts = refl;
  knows = all_known (suc caller) q opening low k;
}

-- the first one, that has opened the accounts
pub opener_ready : (heap : HeapShown) (ends : List (Option Receipt)) (r : CallerShown)
    → HaveComeTo heap (record { table = heap.table; known = new_caller 0 }) r (first_puts 8) ends → IsSettled r.known
    → IsReady heap (puts_given ends) 0 r
opener_ready heap ends r k settled = record {
  table = k.table;
  number = k.goes_on.caller;
  calls = let n = k.calls in omega (arith, n);
  receipts = k.receipts;
  cuts = k.cuts;
  knows = record { seen = k.seen; epochs = k.epochs; settled = settled };
}

-- ---- the tickets of a store that was never used
pub new_tickets : (heap : HeapShown) (tickets callers : List CallerShown) → tickets ≡ callers
    → callers ≡ dealt_callers heap.table (fresh_opening bank_layout 4) 4 → AreNewTickets heap tickets
new_tickets heap tickets callers is dealt = record { dealt = is ∙ dealt }
