-- A call that was answered is one entry, after all that its caller had seen.
use Rattle.std.proofs.Common.{◌≡◌, ◌≤◌, List, [], ◌∷◌, ◌++◌, length, take, set, refl, sym, ap, ◌∙◌, subst, arith}
use Rattle.std.specs.Prelude.{slice_get, slice_index, Some}
use Rattle.std.proofs.lemmas.List.{length-take}
use Rattle.std.proofs.lemmas.Option.{same_Some}
use Rattle.mont_base.specs.declared.operation.Entry.{Entry}
use Rattle.mont_base.specs.declared.operation.Op.{Op}
use Rattle.mont_base.specs.declared.operation.Receipt.{Receipt}
use Rattle.mont_base.specs.State.{unit_of_op}
use Rattle.core_steps.proofs.Rows.{row_here}
use Rattle.heap_rule.specs.declared.views.UnitKnown.{UnitKnown}
use Rattle.heap_rule.specs.Plays.{IsNotBeyond}
use Rattle.heap_rule.specs.Views.{caller_answered}
use Rattle.heap_rule.proofs.SeenFronts.{fronts_answered}
use Rattle.heap.specs.HeapShown.{HeapShown, CallerShown}
use Rattle.slots.specs.Books.{RegionShown}
use Rattle.structure_call.specs.Calling.{HasAnsweredCall}
use Rattle.caller.specs.Continued.{HasContinued, GoesOn}

-- ---- a caller that goes on
module _ (q r : CallerShown) (h : UnitKnown) (seen : IsNotBeyond q.known h) where
  -- it was answered
  pub goes_answered : (e : Entry) → q.known.part.newest ≤ e.epoch
      → r ≡ record { table = q.table; known = caller_answered q.known h e } → GoesOn q.known r.known
  goes_answered e later is = subst (λ (x : CallerShown). GoesOn q.known x.known) (sym is) (record {
    caller = refl;
    more = record { unit = h.unit; place = length h.part.history; entry = e } ∷ [];
    receipts = refl;
    seen = fronts_answered q.known h seen e;
    newest = later;
    durable = omega arith;
    marks = λ m has. has;
  })

-- ---- an answer
module _ (heap : HeapShown) (before behind : RegionShown) (q r : CallerShown) (op : Op) (receipt : Receipt)
    (a : HasAnsweredCall heap before behind q r op receipt) (named : unit_of_op heap.opening.layout op ≡ Some receipt.unit) where
  unit_is : receipt.unit ≡ before.seat.known.unit
  unit_is = ap (λ (x : Receipt). x.unit) a.receipt_is

  pub place_is : receipt.place ≡ length before.seat.known.part.history
  place_is = ap (λ (x : Receipt). x.place) a.receipt_is

  pub receipt_again :
      (record { unit = before.seat.known.unit; place = length before.seat.known.part.history; entry = receipt.entry }) ≡ receipt
  receipt_again = λ i. record { unit = sym unit_is i; place = sym place_is i; entry = receipt.entry }

  front_there : slice_get q.known.entries receipt.unit
      ≡ Some (take (slice_index q.known.part.fronts before.seat.known.unit) before.seat.known.part.history)
  front_there = ap (slice_get q.known.entries) unit_is ∙ a.seen.entries

  pub seen_behind : slice_get r.known.entries receipt.unit ≡ Some (before.seat.known.part.history ++ receipt.entry ∷ [])
  seen_behind =
      ap (λ (x : CallerShown). slice_get x.known.entries receipt.unit) a.caller
      ∙ (λ i. slice_get (set q.known.entries (sym unit_is i) (before.seat.known.part.history ++ receipt.entry ∷ [])) receipt.unit)
      ∙ row_here q.known.entries receipt.unit (before.seat.known.part.history ++ receipt.entry ∷ []) _ front_there

  pub all_behind : (front : List Entry) → slice_get q.known.entries receipt.unit ≡ Some front → length front ≤ receipt.place
  all_behind front there =
      let h = before.seat.known.part.history in
      let n = slice_index q.known.part.fronts before.seat.known.unit in
      let same = ap length (same_Some front (take n h) (sym there ∙ front_there)) in
      let taken = length-take n h in
      omega (arith, same, taken, place_is)

  abbrev pub has_continued : HasContinued heap.opening q.known r.known op receipt
  has_continued = record {
    goes_on = goes_answered q r before.seat.known a.seen receipt.entry a.reached.not_before a.caller;
    of_unit = named;
    by = ap (λ (x : Receipt). x.entry.caller) a.receipt_is;
    number = ap (λ (x : Receipt). x.entry.call) a.receipt_is;
    asked = ap (λ (x : Receipt). x.entry.op) a.receipt_is;
    history = before.seat.known.part.history;
    place = place_is;
    seen = seen_behind;
    behind = all_behind;
    later = a.reached.not_before;
    durable = a.reached.not_behind;
    newest = ap (λ (x : CallerShown). x.known.part.newest) a.caller;
    calls = ap (λ (x : CallerShown). x.known.part.calls) a.caller;
    receipts = ap (λ (x : CallerShown). x.known.part.receipts) a.caller
        ∙ ap (λ (x : Receipt). q.known.part.receipts ++ x ∷ []) receipt_again;
    cuts = ap (λ (x : CallerShown). x.known.part.cuts) a.caller;
    synced = ap (λ (x : CallerShown). x.known.part.synced) a.caller;
  }
