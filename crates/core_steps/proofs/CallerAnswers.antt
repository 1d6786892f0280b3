-- A unit answers a caller, which then has seen the entry, and nothing else of what the callers know
-- changes.
use Rattle.std.proofs.Common.{◌≡◌, ℕ, ◌+◌, ◌<◌, ◌≤◌, ◌≢◌, List, [], ◌∷◌, ◌++◌, length, set, get_or, length-set, sym, refl, ap, ◌∙◌, subst, ⊎_elim, arith}
use Rattle.std.specs.Prelude.{take, slice_get, Option, Some, All, AllPairs}
use Rattle.std.proofs.lemmas.List.{take_all, length_push}
use Rattle.std.proofs.lemmas.List.Elements.{All-weaker, All-push}
use Rattle.std.proofs.lemmas.List.Quantifiers.{all_pairs_push}
use Rattle.std.proofs.lemmas.Option.{slice_get_within, slice_get-get_or}
use Rattle.mont_base.specs.declared.operation.Entry.{Entry}
use Rattle.mont_base.specs.declared.operation.Op.{Op}
use Rattle.mont_base.specs.declared.operation.Receipt.{Receipt}
use Rattle.mont_base.specs.declared.operation.Reply.{Reply}
use Rattle.mont_base.specs.Seen.{FrontFits, FitsHistories, IsEntryAt, IsReceiptOf, IsInOrder}
use Rattle.core_steps.specs.declared.parts.CallerPart.{CallerPart}
use Rattle.core_steps.specs.CallAnswers.{entry_of, after_answer}
use Rattle.core_steps.specs.CallerClauses.{view_of, IsBehind, IsSynced, CallerFits, HasReceipt, IsNamed, CallersFit}
use Rattle.core_steps.specs.Notes.{Grows}
use Rattle.core_steps.specs.Places.{RowHas}
use Rattle.core_steps.proofs.Rows.{row_here, row_set, each_set}
use Rattle.core_steps.proofs.RowFacts.{item_at, same_item, row_from, row_has_set, row_before, row_last, row_push, each_push}
use Rattle.core_steps.proofs.Growth.{grows_by_entry}
use Rattle.core_steps.proofs.CallerFrames.{caller_later, named_set, cut_set}

module _ (histories : List (List Entry)) (cuts : List (Option ℕ)) (now u k : ℕ) (h : List Entry) (q : CallerPart) (op : Op) (reply : Reply)
    (epoch : ℕ) (unit : slice_get histories u ≡ Some h) (fit : CallerFits histories cuts now k q) (newest : q.newest ≤ epoch)
    (reached : epoch ≤ now) (entries : All (λ (e : Entry). e.epoch ≤ epoch) h) where
  -- the entry
  abbrev answer : Entry
  answer = entry_of k q op reply epoch

  -- the caller that has its receipt
  abbrev answered : CallerPart
  answered = after_answer q u (length h) answer

  -- the unit's history
  abbrev longer : List Entry
  longer = h ++ answer ∷ []

  -- all histories
  abbrev grown : List (List Entry)
  grown = set histories u longer

  -- the receipt
  abbrev receipt : Receipt
  receipt = record { unit = u; place = length h; entry = answer }

  -- histories grow
  grows : Grows (record { histories = histories; cuts = cuts; lefts = []; now = now; durable = now })
      (record { histories = grown; cuts = cuts; lefts = []; now = now; durable = now })
  grows = grows_by_entry (record { histories = histories; cuts = cuts; lefts = []; now = now; durable = now }) u h answer unit

  -- what was true of the caller still is
  later : CallerFits grown cuts now k q
  later = caller_later _ _ grows q k fit

  -- the unit has the longer history
  longer_there : slice_get grown u ≡ Some longer
  longer_there = row_here histories u longer h unit

  -- the caller has a front in the unit
  unit_inside : u < length q.fronts
  unit_inside = let s = fit.seen.units in let w = slice_get_within histories u h unit in omega arith

  -- the front that the caller had in the unit
  front_before : (m : ℕ) → slice_get q.fronts u ≡ Some m → m ≤ length h
  front_before m e = (fit.seen.each u m h e unit).there

  -- earlier receipts of the unit are of earlier places
  place_before : (r : Receipt) (i : ℕ) → slice_get q.receipts i ≡ Some r → r.unit ≡ u → r.place < length h
  place_before r i e same =
      let t = (fit.receipts i r e).there in
      let is : t.0 ≡ h = same_item histories u t.0 h (subst (λ (n : ℕ). slice_get histories n ≡ Some t.0) same t.1) unit in
      subst (λ (g : List Entry). r.place < length g) is (slice_get_within t.0 r.place r.entry t.2)

  -- the receipt is that of the entry
  new_receipt : IsReceiptOf grown k (length q.receipts) receipt
  new_receipt = record { by = refl; number = fit.calls; there = (longer, longer_there, row_last h answer) }

  -- the receipts stand in their order
  order_after : AllPairs IsInOrder (q.receipts ++ receipt ∷ [])
  order_after = all_pairs_push IsInOrder q.receipts receipt fit.order
      (λ i d l.
      let r : Receipt = get_or q.receipts i d in
      let b : IsBehind q r = fit.behind i d l in
      let old = b.newest in
      record { epochs = omega arith; places = place_before r i (slice_get-get_or q.receipts i d l) })

  -- earlier receipts stand before the fronts
  still_behind : (r : Receipt) → IsBehind q r → IsBehind answered r
  still_behind r b =
      let old = b.newest in
      let m = item_at q.fronts u unit_inside in
      let within = front_before m.0 m.1 in record {
        front = row_has_set (λ (n : ℕ). r.place < n) q.fronts u r.unit (length h + 1) m.0 m.1 (λ l. omega arith) b.front;
        newest = omega arith;
      }

  -- and so does the new one
  new_behind : IsBehind answered receipt
  new_behind =
      let m = item_at q.fronts u unit_inside in record {
        front = row_from (λ (n : ℕ). length h < n) _ (length h + 1) (row_here q.fronts u (length h + 1) m.0 m.1) (omega arith);
        newest = omega arith;
      }

  -- the unit's whole history is seen
  whole_seen : FrontFits epoch (length h + 1) longer
  whole_seen =
      let l = length_push h answer in record {
        there = omega arith;
        epochs = subst (All (λ (e : Entry). e.epoch ≤ epoch)) (sym (take_all (length h + 1) longer (omega arith)))
            (All-push (λ (e : Entry). e.epoch ≤ epoch) h answer entries (omega arith));
      }

  -- what the caller has seen is there
  seen_after : FitsHistories grown (view_of answered)
  seen_after = record {
    units = length-set q.fronts u (length h + 1) ∙ later.seen.units;
    each = λ v front g at is. ⊎_elim
        (λ (t : (v ≡ u) × (length h + 1 ≡ front)).
        let same : longer ≡ g =
        same_item grown u longer g longer_there (subst (λ (n : ℕ). slice_get grown n ≡ Some g) t.0 is) in
        subst (λ (n : ℕ). FrontFits epoch n g) t.1 (subst (FrontFits epoch (length h + 1)) same whole_seen))
        (λ (t : (v ≢ u) × (slice_get q.fronts v ≡ Some front)).
        let f = later.seen.each v front g t.1 is in record {
          there = f.there;
          epochs = All-weaker (λ (e : Entry). e.epoch ≤ q.newest) (λ (e : Entry). e.epoch ≤ epoch) (λ e l. omega arith) (take front g)
              f.epochs;
        })
        (row_set q.fronts u v (length h + 1) front at);
  }

  -- what it knew to be durable it still knows
  synced_after : IsSynced grown answered
  synced_after = record {
    units = later.synced.units;
    seen = λ v n m at is. ⊎_elim
        (λ (t : (v ≡ u) × (length h + 1 ≡ m)).
        let o = item_at q.fronts u unit_inside in
        let within = front_before o.0 o.1 in
        let low = fit.synced.seen u n o.0 (subst (λ (i : ℕ). slice_get q.synced i ≡ Some n) t.0 at) o.1 in
        let is = t.1 in
        omega arith)
        (λ (t : (v ≢ u) × (slice_get q.fronts v ≡ Some m)). fit.synced.seen v n m at t.1)
        (row_set q.fronts u v (length h + 1) m is);
    durable = later.synced.durable;
  }

  -- all that is true of the caller
  caller_answered : CallerFits grown cuts now k answered
  caller_answered = record {
    calls = let c = fit.calls in let l = length_push q.receipts receipt in omega arith;
    receipts = each_push (IsReceiptOf grown k) q.receipts receipt later.receipts new_receipt;
    order = order_after;
    behind = All-push (IsBehind answered) q.receipts receipt
        (All-weaker (IsBehind q) (IsBehind answered) still_behind q.receipts fit.behind) new_behind;
    seen = seen_after;
    reached = reached;
    synced = synced_after;
    cut_in = later.cut_in;
    marks = later.marks;
  }

  module _ (callers : List CallerPart) (there : slice_get callers k ≡ Some q) where
    -- the entry is that of the new receipt
    new_named : IsNamed (set callers k answered) u (length h) answer
    new_named =
        let R : Receipt → Type 0 = HasReceipt u (length h) answer in
        row_from (λ (x : CallerPart). RowHas (slice_get x.receipts q.calls) R) _ answered (row_here callers k answered q there)
        (row_from R _ receipt (ap (slice_get (q.receipts ++ receipt ∷ [])) fit.calls ∙ row_last q.receipts receipt)
        (record { of_unit = refl; at_place = refl }))

    module _ (named : (v place : ℕ) (e : Entry) → IsEntryAt histories v place e → IsNamed callers v place e) where
      -- the other entries are those of the receipts before
      old_named : (v place : ℕ) (e : Entry) → IsEntryAt histories v place e → IsNamed (set callers k answered) v place e
      old_named v place e i =
          named_set callers k q answered there (λ n r is. row_before q.receipts (receipt ∷ []) n r is) v place e (named v place e i)

      -- each entry of the unit is that of a receipt
      named_in_unit : (place : ℕ) (e : Entry) → slice_get longer place ≡ Some e → IsNamed (set callers k answered) u place e
      named_in_unit place e is = ⊎_elim
          (λ (t : slice_get h place ≡ Some e). old_named u place e (h, unit, t))
          (λ (t : (place ≡ length h) × (answer ≡ e)).
          subst (λ (n : ℕ). IsNamed (set callers k answered) u n e) (sym t.0)
          (subst (IsNamed (set callers k answered) u (length h)) t.1 new_named))
          (row_push h place answer e is)

      -- and so is each entry
      named_after : (v place : ℕ) (e : Entry) → IsEntryAt grown v place e → IsNamed (set callers k answered) v place e
      named_after v place e i = ⊎_elim
          (λ (t : (v ≡ u) × (longer ≡ i.0)).
          subst (λ (n : ℕ). IsNamed (set callers k answered) n place e) (sym t.0)
          (named_in_unit place e (ap (λ (g : List Entry). slice_get g place) t.1 ∙ i.2)))
          (λ (t : (v ≢ u) × (slice_get histories v ≡ Some i.0)). old_named v place e (i.0, t.1, i.2))
          (row_set histories u v longer i.0 i.1)

-- A unit answers a caller.
pub callers_answer :
    (histories : List (List Entry)) (cuts : List (Option ℕ)) (now u k : ℕ) (h : List Entry) (callers : List CallerPart) (q : CallerPart)
    (odd : List ℕ) (op : Op) (reply : Reply) (epoch : ℕ) → slice_get histories u ≡ Some h → slice_get callers k ≡ Some q → q.newest ≤ epoch
    → epoch ≤ now → All (λ (e : Entry). e.epoch ≤ epoch) h → CallersFit histories cuts now callers odd
    → CallersFit (set histories u (h ++ entry_of k q op reply epoch ∷ [])) cuts now
    (set callers k (after_answer q u (length h) (entry_of k q op reply epoch))) odd
callers_answer histories cuts now u k h callers q odd op reply epoch unit there newest reached entries f =
    let fit = f.each k q there in
    let t : CallerPart = after_answer q u (length h) (entry_of k q op reply epoch) in record {
      each = each_set (CallerFits (set histories u (h ++ entry_of k q op reply epoch ∷ [])) cuts now) callers k t
          (λ j b n e. caller_later _ _ (grows histories cuts now u k h q op reply epoch unit fit newest reached entries) b j (f.each j b e))
          (caller_answered histories cuts now u k h q op reply epoch unit fit newest reached entries);
      named = named_after histories cuts now u k h q op reply epoch unit fit newest reached entries callers there f.named;
      cut = λ v j e. cut_set callers k q t there (λ w c. c) j v (f.cut v j e);
      loaded_odd = f.loaded_odd;
    }
