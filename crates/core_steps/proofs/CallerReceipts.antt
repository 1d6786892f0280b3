-- The callers' receipts name each entry once, and stand in an order of the callers.
use Rattle.std.proofs.Common.{◌≡◌, ℕ, List, map, cond, sym, refl, ap, ◌∙◌, subst, true}
use Rattle.std.specs.Prelude.{slice_get, Option, Some, AllPairs, sum_by, count_by, ◌==◌}
use Rattle.std.proofs.lemmas.Bool.{cond_both, and_parts, and_from, eqb-true, eq-eqb, cond-true}
use Rattle.std.proofs.lemmas.List.{length-map}
use Rattle.std.proofs.lemmas.List.Elements.{All-map}
use Rattle.mont_base.specs.declared.operation.Entry.{Entry}
use Rattle.mont_base.specs.declared.operation.Receipt.{Receipt}
use Rattle.mont_base.specs.Seen.{FitsHistories, IsEntryAt, IsReceiptOf, IsInOrder, names_place, IsCallersOrder}
use Rattle.core_steps.specs.declared.parts.CallerPart.{CallerPart}
use Rattle.core_steps.specs.CallerClauses.{receipts_of, view_of, HasReceipt, CallersFit}
use Rattle.core_steps.specs.Places.{RowHas}
use Rattle.core_steps.proofs.RowFacts.{same_item, row_gives, all_at, row_of_map, row_in_map, sum_of_none, sum_of_one}

module _ (histories : List (List Entry)) where
  -- the receipt at a place is that of the entry there
  same_entry : (u place : ℕ) (e : Entry) (r : Receipt) (k call : ℕ) → IsEntryAt histories u place e → IsReceiptOf histories k call r
      → names_place u place r ≡ true → (e.caller ≡ k) × (e.call ≡ call)
  same_entry u place e r k call i is named =
      let parts = and_parts (r.unit == u) (r.place == place) named in
      let there = is.there in
      let h : there.0 ≡ i.0 =
      same_item histories u there.0 i.0 (subst (λ (n : ℕ). slice_get histories n ≡ Some there.0) (eqb-true r.unit u parts.0) there.1) i.1 in
      let at : slice_get i.0 place ≡ Some r.entry =
      subst (λ (n : ℕ). slice_get i.0 n ≡ Some r.entry) (eqb-true r.place place parts.1)
      (subst (λ (g : List Entry). slice_get g r.place ≡ Some r.entry) h there.2) in
      let same : r.entry ≡ e = same_item i.0 place r.entry e at i.2 in
      (ap (λ (d : Entry). d.caller) (sym same) ∙ is.by, ap (λ (d : Entry). d.call) (sym same) ∙ is.number)

  module _ (cuts : List (Option ℕ)) (now : ℕ) (callers : List CallerPart) (odd : List ℕ)
      (f : CallersFit histories cuts now callers odd) where
    module _ (u place : ℕ) (e : Entry) (i : IsEntryAt histories u place e) where
      -- whether a receipt names the place, as a number
      abbrev counts : Receipt → ℕ
      counts r = cond (names_place u place r) 1 0

      -- a receipt of another call doesn't name the entry
      not_counted : (k call : ℕ) (r : Receipt) → IsReceiptOf histories k call r → ((e.caller ≡ k) × (e.call ≡ call) → ⊥) → counts r ≡ 0
      not_counted k call r is other = cond_both (names_place u place r) 1 0 (λ n. n ≡ 0)
          (λ t. absurd (other (same_entry u place e r k call i is t))) (λ t. refl)

      -- and its own receipt does
      counted : (r : Receipt) → HasReceipt u place e r → counts r ≡ 1
      counted r h = cond-true (names_place u place r) 1 0
          (and_from (r.unit == u) (r.place == place) (eq-eqb r.unit u h.of_unit) (eq-eqb r.place place h.at_place))

      -- the receipts of all callers name it once
      pub named_once : sum_by (λ rs. count_by (names_place u place) rs) (map receipts_of callers) ≡ 1
      named_once =
          let q = row_gives (λ (q : CallerPart). RowHas (slice_get q.receipts e.call) (HasReceipt u place e)) (slice_get callers e.caller)
          (f.named u place e i) in
          let r = row_gives (HasReceipt u place e) (slice_get q.0.receipts e.call) q.2 in
          sum_of_one (λ rs. count_by (names_place u place) rs) (map receipts_of callers) e.caller q.0.receipts
          (row_in_map receipts_of callers e.caller q.0 q.1)
          (sum_of_one counts q.0.receipts e.call r.0 r.1 (counted r.0 r.2)
          (λ n s other at. not_counted e.caller n s ((f.each e.caller q.0 q.1).receipts n s at) (λ same. other (sym same.1))))
          (λ k rs other at.
          let p = row_of_map receipts_of callers k rs at in
          sum_of_none counts rs
          (λ n s is. not_counted k n s ((f.each k p.0 p.1).receipts n s (ap (λ (l : List Receipt). slice_get l n) p.2 ∙ is))
          (λ same. other (sym same.0))))

    -- so the receipts stand in an order of the callers
    pub callers_order : IsCallersOrder histories (map receipts_of callers) (map view_of callers)
    callers_order = record {
      receipt = λ k call rs r at is.
          let p = row_of_map receipts_of callers k rs at in
          (f.each k p.0 p.1).receipts call r (ap (λ (l : List Receipt). slice_get l call) p.2 ∙ is);
      order = λ k rs at.
          let p = row_of_map receipts_of callers k rs at in subst (AllPairs IsInOrder) p.2 (f.each k p.0 p.1).order;
      named_once = named_once;
      callers = length-map callers view_of ∙ sym (length-map callers receipts_of);
      fit = All-map (FitsHistories histories) view_of callers
          (all_at (λ (q : CallerPart). FitsHistories histories (view_of q)) callers (λ k q at. (f.each k q at).seen));
    }
