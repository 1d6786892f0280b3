-- The order of callers' answers, from its parts.
use Rattle.std.proofs.Common.{◌≡◌, ℕ, ◌+◌, ◌<◌, List, [], ◌∷◌, ◌++◌, length, map, take, get_or, Some, sym, ap, subst, ◌∙◌, arith, length-take}
use Rattle.std.specs.Prelude.{slice_get, All, AllPairs}
use Rattle.std.proofs.lemmas.List.{take_more, get_or-take, length-map, get_or-map}
use Rattle.std.proofs.lemmas.List.Elements.{All-map}
use Rattle.std.proofs.lemmas.List.Quantifiers.{all_pairs_push}
use Rattle.std.proofs.lemmas.Option.{get_or_from_slice_get, slice_get-get_or, slice_get_read, slice_get_within}
use Rattle.mont_base.specs.declared.operation.Entry.{Entry}
use Rattle.mont_base.specs.declared.operation.Receipt.{Receipt}
use Rattle.mont_base.specs.Seen.{IsEntryAt, IsCallersOrder, FitsHistories}
use Rattle.plain.specs.declared.view.View.{View}
use Rattle.plain.specs.Callers.{view_of, named, AreNamedOnce, TellsHistories}

-- the element of a list at a place is one
same_found : {A : Type 0} (xs : List A) (k : ℕ) (x y : A) → slice_get xs k ≡ Some x → slice_get xs k ≡ Some y → x ≡ y
same_found xs k x y here there = sym (get_or_from_slice_get xs k x x here) ∙ get_or_from_slice_get xs k y x there

module _ {A : Type 0} (R : A → A → Type 0) (xs : List A) (i : ℕ) (y : A) (inside : i < length xs) (is : y ≡ get_or xs i y) where
  -- pairs so far, and one element more
  pub ordered_more : AllPairs R (take i xs) → All (λ x. R x y) (take i xs) → AllPairs R (take (i + 1) xs)
  ordered_more pairs behind =
      subst (AllPairs R) (ap (λ (z : A). take i xs ++ z ∷ []) is ∙ sym (take_more xs i y inside))
      (all_pairs_push R (take i xs) y pairs behind)

  pub ordered_before : AllPairs R xs → All (λ x. R x y) (take i xs)
  ordered_before pairs k d lt =
      let below : k < i = omega (arith, length-take i xs) in
      let here : get_or xs i d ≡ y = get_or_from_slice_get xs i y d (slice_get_read xs (length xs) i y (λ _. length xs) inside is) in
      subst (λ (x : A). R x y) (sym (get_or-take i xs k d below)) (subst (R (get_or xs k d)) here (pairs k i d below inside))

module _ (histories : List (List Entry)) (receipts : List (List Receipt)) (views : List View) where
  named_once : AreNamedOnce histories receipts → (unit place : ℕ) (e : Entry) → IsEntryAt histories unit place e
      → named unit place receipts ≡ 1
  named_once each unit place e at = each unit at.0 at.1 place (slice_get_within at.0 place e at.2)

  all_named : ((unit place : ℕ) (e : Entry) → IsEntryAt histories unit place e → named unit place receipts ≡ 1)
      → AreNamedOnce histories receipts
  all_named each unit [] is place lt = absurd (omega arith)
  all_named each unit (e ∷ es) is place lt = each unit place (get_or (e ∷ es) place e) (e ∷ es, is, slice_get-get_or (e ∷ es) place e lt)

  pub order_of_parts : length views ≡ length receipts → TellsHistories histories receipts
      → All (λ v. FitsHistories histories (view_of v)) views
      → IsCallersOrder histories receipts (map view_of views)
  order_of_parts callers told fit = record {
    receipt = λ caller call rs r is at. told.called caller rs is call r at;
    order = told.order;
    named_once = named_once told.once;
    callers = length-map views view_of ∙ callers;
    fit = All-map (FitsHistories histories) view_of views fit;
  }

  pub tells_from_order : IsCallersOrder histories receipts (map view_of views) → TellsHistories histories receipts
  tells_from_order h = record {
    called = λ caller rs is call r at. h.receipt caller call rs r is at;
    order = h.order;
    once = all_named h.named_once;
  }

  pub callers_from_order : IsCallersOrder histories receipts (map view_of views) → length views ≡ length receipts
  callers_from_order h = sym (length-map views view_of) ∙ h.callers

  pub fit_from_order : IsCallersOrder histories receipts (map view_of views) → All (λ v. FitsHistories histories (view_of v)) views
  fit_from_order h k d inside =
      let all : length (map view_of views) ≡ length views = length-map views view_of in
      subst (FitsHistories histories) (get_or-map view_of views k d (view_of d) inside) (h.fit k (view_of d) (omega arith))
