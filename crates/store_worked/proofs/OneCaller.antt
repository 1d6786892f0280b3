-- The ticket of the only caller of a heap.
use Rattle.std.proofs.Common.{◌≡◌, ◌<◌, ◌≤◌, zero, suc, List, [], ◌∷◌, length, map, slice_index_or, slice_set, refl, ◌∙◌, subst, arith}
use Rattle.std.proofs.lemmas.Option.{same_Some}
use Rattle.core_steps.specs.Places.{EachAt}
use Rattle.heap.specs.HeapShown.{HeapShown, CallerShown}
use Rattle.heap.specs.Stops.{IsSeatOfCaller}
use Rattle.store.specs.Store.{AreAllCallers}
use Rattle.store_worked.specs.SameCallers.{IsSameCaller}

module _ (heap : HeapShown) (q r : CallerShown) (all : AreAllCallers heap (q ∷ [])) (same : IsSameCaller q r) where
  seat : IsSeatOfCaller heap 0 q
  seat = all.each 0 q refl

  each_left : EachAt (IsSeatOfCaller heap) (r ∷ [])
  each_left zero s e = subst (IsSeatOfCaller heap 0) (same_Some r s e) (same.table ∙ seat.0, same.caller ∙ seat.1)
  each_left (suc i) s e = absurd (cc)

  one_is_left : AreAllCallers heap (r ∷ [])
  one_is_left = record { many = all.many; each = each_left }

module _ (heap : HeapShown) {A : Type 0} (ticket : A → CallerShown) where
  pub first_of_heap :
      (l : List A) (d : A) → 1 ≤ length l → AreAllCallers heap (map ticket l)
      → (ticket (slice_index_or l 0 d)).table ≡ heap.table
  first_of_heap [] d some all = absurd (omega (arith, some))
  first_of_heap (x ∷ xs) d some all = (all.each 0 (ticket x) refl).0

  pub only_is_left :
      (l : List A) (d y : A) → 1 ≤ length l → length l < 2 → AreAllCallers heap (map ticket l)
      → IsSameCaller (ticket (slice_index_or l 0 d)) (ticket y) → AreAllCallers heap (map ticket (slice_set l 0 y))
  only_is_left [] d y some few all same = absurd (omega (arith, some))
  only_is_left (x ∷ []) d y some few all same = one_is_left heap (ticket x) (ticket y) all same
  only_is_left (x ∷ z ∷ zs) d y some few all same = absurd (omega (arith, few))
