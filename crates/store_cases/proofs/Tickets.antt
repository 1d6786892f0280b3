-- The tickets of callers: of those that a store was opened for, and of those whose passes go back.
use Rattle.std.proofs.Common.{◌≡◌, ℕ, ◌+◌, List, [], ◌∷◌, ◌++◌, length, map, sym, ap, ◌∙◌, subst, arith, length-append}
use Rattle.std.proofs.lemmas.List.{map-append, length-map}
use Rattle.std.proofs.lemmas.List.Elements.{All-head, All-tail}
use Rattle.core_steps.specs.Places.{EachAt}
use Rattle.core_steps.proofs.RowFacts.{all_at, each_push}
use Rattle.heap.specs.HeapShown.{HeapShown, CallerShown}
use Rattle.heap.specs.Stops.{IsSeatOfCaller, AreCallersOf}
use Rattle.store.specs.Store.{AreAllCallers}

module _ (heap : HeapShown) where
  -- ---- what is left of them
  pub all_of_heap : (callers : List CallerShown) → AreAllCallers heap callers → AreCallersOf heap callers
  all_of_heap callers all = all_at (λ (s : CallerShown). s.table ≡ heap.table) callers (λ i s e. (all.each i s e).0)

  module _ {A : Type 0} (ticket : A → CallerShown) (old new : List A) (x : A) (next : old ≡ x ∷ new)
      (of_heap : AreCallersOf heap (map ticket old)) where
    both : AreCallersOf heap (ticket x ∷ map ticket new)
    both = subst (λ (l : List A). AreCallersOf heap (map ticket l)) next of_heap

    pub next_of_heap : (ticket x).table ≡ heap.table
    next_of_heap = All-head (λ (s : CallerShown). s.table ≡ heap.table) (ticket x) (map ticket new) both

    pub rest_of_heap : AreCallersOf heap (map ticket new)
    rest_of_heap = All-tail (λ (s : CallerShown). s.table ≡ heap.table) (ticket x) (map ticket new) both

  -- ---- those that went back
  pub one_more_back : {A : Type 0} (ticket : A → CallerShown) (old new : List A) (x : A) (number : ℕ) → new ≡ old ++ x ∷ []
      → number ≡ length old → IsSeatOfCaller heap number (ticket x) → EachAt (IsSeatOfCaller heap) (map ticket old)
      → EachAt (IsSeatOfCaller heap) (map ticket new)
  one_more_back {A} ticket old new x number is here seat each =
      let long : number ≡ length (map ticket old) = here ∙ sym (length-map old ticket) in
      subst (λ (l : List CallerShown). EachAt (IsSeatOfCaller heap) l) (sym (map-append ticket old (x ∷ [])) ∙ sym (ap (map ticket) is))
      (each_push (IsSeatOfCaller heap) (map ticket old) (ticket x) each (subst (λ (n : ℕ). IsSeatOfCaller heap n (ticket x)) long seat))

  pub one_more_of : {A B : Type 0} (old new : List A) (x : A) (left rest : List B) (y : B) (many : ℕ) → new ≡ old ++ x ∷ []
      → left ≡ y ∷ rest → length old + length left ≡ many → length new + length rest ≡ many
  one_more_of old new x left rest y many is next as_many =
      let grown : length new ≡ length (old ++ x ∷ []) = ap length is in
      let more = length-append old (x ∷ []) in
      let that : length left ≡ length (y ∷ rest) = ap length next in
      omega (arith, grown, more, that, as_many)

-- ---- a list that grows beside another
pub as_long : {A B : Type 0} (old new : List A) (x : A) (ys : List B) (y : B) → new ≡ old ++ x ∷ [] → length old ≡ length ys
    → length new ≡ length (ys ++ y ∷ [])
as_long old new x ys y is same =
    let grown : length new ≡ length (old ++ x ∷ []) = ap length is in
    let more = length-append old (x ∷ []) in
    let more_there = length-append ys (y ∷ []) in
    omega (arith, grown, more, more_there, same)
