-- The seats of a store's units, taken back one after the other.
use Rattle.std.proofs.Common.{◌≡◌, ℕ, ◌+◌, ◌≤◌, ◌<◌, List, [], ◌∷◌, ◌++◌, length, sym, ◌∙◌, subst, arith, length-append}
use Rattle.std.specs.Prelude.{false}
use Rattle.std.proofs.lemmas.List.Elements.{All-nil, All-push}
use Rattle.mont_base.specs.Layout.{Shape, units_of}
use Rattle.core_steps.proofs.RowFacts.{each_push}
use Rattle.heap.specs.HeapShown.{HeapShown, UnitShown, AdvShown, CallerShown}
use Rattle.heap.specs.Stops.{IsSeatOfUnit, AreAllSeats}
use Rattle.store.specs.declared.unit_structure.Structure.{Structure}
use Rattle.store.specs.Store.{AreAllCallers}
use Rattle.store.specs.SeatsBack.{AreSeatsBelow}
use Rattle.store.specs.UnitAt.{region_of, StandsAt}

-- the unit of a structure is one of the heap's
pub is_inside : {I : Type 0} (heap : HeapShown) (number : ℕ) (s : Structure I) → StandsAt heap number s
    → number < units_of heap.opening.layout
is_inside heap number s k =
    subst (λ (x : ℕ × Shape). x.0 < units_of x.1) (λ i. (k.of_unit i, k.stands.of_heap.layout i)) k.seated.inside

module _ (heap : HeapShown) (number : ℕ) (seats : List UnitShown) (k : AreSeatsBelow heap number seats) where
  pub none_taken : units_of heap.opening.layout ≤ number → AreSeatsBelow heap (number + 1) seats
  none_taken past = record { many = let many = k.many in omega (arith, many, past); each = k.each; home = k.home }

  pub as_many : number < units_of heap.opening.layout → length seats ≡ number
  as_many inside = let many = k.many in omega (arith, many, inside)

  pub one_taken : {I : Type 0} (s : Structure I) → StandsAt heap number s
      → AreSeatsBelow heap (number + 1) (seats ++ (region_of s).seat ∷ [])
  one_taken s stands =
      let inside = is_inside heap number s stands in
      let many = as_many inside in
      let all = length-append seats ((region_of s).seat ∷ []) in
      record {
        many = omega (arith, all, many, inside);
        each = each_push (IsSeatOfUnit heap) seats (region_of s).seat k.each
            (stands.stands.of_heap.table, sym stands.seated.of_seat ∙ (stands.of_unit ∙ sym many));
        home = All-push (λ (x : UnitShown). x.known.turn.out ≡ false) seats (region_of s).seat k.home stands.stands.home;
      }

pub none_yet : (heap : HeapShown) → AreSeatsBelow heap 0 []
none_yet heap = record { many = omega arith; each = λ i x e. absurd (cc); home = All-nil (λ (x : UnitShown). x.known.turn.out ≡ false) }

pub all_taken : (heap : HeapShown) (number : ℕ) (seats : List UnitShown) (advancer : AdvShown) (callers : List CallerShown)
    → AreSeatsBelow heap number seats → units_of heap.opening.layout ≤ number → advancer.table ≡ heap.table → AreAllCallers heap callers
    → AreAllSeats heap seats advancer callers
all_taken heap number seats advancer callers k past table all = record {
  unit_count = let many = k.many in omega (arith, many, past);
  each_unit = k.each;
  the_advancer = table;
  caller_count = all.many;
  each_caller = all.each;
}
