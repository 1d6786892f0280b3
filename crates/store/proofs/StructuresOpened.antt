-- Structures are opened one after the other, each with the next seat and box.
use Rattle.std.proofs.Common.{◌≡◌, ℕ, ◌+◌, List, [], ◌∷◌, ◌++◌, length, sym, ap, subst, arith}
use Rattle.std.specs.Prelude.{slice_get, Some, Box}
use Rattle.mont_base.specs.Layout.{Shape, units_of}
use Rattle.core_steps.specs.Places.{EachAt}
use Rattle.core_steps.proofs.RowFacts.{each_push, row_before, row_last}
use Rattle.heap.specs.HeapShown.{HeapShown, UnitShown}
use Rattle.store.specs.declared.unit_structure.Structure.{Structure}
use Rattle.store.specs.FreshStore.{IsFirstSeat, AreFirstSeats, AreUnitsFrom}
use Rattle.store.specs.MapBoxes.{HaveEmptyBoxes, AreLeft, GivesBox}
use Rattle.store.specs.UnitAt.{StandsAt}
use Rattle.store.proofs.BoxesGiven.{all_given}
use Rattle.store.proofs.FirstSeats.{units_from}
use Rattle.store.proofs.Passed.{one_more_passed}

-- ---- one structure more
pub seat_here : (heap : HeapShown) (all done old new : List UnitShown) (seat : UnitShown) (n : ℕ) → AreFirstSeats heap all
    → done ++ old ≡ all → old ≡ seat ∷ new → n ≡ length done → IsFirstSeat heap n seat
seat_here heap all done old new seat n are is next at =
    subst (λ (k : ℕ). IsFirstSeat heap k seat) (sym at)
    (are.each (length done) seat
    (subst (λ (l : List UnitShown). slice_get l (length done) ≡ Some seat) (one_more_passed all done old new seat is next)
    (row_before (done ++ seat ∷ []) new (length done) seat (row_last done seat))))

module _ {I Z : Type 0} (heap : HeapShown) where
  pub one_more_stands : (old new : List (Box (Structure I) Z)) (b : Box (Structure I) Z) (s : Structure I) (n : ℕ) → new ≡ old ++ b ∷ []
      → EachAt (λ (i : ℕ) (t : Box (Structure I) Z). StandsAt heap i t.value) old → b.value ≡ s → n ≡ length old → StandsAt heap n s
      → EachAt (λ (i : ℕ) (t : Box (Structure I) Z). StandsAt heap i t.value) new
  one_more_stands old new b s n is each same at stands =
      subst (EachAt (λ (i : ℕ) (t : Box (Structure I) Z). StandsAt heap i t.value)) (sym is)
      (each_push (λ (i : ℕ) (t : Box (Structure I) Z). StandsAt heap i t.value) old b each
      (subst (λ (k : ℕ). StandsAt heap k b.value) at (subst (λ (x : Structure I). StandsAt heap n x) (sym same) stands)))

  pub all_units : (bs : List (Box (Structure I) Z)) → length bs ≡ units_of heap.opening.layout
      → EachAt (λ (i : ℕ) (t : Box (Structure I) Z). StandsAt heap i t.value) bs → AreUnitsFrom heap 0 bs
  all_units bs many each =
      units_from heap 0 bs (omega (arith, many)) (λ i b e. subst (λ (k : ℕ). StandsAt heap k b.value) (omega arith) (each i b e))

pub one_more_given : (s : Shape) (boxes old new : List ℕ) (number n next : ℕ) → AreLeft s boxes number old → number ≡ n → next ≡ number + 1
    → GivesBox s n old new → AreLeft s boxes next new
one_more_given s boxes old new number n next left here above gives =
    subst (λ (k : ℕ). AreLeft s boxes k new) (omega (arith, here, above)) (gives boxes (subst (λ (k : ℕ). AreLeft s boxes k old) here left))

pub have_empty_boxes : (heap : HeapShown) (s : Shape) (boxes left : List ℕ) (n : ℕ) → s ≡ heap.opening.layout
    → n ≡ units_of heap.opening.layout → AreLeft s boxes n left → HaveEmptyBoxes s boxes
have_empty_boxes heap s boxes left n same many k =
    let units : units_of s ≡ units_of heap.opening.layout = ap units_of same in
    all_given s n boxes left (omega (arith, units, many)) k
