-- What stands behind the lock of a unit after a call.
use Rattle.std.proofs.Common.{◌≡◌, ℕ, true, List, refl, sym, ap, ◌∙◌, subst}
use Rattle.std.specs.Prelude.{Option, Some, Box, Ok, Err, OnOk, IfErr}
use Rattle.std.specs.declared.result.Result.{Result}
use Rattle.mont_base.specs.declared.operation.Op.{Op}
use Rattle.mont_base.specs.declared.operation.Receipt.{Receipt}
use Rattle.mont_base.specs.declared.refusal.CallRefusal.{CallRefusal}
use Rattle.mont_base.specs.declared.refusal.CallRefusal.TheVariants.{Halted, CountEnd, Memory, Full, Cut}
use Rattle.mont_base.specs.Layout.{is_of_kind, kind_of}
use Rattle.heap.specs.HeapShown.{HeapShown, CallerShown}
use Rattle.slots.specs.Books.{RegionShown, Agrees}
use Rattle.structure_call.specs.Calling.{HasAnsweredCall, LeavesCall, was_checked}
use Rattle.structure_call.specs.Checking.{MayBeCalled}
use Rattle.structure_call.specs.CountedNumbers.{HasCounted}
use Rattle.heap_pass.specs.KeptReceipt.{KeepsReceipt}
use Rattle.structure_call.specs.Standing.{IsStanding}
use Rattle.structure_call.proofs.Counted.{answers_are_counted, refusals_are_counted}
use Rattle.store.specs.declared.unit_structure.Structure.{Structure}
use Rattle.store.specs.UnitAt.{region_of, structure_kind, IsSeated, StandsAt, FitsNumber}

pub seated_by : (r : RegionShown) → Agrees r → IsSeated r
seated_by r k = record { of_seat = k.0; inside = k.1.own.inside; halted = k.1.halted_is; places = k.1.places_are }

-- the unit is the same one, and is seated
abbrev Stays : RegionShown → RegionShown → Type 0
Stays before behind = (behind.books.unit ≡ before.books.unit) × IsSeated behind

module _ (heap : HeapShown) (before behind : RegionShown) (q r : CallerShown) (op : Op) (seated : IsSeated before) where
  as_it_was : behind ≡ before → Stays before behind
  as_it_was same = (ap (λ (x : RegionShown). x.books.unit) same, subst IsSeated (sym same) seated)

  refused_stays : (why : CallRefusal) → LeavesCall heap before behind q r op why → Stays before behind
  refused_stays (Halted unit by) k = as_it_was k.2.same
  refused_stays (CountEnd which) k = as_it_was k.ends.1.same
  refused_stays Memory k = as_it_was k.0
  refused_stays (Full need free clock) k =
      let full = k.leaves.1 in (full.keeps.of_unit, seated_by behind full.ready.runs.agrees)
  refused_stays (Cut unit) k = let halted = k.leaves.1 in (halted.of_unit, seated_by behind halted.agrees)

  stays : {T : Type 0} (olds news : List Receipt) (result : Result T CallRefusal)
      → OnOk result (KeepsReceipt olds news (HasAnsweredCall heap before behind q r op))
      → IfErr result (λ (why : CallRefusal). LeavesCall heap before behind q r op why) → Stays before behind
  stays olds news (Ok done) a k = (a.holds.of_unit, seated_by behind a.holds.ready.runs.agrees)
  stays olds news (Err why) a k = refused_stays why k

-- the unit has counted its numbers
module _ (heap : HeapShown) (before behind : RegionShown) (q r : CallerShown) (op : Op) (counted : HasCounted heap before) where
  refused_counts : (T : Type 0) (why : CallRefusal) → (was_checked {T = T} (Err why) ≡ true → MayBeCalled q before op)
      → LeavesCall heap before behind q r op why → HasCounted heap behind
  refused_counts T (Halted unit by) may k = subst (HasCounted heap) (sym k.2.same) counted
  refused_counts T (CountEnd which) may k = refusals_are_counted heap before behind q r op (CountEnd which) k.running k counted
  refused_counts T Memory may k = subst (HasCounted heap) (sym k.0) counted
  refused_counts T (Full need free clock) may k =
      refusals_are_counted heap before behind q r op (Full need free clock) (may refl).running k counted
  refused_counts T (Cut unit) may k = refusals_are_counted heap before behind q r op (Cut unit) (may refl).running k counted

  counts : {T : Type 0} (olds news : List Receipt) (result : Result T CallRefusal)
      → (was_checked result ≡ true → MayBeCalled q before op)
      → OnOk result (KeepsReceipt olds news (HasAnsweredCall heap before behind q r op))
      → IfErr result (λ (why : CallRefusal). LeavesCall heap before behind q r op why) → HasCounted heap behind
  counts olds news (Ok done) may a k = answers_are_counted heap before behind q r op a.receipt (may refl).running a.holds counted
  counts {T = T} olds news (Err why) may a k = refused_counts T why may k

-- a structure that was found behind the lock stands, of the heap that the lock's type names
pub stood : {I Z : Type 0} (named heap : HeapShown) (number : ℕ) (found : Option (Box (Structure I) Z)) (box : Box (Structure I) Z)
    (s : Structure I) → heap ≡ named → found ≡ Some box → s ≡ box.value → FitsNumber named number found → StandsAt heap number s
stood named heap number found box s same is at fits =
    subst (StandsAt heap number) (sym at)
    (subst (λ (h : HeapShown). StandsAt h number box.value) (sym same) (subst (FitsNumber named number) is fits))

-- the structure of a unit stands after a call, whatever its answer is
pub stands_behind : {I : Type 0} (heap : HeapShown) (number : ℕ) (old new : Structure I) (q r : CallerShown) (op : Op)
    {T : Type 0} (olds news : List Receipt) (result : Result T CallRefusal) → StandsAt heap number old → IsStanding heap (region_of new)
    → (was_checked result ≡ true → MayBeCalled q (region_of old) op)
    → OnOk result (KeepsReceipt olds news (HasAnsweredCall heap (region_of old) (region_of new) q r op))
    → IfErr result (λ (why : CallRefusal). LeavesCall heap (region_of old) (region_of new) q r op why)
    → structure_kind new ≡ structure_kind old → StandsAt heap number new
stands_behind heap number old new q r op olds news result found stands checked answered refused same =
    let s = stays heap (region_of old) (region_of new) q r op found.seated olds news result answered refused in
    record {
      of_unit = s.0 ∙ found.of_unit;
      kind = ap (is_of_kind (kind_of heap.opening.layout number)) same ∙ found.kind;
      seated = s.1;
      stands = stands;
      counted = counts heap (region_of old) (region_of new) q r op found.counted olds news result checked answered refused;
    }
