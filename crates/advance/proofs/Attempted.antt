-- A try to move the clock on is an advance of the heap's advancer.
use Rattle.std.proofs.Common.{◌≡◌, ℕ, ◌<◌, Bool, subst}
use Rattle.std.specs.Prelude.{Ok, Err, IfOk, IfErr, OnErr}
use Rattle.std.specs.declared.result.Result.{Result}
use Rattle.mont_base.specs.Image.{clock_of}
use Rattle.heap_rule.specs.declared.views.AdvKnown.{AdvKnown}
use Rattle.heap.specs.HeapShown.{HeapShown, AdvShown}
use Rattle.heap_pass.specs.OfHeap.{IsAdvancerOf}
use Rattle.write_back.specs.AskedSteps.{AsksEachStep}
use Rattle.advance.specs.declared.advance_refusal.AdvanceRefusal.{AdvanceRefusal}
use Rattle.advance.specs.declared.advance_refusal.AdvanceRefusal.TheVariants.{ClockEnd}
use Rattle.advance.specs.Advance.{IsAdvanced, IsSameSeat, IsUnderWay, HasReason, IsAtEnd, was_cut}
use Rattle.advance.specs.Attempts.{Advances, HasAdvanced}

pub advances_by : (old new : AdvKnown) (answer : Result ℕ AdvanceRefusal) → IfOk answer (λ clock. IsAdvanced old clock new)
    → OnErr answer (IsUnderWay old new) → IfErr answer (λ why. HasReason why old new) → Advances old new answer
advances_by old new (Ok clock) done left why = done
advances_by old new (Err e) done left why = (left, why)

pub attempted : {G : Type 0} (asked : G → G → Bool → Type 0) (named heap : HeapShown) (found left : AdvShown) (g h : G)
    (answer : Result ℕ AdvanceRefusal) → heap ≡ named
    → IsAdvancerOf named found → IsSameSeat found left
    → AsksEachStep asked found.known.steps left.known.steps g h (was_cut answer)
    → IfOk answer (λ clock. IsAdvanced found.known clock left.known)
    → OnErr answer (IsUnderWay found.known left.known) → IfErr answer (λ why. HasReason why found.known left.known)
    → IfOk answer (λ clock. clock_of heap.opening.words < clock) → (IsAtEnd found.known → answer ≡ Err ClockEnd)
    → HasAdvanced asked named g h answer
attempted asked named heap found left g h answer same fits seat steps done under why begun at_end = record {
  found = found;
  left = left;
  of_heap = fits;
  same = seat;
  advances = advances_by found.known left.known answer done under why;
  steps = steps;
  begun = subst (λ (h : HeapShown). IfOk answer (λ clock. clock_of h.opening.words < clock)) same begun;
  at_end = at_end;
}
