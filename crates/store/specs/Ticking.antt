-- What a tick leaves of its caller, and what its refusals tell.
use Rattle.std.specs.Prelude.{◌≡◌, ℕ, ◌<◌, ◌≤◌, true, length, Ok, Err, None}
use Rattle.std.specs.declared.result.Result.{Result}
use Rattle.mont_base.specs.declared.constants.TheConstants.{LAST}
use Rattle.mont_base.specs.Image.{clock_of}
use Rattle.heap_rule.specs.Views.{advancer_shown, caller_heard, note_of_advancer}
use Rattle.heap.specs.HeapShown.{HeapShown, AdvShown, CallerShown}
use Rattle.heap_pass.specs.OfHeap.{IsAdvancerOf}
use Rattle.advance.specs.declared.advance_refusal.AdvanceRefusal.{AdvanceRefusal}
use Rattle.advance.specs.declared.advance_refusal.AdvanceRefusal.TheVariants.{NotYet, Cut, ClockEnd}
use Rattle.advance.specs.Advance.{IsSameSeat, IsAtEnd}
use Rattle.advance.specs.Attempts.{Advances}
use Rattle.caller.specs.Telling.{has_mark}

-- the advancer's seat once it was shown what the caller had seen
abbrev pub seat_shown : AdvShown → CallerShown → AdvShown
seat_shown found q =
    record { table = found.table; known = advancer_shown found.known q.known }

-- what the caller has of the answer
abbrev pub HasLearntClock :
    HeapShown → CallerShown → CallerShown → Result ℕ AdvanceRefusal → Type 0
HasLearntClock heap q r (Ok clock) =
    (clock_of heap.opening.words < clock) × (q.known.part.durable < clock)
    × (q.known.part.newest ≤ clock) × (r.known.part.durable ≡ clock)
HasLearntClock heap q r (Err (NotYet unit epoch cut)) =
    (epoch < r.known.part.durable)
    × (cut ≡ true → has_mark r.known.part.marks (record { unit = unit; by = None }) ≡ true)
HasLearntClock heap q r (Err Cut) = Unit {0}
HasLearntClock heap q r (Err ClockEnd) = LAST ≤ r.known.part.durable

-- The advancer's seat was shown what the caller had seen, its advance was then gone on with, and
-- the caller took a note of it, whatever came of that.
pub record HasTicked
    (heap : HeapShown) (q r : CallerShown) (answer : Result ℕ AdvanceRefusal) : Type 0 where
  pub found : AdvShown
  pub behind : AdvShown
  pub of_heap : IsAdvancerOf heap found
  pub same : IsSameSeat (seat_shown found q) behind
  pub advances : Advances (advancer_shown found.known q.known) behind.known answer
  pub at_end : IsAtEnd found.known → answer ≡ Err ClockEnd
  pub noted : r ≡ record {
    table = q.table;
    known = caller_heard q.known (note_of_advancer (length q.known.part.fronts) behind.known);
  }
  pub learnt : HasLearntClock heap q r answer
