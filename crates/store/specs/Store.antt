-- What a store's type keeps, and the tickets of all callers of its heap.
use Rattle.std.specs.Prelude.{◌≡◌, ℕ, List, [], length}
use Rattle.mont_base.specs.declared.gate.Gate.{Ghosts}
use Rattle.mont_base.specs.declared.operation.Receipt.{Receipt}
use Rattle.plain.specs.declared.contents.Contents.{Contents}
use Rattle.plain.specs.States.{states_of}
use Rattle.core_steps.specs.Places.{EachAt}
use Rattle.heap.specs.HeapShown.{HeapShown, CallerShown}
use Rattle.heap.specs.Stops.{IsSeatOfCaller}
use Rattle.heap_pass.specs.declared.pass.Pass.{Pass}
use Rattle.heap_pass.specs.Kept.{IsWhole}
use Rattle.caller.specs.Continued.{IsUnanswered}
use Rattle.store_stop.specs.Headline.{IsBaseOf}

-- It is of the heap that is named, and keeps the clock and the contents with which that opened.
pub record IsStoreOf (named heap : HeapShown) (clock : ℕ) (base : Contents) : Type 0 where
  pub of_heap : heap ≡ named
  pub opened : IsBaseOf named.opening clock (states_of base)

-- a pass of a caller of the heap, which has all of its receipts still
pub record IsWholePass (heap : HeapShown) (q : CallerShown) (receipts : List Receipt)
    : Type 0 where
  pub own : q.table ≡ heap.table
  pub whole : IsWhole q receipts

-- a pass of a caller that wasn't answered yet, and was cut nowhere
pub record IsFirstPass {G : Type 0} {gate : Ghosts G} (heap : HeapShown) (p : Pass G gate)
    : Type 0 where
  pub own : IsWholePass heap p.ticket p.receipts.items
  pub unanswered : IsUnanswered p.ticket.known
  pub uncut : p.ticket.known.part.cuts ≡ []

-- the tickets of all callers of the heap, by their numbers
pub record AreAllCallers (heap : HeapShown) (callers : List CallerShown) : Type 0 where
  pub many : length callers ≡ heap.opening.callers
  pub each : EachAt (IsSeatOfCaller heap) callers
