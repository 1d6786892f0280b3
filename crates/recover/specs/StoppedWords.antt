-- What a crash leaves of a store in which nothing was done but closing slots beyond the cut.
use Rattle.std.specs.Prelude.{◌≡◌, ◌↔◌, ℕ, List, [], All}
use Rattle.mont_base.specs.declared.memory.Words.{Words}
use Rattle.mont_base.specs.Image.{IsPermitted, IsRecovered, IsWellFormed, clock_of}
use Rattle.mont_base.specs.Layout.{Shape}
use Rattle.mont_base.specs.State.{State}
use Rattle.heap_rule.specs.declared.rule.Opening.{Opening}
use Rattle.heap.specs.HeapShown.{UnitShown, AdvShown, CallerShown}
use Rattle.heap.specs.Stops.{StopsAt}

-- Recovery accepts the image. It has the clock of the words with which the store was opened, and
-- recovery rebuilds of it what it rebuilds of them, and nothing else.
pub record HoldsBase (s : Shape) (opened image : List ℕ) : Type 0 where
  pub accepted : IsWellFormed s image
  pub clock_is : clock_of image ≡ clock_of opened
  pub rebuilt : (states : List State) → IsRecovered s image states ↔ IsRecovered s opened states

-- no unit has answered anything, and the clock hasn't moved
pub record IsUnused (o : Opening) (units : List UnitShown) (advancer : AdvShown) : Type 0 where
  pub unanswered : All (λ (s : UnitShown). s.known.part.history ≡ []) units
  pub clock_is : advancer.known.clock ≡ clock_of o.words
  pub durable_is : advancer.known.durable ≡ clock_of o.words

abbrev pub UnusedStoresKeepBase : Type 0
UnusedStoresKeepBase =
    (o : Opening) (base : List State) (units : List UnitShown) (advancer : AdvShown)
    (callers : List CallerShown) (words : Words) (image : List ℕ)
    → IsRecovered o.layout o.words base → IsUnused o units advancer
    → StopsAt o units advancer callers words → IsPermitted words.cur words.dur image
    → HoldsBase o.layout o.words image
