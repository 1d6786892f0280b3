-- What a heap and its seats show when it is opened.
use Rattle.std.specs.Prelude.{◌≡◌, ℕ, zero, suc, List, [], ◌∷◌, ◌++◌}
use Rattle.atomic_table.specs.Seated.{TableId}
use Rattle.mont_base.specs.Layout.{units_of}
use Rattle.heap_rule.specs.declared.rule.Opening.{Opening}
use Rattle.heap_rule.specs.Views.{first_unit, first_advancer, first_caller}
use Rattle.heap.specs.HeapShown.{HeapShown, UnitShown, AdvShown, CallerShown}

-- the seats of the first so many units, and of the first so many callers
abbrev pub dealt_units : TableId → Opening → ℕ → List UnitShown
dealt_units t o zero = []
dealt_units t o (suc n) = dealt_units t o n ++ record { table = t; known = first_unit o n } ∷ []

abbrev pub dealt_callers : TableId → Opening → ℕ → List CallerShown
dealt_callers t o zero = []
dealt_callers t o (suc n) =
    dealt_callers t o n ++ record { table = t; known = first_caller o n } ∷ []

-- all seats of the heap, each of which shows that nobody did anything yet
pub record Opens
    (o : Opening) (heap : HeapShown) (units : List UnitShown) (advancer : AdvShown)
    (callers : List CallerShown) : Type 0 where
  pub opening : heap.opening ≡ o
  pub each_unit : units ≡ dealt_units heap.table o (units_of o.layout)
  pub the_advancer : advancer ≡ record { table = heap.table; known = first_advancer o }
  pub each_caller : callers ≡ dealt_callers heap.table o o.callers
