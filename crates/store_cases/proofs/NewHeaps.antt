-- A heap that was made for so many callers.
use Rattle.std.proofs.Common.{ℕ, ap}
use Rattle.std.specs.Prelude.{List}
use Rattle.mont_base.specs.Layout.{Shape}
use Rattle.heap_rule.specs.declared.rule.Opening.{Opening}
use Rattle.heap.specs.FreshOpening.{fresh_opening}
use Rattle.heap.specs.HeapShown.{HeapShown, UnitShown, AdvShown, CallerShown}
use Rattle.heap.specs.Opens.{Opens}
use Rattle.store_cases.specs.FreshHeaps.{IsNewHeap}

pub is_new : (layout : Shape) (many : ℕ) (heap : HeapShown) (units : List UnitShown) (advancer : AdvShown) (callers : List CallerShown)
    → Opens (fresh_opening layout many) heap units advancer callers → IsNewHeap many heap units advancer callers
is_new layout many heap units advancer callers opens = record {
  fresh = record { layout = layout; many = many; opens = opens };
  many_are = ap (λ (o : Opening). o.callers) opens.opening;
}
