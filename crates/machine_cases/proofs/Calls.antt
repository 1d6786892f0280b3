-- What a call leaves of an advancer.
use Rattle.std.proofs.Common.{◌∙◌, sym, subst, ℕ, List}
use Rattle.std.specs.Prelude.{IsTrue}
use Rattle.mont_base.specs.Layout.{units_of}
use Rattle.heap.specs.HeapShown.{HeapShown, AdvShown}
use Rattle.heap_rule.specs.Views.{are_clean}
use Rattle.advance.specs.Advance.{IsSameSeat}
use Rattle.machine_cases.specs.Working.{IsAdvancerOf}

pub same_advancer : (heap : HeapShown) (a b : AdvShown) → IsAdvancerOf heap a → IsSameSeat a b → IsAdvancerOf heap b
same_advancer heap a b of_heap same = record {
  table = same.table ∙ of_heap.table;
  layout = record {
    units = same.units ∙ of_heap.layout.units;
    room = same.room ∙ of_heap.layout.room;
    lists = same.list_count ∙ (of_heap.layout.lists ∙ sym same.units);
  };
  clean = subst (λ (l : List ℕ). IsTrue (are_clean (units_of heap.opening.layout) l)) (sym same.clean) of_heap.clean;
}
