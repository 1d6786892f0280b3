-- When what stands behind a lock is of a heap.
use Rattle.std.specs.Prelude.{◌≡◌, ℕ, List, IsTrue}
use Rattle.std.specs.Coded.{Coded-set, coded_ℕ, coded_bool}
use Rattle.atomic_table.specs.Seated.{TableId, table_id_coded}
use Rattle.mont_base.specs.Layout.{units_of}
use Rattle.heap_rule.specs.Views.{are_clean}
use Rattle.heap.specs.HeapShown.{HeapShown, AdvShown}
use Rattle.heap_pass.specs.OfLayout.{IsOfLayout}

-- It is of the heap's table, and its seat knows every unit to be clean.
pub record IsOfHeap (heap : HeapShown) (table : TableId) (clean : List ℕ) : Type 0 where
  pub of_table : table ≡ heap.table
  pub all_clean : IsTrue (are_clean (units_of heap.opening.layout) clean)

-- The advancer is of the heap's layout too.
pub record IsAdvancerOf (heap : HeapShown) (a : AdvShown) : Type 0 where
  pub of_heap : IsOfHeap heap a.table a.known.clean
  pub of_layout : IsOfLayout heap.opening.layout a.known

-- ---- each of these has one proof at most
pub IsOfHeap-prop : (heap : HeapShown) (table : TableId) (clean : List ℕ)
    → IsProp (IsOfHeap heap table clean)
IsOfHeap-prop heap table clean = hlevel (Coded-set table_id_coded, Coded-set coded_bool)

pub IsAdvancerOf-prop : (heap : HeapShown) (a : AdvShown) → IsProp (IsAdvancerOf heap a)
IsAdvancerOf-prop heap a = hlevel (IsOfHeap-prop, Coded-set coded_ℕ)
