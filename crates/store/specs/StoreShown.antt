-- What contracts see of a store: its heap, and what that held when the store was opened.
use mathlib.Core.Logic.{inl, inr}
use Rattle.std.specs.Prelude.{◌≡◌, ◌⊎◌, ℕ, List, refl}
use Rattle.std.specs.Coded.{Coded, code_by, coded×, coded⊎, coded_list, coded_ℕ}
use Rattle.std.specs.FinMap as finite
use Rattle.mont_base.specs.contracts.record.Held.{the_row as held_row}
use Rattle.mont_base.specs.declared.record.Held.{Held}
use Rattle.mont_base.specs.Image.{IsRecovered}
use Rattle.mont_base.specs.State.{State, MapOf, QueueOf, GraphOf, Graph, Pairs}
use Rattle.plain.specs.GraphCode.{graph_code}
use Rattle.heap.specs.contracts.heap.Heap.{the_row as heap_row}
use Rattle.heap.specs.HeapShown.{HeapShown}
use Rattle.caller.specs.Continued.{opened_records}

pub record StoreShown : Type 0 where
  pub heap : HeapShown
  -- what each unit held
  pub base : List State
  -- the records that each unit was opened with
  pub records : List (List Held)

-- the store on a heap that recovery gave this base
abbrev pub store_on : HeapShown → List State → StoreShown
store_on heap base = record {
  heap = heap;
  base = base;
  records = opened_records heap.opening;
}

-- It is of the heap, and shows what recovery gives of the words with which that opened.
pub record IsOpenedOn (heap : HeapShown) (store : StoreShown) : Type 0 where
  pub of_heap : store.heap ≡ heap
  pub base : IsRecovered heap.opening.layout heap.opening.words store.base
  pub records : store.records ≡ opened_records heap.opening

-- This holds of a store on the heap, whatever recovery gives of these words.
abbrev pub OfAnyBase : HeapShown → (StoreShown → Type 0) → Type 0
OfAnyBase heap Holds =
    (base : List State) → IsRecovered heap.opening.layout heap.opening.words base
    → Holds (store_on heap base)

-- ---- its code
abbrev state_parts : State → Pairs ⊎ (List ℕ ⊎ Graph)
state_parts (MapOf pairs) = inl pairs
state_parts (QueueOf items) = inr (inl items)
state_parts (GraphOf graph) = inr (inr graph)

abbrev state_made : Pairs ⊎ (List ℕ ⊎ Graph) → State
state_made (inl pairs) = MapOf pairs
state_made (inr (inl items)) = QueueOf items
state_made (inr (inr graph)) = GraphOf graph

pub made_of_parts : (s : State) → state_made (state_parts s) ≡ s
made_of_parts (MapOf pairs) = refl
made_of_parts (QueueOf items) = refl
made_of_parts (GraphOf graph) = refl

abbrev state_code : Coded State
state_code =
    code_by (Pairs ⊎ (List ℕ ⊎ Graph))
    (coded⊎ (finite.code (coded_list coded_ℕ) (coded_list coded_ℕ))
    (coded⊎ (coded_list coded_ℕ) graph_code))
    state_parts state_made made_of_parts

abbrev pub store_code : Coded StoreShown
store_code =
    code_by (HeapShown × (List State × List (List Held)))
    (coded× heap_row.coded
    (coded× (coded_list state_code) (coded_list (coded_list held_row.coded))))
    (λ s. (s.heap, (s.base, s.records)))
    (λ p. record { heap = p.0; base = p.1.0; records = p.1.1 }) (λ _. refl)
