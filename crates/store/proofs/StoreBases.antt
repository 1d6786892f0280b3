-- A store has one base: what holds of it holds whatever recovery gives, and the other way round.
use Rattle.std.proofs.Common.{◌≡◌, ℕ, ◌∙◌, List, ap, subst, sym}
use Rattle.mont_base.specs.Image.{IsRecovered}
use Rattle.mont_base.specs.State.{State}
use Rattle.plain.specs.declared.contents.Contents.{Contents}
use Rattle.plain.specs.States.{states_of}
use Rattle.plain.proofs.Single.{recovered_once}
use Rattle.heap.specs.HeapShown.{HeapShown}
use Rattle.caller.specs.Continued.{opened_records}
use Rattle.store.specs.Store.{IsStoreOf}
use Rattle.store.specs.StoreShown.{IsOpenedOn, OfAnyBase, StoreShown, store_on}

-- what a store keeps
pub opened_on : (named heap : HeapShown) (clock : ℕ) (base : Contents) (store : StoreShown) → IsStoreOf named heap clock base
    → store_on heap (states_of base) ≡ store → IsOpenedOn named store
opened_on named heap clock base store of view =
    subst (IsOpenedOn named) view
    (record {
      of_heap = of.of_heap;
      base = of.opened.recovered;
      records = ap (λ (h : HeapShown). opened_records h.opening) of.of_heap;
    })

module _ (heap : HeapShown) (store : StoreShown) (opened : IsOpenedOn heap store) where
  pub shown : store ≡ store_on heap store.base
  shown = λ i. record { heap = opened.of_heap i; base = store.base; records = opened.records i }

  pub shown_on : (base : List State) → IsRecovered heap.opening.layout heap.opening.words base → store ≡ store_on heap base
  shown_on base recovered =
      shown
      ∙ ap (store_on heap) (recovered_once heap.opening.layout heap.opening.words store.base base opened.base recovered)

  module _ (Holds : StoreShown → Type 0) where
    pub of_its_base : OfAnyBase heap Holds → Holds store
    of_its_base any = subst Holds (sym shown) (any store.base opened.base)

    pub of_any_base : Holds store → OfAnyBase heap Holds
    of_any_base holds base recovered = subst Holds (shown_on base recovered) holds
