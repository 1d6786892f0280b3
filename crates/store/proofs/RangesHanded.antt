-- The pairs that are handed over with a range are its run after the entries before its own.
use Rattle.std.proofs.Common.{◌≡◌, ℕ, true, List, refl, sym, ap, ◌∙◌, subst}
use Rattle.std.specs.Prelude.{Some}
use Rattle.mont_base.specs.declared.kinds.UnitKind.TheVariants as kinds
use Rattle.mont_base.specs.declared.operation.Op.{Op}
use Rattle.mont_base.specs.declared.operation.Op.TheVariants as ops
use Rattle.mont_base.specs.declared.operation.Receipt.{Receipt}
use Rattle.mont_base.specs.History.{state_after}
use Rattle.mont_base.specs.Image.{clock_of, IsRecovered}
use Rattle.mont_base.specs.Layout.{Shape, kind_of}
use Rattle.mont_base.specs.State.{State, MapOf, QueueOf, GraphOf, Pairs, Run, is_state_of, run_of, step}
use Rattle.mont_laws.specs.Structures.{HasPairs, HasStructure}
use Rattle.mont_laws.proofs.SameKind.{state_fits}
use Rattle.mont_laws.proofs.Shown.{one_state}
use Rattle.core_steps.specs.Opened.{opened_at}
use Rattle.core_steps.specs.Sound.{base_state}
use Rattle.heap.specs.HeapShown.{HeapShown, CallerShown}
use Rattle.slots.specs.Books.{RegionShown}
use Rattle.structure_call.specs.Calling.{HasAnsweredCall}
use Rattle.pordered.specs.OrderedRuns.{HasRun}
use Rattle.store.specs.StoreShown.{StoreShown, OfAnyBase, store_on}
use Rattle.store.specs.StoreCalls.{HandsRun, HoldsOfBase}
use Rattle.store.specs.UnitAt.{HasRunOf, IsSeated}
use Rattle.store.proofs.AskedKeys.{range_unit}
use Rattle.store.proofs.CallsContinued.{seen_behind}
use Rattle.store.proofs.CallsShown.{named_unit, same_unit}

-- an ordered unit holds a map
map_of : (s : State) → is_state_of kinds.Ordered s ≡ true → (m : Pairs) × (s ≡ MapOf m)
map_of (MapOf m) is = (m, refl)
map_of (QueueOf items) is = absurd (cc)
map_of (GraphOf graph) is = absurd (cc)

module _ (heap : HeapShown) (before behind : RegionShown) (q r : CallerShown) (named most : ℕ) (from to : List ℕ) (receipt : Receipt)
    (seated : IsSeated before) (a : HasAnsweredCall heap before behind q r (ops.ORange named from to most) receipt) where
  abbrev op : Op
  op = ops.ORange named from to most

  its_map : (m : Pairs) × (a.judged.state ≡ MapOf m)
  its_map =
      map_of a.judged.state
      (state_fits (kind_of heap.opening.layout before.books.unit) kinds.Ordered a.judged.state
      (range_unit heap.opening.layout named before.books.unit most from to a.judged.of_unit.of_unit) a.judged.shown.of_unit)

  -- the range changed nothing of it
  still_there : HasStructure heap.opening.layout before.books.unit behind.seat.known.part.records (MapOf its_map.0)
  still_there =
      subst (λ (s : State). HasStructure heap.opening.layout before.books.unit behind.seat.known.part.records (step s op).state)
      its_map.1 a.after

  pairs_there : HasPairs behind.books.layout behind.books.unit behind.seat.known.part.records its_map.0
  pairs_there =
      subst (λ (x : Shape × ℕ). HasPairs x.0 x.1 behind.seat.known.part.records its_map.0)
      (λ i. (sym a.ready.runs.of_heap.layout i, sym a.of_unit i)) still_there.things

  module _ (run : Run) (has : HasRun behind from to most run) where
    run_is : (base : List State) → IsRecovered heap.opening.layout heap.opening.words base → HoldsOfBase (store_on heap base) receipt.unit
        (λ base. run_of (state_after base before.seat.known.part.history) receipt.entry.op ≡ Some run)
    run_is base recovered =
        let led = λ (u : ℕ). state_after (base_state (opened_at (clock_of heap.opening.words) base) u) before.seat.known.part.history in
        let unit = same_unit heap before behind q r op receipt seated a in
        let same = one_state heap.opening.layout before.books.unit before.seat.known.part.records a.judged.state (led before.books.unit)
        a.judged.shown (a.showed base recovered) in
        let asked = ap (λ (x : Receipt). x.entry.op) a.receipt_is in
        ap (λ (u : ℕ). run_of (led u) receipt.entry.op) (sym unit) ∙ ap (λ (s : State). run_of s receipt.entry.op) (sym same ∙ its_map.1)
        ∙ ap (run_of (MapOf its_map.0)) asked ∙ ap Some (sym (has its_map.0 pairs_there))

    hands : OfAnyBase heap (λ (store : StoreShown). HandsRun store r receipt run)
    hands base recovered = record {
      history = before.seat.known.part.history;
      seen = seen_behind heap before behind q r op receipt a (named_unit heap before behind q r op receipt seated a);
      run_is = run_is base recovered;
    }

pub hands_run : (heap : HeapShown) (before behind : RegionShown) (q r : CallerShown) (op : Op) (receipt : Receipt) (run : Run)
    → IsSeated before → HasAnsweredCall heap before behind q r op receipt → HasRunOf behind op run
    → OfAnyBase heap (λ (store : StoreShown). HandsRun store r receipt run)
hands_run heap before behind q r (ops.ORange named from to most) receipt run seated a has =
    hands heap before behind q r named most from to receipt seated a run has
hands_run heap before behind q r _ receipt run seated a has = absurd has
