-- A number that a unit lacks is at its end by what the unit was opened with and by its entries.
use Rattle.std.proofs.Common.{◌≡◌, ℕ, ◌+◌, ◌<◌, ◌≤◌, Bool, true, false, cond, List, [], ◌∷◌, ◌++◌, map, refl, sym, ap, ◌∙◌, subst, arith}
use Rattle.std.specs.Prelude.{count_by, fold, max, slice_get, slice_index, unwrap_or, option_map, Option, Some, None}
use Rattle.std.specs.List.{range_with_len}
use Rattle.std.proofs.lemmas.List.Folds.{fold-map}
use Rattle.std.proofs.lemmas.List.FromFn.{length-range_with_len, get_or-range_with_len}
use Rattle.std.proofs.lemmas.List.Sums.{sum_by-cons}
use Rattle.std.proofs.lemmas.Option.{same_Some, slice_get-get_or, slice_get-map}
use Rattle.mont_base.specs.declared.effect.Effect.{Effect}
use Rattle.mont_base.specs.declared.effect.Effect.TheVariants.{Inserts, Removes}
use Rattle.mont_base.specs.declared.effect.Thing.TheVariants.{Item}
use Rattle.mont_base.specs.declared.kinds.UnitKind.{UnitKind}
use Rattle.mont_base.specs.declared.kinds.UnitKind.TheVariants as kinds
use Rattle.mont_base.specs.declared.operation.Entry.{Entry}
use Rattle.mont_base.specs.declared.operation.Op.{Op}
use Rattle.mont_base.specs.declared.operation.Op.TheVariants as ops
use Rattle.mont_base.specs.declared.record.Held.{Held}
use Rattle.mont_base.specs.declared.record.Object.{Object}
use Rattle.mont_base.specs.declared.record.ObjectFault.{ObjectFault}
use Rattle.mont_base.specs.declared.refusal.Which.{Which}
use Rattle.mont_base.specs.declared.refusal.Which.TheVariants as ends
use Rattle.mont_base.specs.Bodies.{is_clean}
use Rattle.mont_base.specs.Counting.{effects_then, enqueued, greatest_by, is_enq, is_enqueuing, IsAtEnd, serial_or_none, records_in}
use Rattle.mont_base.specs.History.{state_after}
use Rattle.mont_base.specs.Image.{records_of, IsRecovered}
use Rattle.mont_base.specs.Layout.{Shape, kind_of, units_of}
use Rattle.mont_base.specs.State.{State, QueueOf, step, queue_step}
use Rattle.mont_base.specs.Structure.{IsStructure, first_fault, queue_fault, item_fault, object_fault, or_else, at_slot, structure_of, items_of}
use Rattle.mont_base.specs.Counting as counting
use Rattle.core_steps.specs.declared.parts.CallerPart.{CallerPart}
use Rattle.heap.specs.HeapShown.{HeapShown}
use Rattle.slots.specs.RegionBeginning.{greatest, serial_of}
use Rattle.slots.specs.Books.{RegionShown}
use Rattle.structure_call.specs.CountedNumbers.{LacksSerial, LacksNumber, records_opened, objects_opened, opened_with}
use Rattle.caller.specs.Continued.{opened_records}
use Rattle.store.specs.UnitAt.{IsSeated}

-- ---- serials
-- an item that is read without a fault has its serial in its first word
read_serial : (lower : List Object) (serial item : ℕ) (t : Bool) → item_fault lower (cond t (Some (serial, item)) None) ≡ None
    → serial ≡ serial_or_none (cond t (Some (serial, item)) None)
read_serial lower serial item true e = refl
read_serial lower serial item false e = absurd (cc)

same_serial : (lower : List Object) (o : Object) → queue_fault lower o ≡ None → serial_of o ≡ counting.serial_of o
same_serial lower o e = read_serial lower (slice_index o.body 0) (slice_index o.body 1) (is_clean 2 o.body) e

no_fault_here : (slot : ℕ) (fault : Option ObjectFault) (rest : Option (ℕ × ObjectFault)) → or_else (at_slot slot fault) rest ≡ None
    → (fault ≡ None) × (rest ≡ None)
no_fault_here slot None rest e = (refl, e)
no_fault_here slot (Some fault) rest e = absurd (cc)

serials_from : (m : ℕ) (lower os : List Object) → first_fault queue_fault lower os ≡ None
    → fold (λ (most : ℕ) (o : Object). max most (serial_of o)) m os
    ≡ fold (λ (most : ℕ) (o : Object). max most (counting.serial_of o)) m os
serials_from m lower [] e = refl
serials_from m lower (o ∷ os) e =
    let k = no_fault_here o.slot (queue_fault lower o) (first_fault queue_fault (lower ++ o ∷ []) os) e in
    serials_from (max m (serial_of o)) (lower ++ o ∷ []) os k.1
    ∙ (λ i. fold (λ (most : ℕ) (x : Object). max most (counting.serial_of x)) (max m (same_serial lower o k.0 i)) os)

serials_are : (os : List Object) → first_fault queue_fault [] os ≡ None → greatest (map serial_of os) ≡ greatest_by counting.serial_of os
serials_are os e = fold-map max serial_of 0 os ∙ serials_from 0 [] os e

-- ---- items that came in
queue_stays : (items : List ℕ) (op : Op) → (left : List ℕ) × ((queue_step items op).state ≡ QueueOf left)
queue_stays items (ops.Enq unit item) = (items ++ item ∷ [], refl)
queue_stays [] (ops.Deq unit) = ([], refl)
queue_stays (item ∷ items) (ops.Deq unit) = (items, refl)
queue_stays items (ops.Len unit) = (items, refl)
queue_stays items _ = (items, refl)

one_enqueued : (items : List ℕ) (op : Op) → count_by is_enqueuing (queue_step items op).effects ≡ cond (is_enq op) 1 0
one_enqueued items (ops.Enq unit item) = sum_by-cons (λ (x : Effect). cond (is_enqueuing x) 1 0) (Inserts (Item item)) [] ∙ omega arith
one_enqueued [] (ops.Deq unit) = refl
one_enqueued (item ∷ items) (ops.Deq unit) = sum_by-cons (λ (x : Effect). cond (is_enqueuing x) 1 0) (Removes (Item item)) [] ∙ omega arith
one_enqueued items (ops.Len unit) = refl
one_enqueued items _ = refl

queue_behind : (items : List ℕ) (h : List Entry) → (left : List ℕ) × (state_after (QueueOf items) h ≡ QueueOf left)
queue_behind items [] = (items, refl)
queue_behind items (e ∷ es) =
    let next = queue_stays items e.op in
    let more = queue_behind next.0 es in (more.0, ap (λ (s : State). state_after s es) next.1 ∙ more.1)

all_enqueued : (items : List ℕ) (h : List Entry) → enqueued (QueueOf items) h ≡ count_by (λ (e : Entry). is_enq e.op) h
all_enqueued items [] = refl
all_enqueued items (e ∷ es) =
    let next = queue_stays items e.op in
    (λ i. one_enqueued items e.op i + enqueued (next.1 i) es)
    ∙ ap (λ (n : ℕ). cond (is_enq e.op) 1 0 + n) (all_enqueued next.0 es)
    ∙ sym (sum_by-cons (λ (x : Entry). cond (is_enq x.op) 1 0) e es)

is_counted : (t : Bool) → 1 ≤ cond {A = ℕ} t 1 0 → t ≡ true
is_counted true some = refl
is_counted false some = absurd (omega arith)

-- ---- what the unit was opened with
module _ (heap : HeapShown) (unit : ℕ) (inside : unit < units_of heap.opening.layout) where
  numbers_there : slice_get (range_with_len 0 (units_of heap.opening.layout)) unit ≡ Some unit
  numbers_there =
      slice_get-get_or (range_with_len 0 (units_of heap.opening.layout)) unit 0
      (omega (arith, inside, length-range_with_len 0 (units_of heap.opening.layout)))
      ∙ ap Some (omega (arith, get_or-range_with_len 0 (units_of heap.opening.layout) unit 0 inside))

  pub records_there : records_in (opened_records heap.opening) unit ≡ records_opened heap unit
  records_there =
      ap (λ (o : Option (List Held)). unwrap_or o [])
      (slice_get-map (records_of heap.opening.layout heap.opening.words) (range_with_len 0 (units_of heap.opening.layout)) unit
      ∙ ap (option_map (records_of heap.opening.layout heap.opening.words)) numbers_there)

  module _ (states : List State) (recovered : IsRecovered heap.opening.layout heap.opening.words states) where
    abbrev base : State
    base = opened_with heap states unit

    pub base_there : slice_get states unit ≡ Some base
    base_there =
        let many = recovered.0 in
        let there = slice_get-get_or states unit (QueueOf []) (omega (arith, inside, many)) in
        there ∙ sym (ap (λ (o : Option State). Some (unwrap_or o (QueueOf []))) there)

    module _ (queue : kind_of heap.opening.layout unit ≡ Some kinds.Queue) where
      made : IsStructure heap.opening.layout unit (objects_opened heap unit) base
      made = recovered.1 unit base base_there

      is_queue_unit : made.kind ≡ kinds.Queue
      is_queue_unit = same_Some made.kind kinds.Queue (sym made.of_unit ∙ queue)

      pub items_read : first_fault queue_fault [] (objects_opened heap unit) ≡ None
      items_read =
          ap (λ (k : UnitKind). object_fault heap.opening.layout unit k (objects_opened heap unit)) (sym is_queue_unit) ∙ made.sound

      pub base_is : base ≡ QueueOf (items_of (objects_opened heap unit))
      base_is = made.made ∙ ap (λ (k : UnitKind). structure_of k (objects_opened heap unit)) is_queue_unit

-- ---- the number that is at its end
module _ (heap : HeapShown) (r : RegionShown) (q : CallerPart) (op : Op) (seated : IsSeated r)
    (layout : r.books.layout ≡ heap.opening.layout) (states : List State)
    (recovered : IsRecovered heap.opening.layout heap.opening.words states) where
  abbrev opened : State
  opened = opened_with heap states r.books.unit

  abbrev history : List Entry
  history = r.seat.known.part.history

  inside : r.books.unit < units_of heap.opening.layout
  inside = subst (λ (s : Shape). r.books.unit < units_of s) layout seated.inside

  serial_at_end : LacksSerial heap r op opened → IsAtEnd (records_opened heap r.books.unit) q.calls ends.Serial op opened history
  serial_at_end k =
      let is = base_is heap r.books.unit inside states recovered k.of_queue in
      let items = items_of (objects_opened heap r.books.unit) in
      let left = queue_behind items history in
      let reached : state_after opened history ≡ QueueOf left.0 = ap (λ (s : State). state_after s history) is ∙ left.1 in
      let one : count_by is_enqueuing (effects_then opened history op) ≡ cond (is_enq op) 1 0
      = ap (λ (s : State). count_by is_enqueuing (step s op).effects) reached ∙ one_enqueued left.0 op in
      let adds = k.adds in
      let greatest_is = serials_are (objects_opened heap r.books.unit) (items_read heap r.books.unit inside states recovered k.of_queue) in
      let added : enqueued opened history ≡ count_by (λ (e : Entry). is_enq e.op) history
      = ap (λ (s : State). enqueued s history) is ∙ all_enqueued items history in
      let none_left = k.none_left in
      (is_counted (is_enq op) (omega (arith, one, adds)), omega (arith, none_left, greatest_is, added))

  opened_at_end : (which : Which) → LacksNumber heap r q op opened which
      → IsAtEnd (records_opened heap r.books.unit) q.calls which op opened history
  opened_at_end ends.Call k = k
  opened_at_end ends.Place k = let many = seated.places in omega (arith, k, many)
  opened_at_end ends.Identity k = k
  opened_at_end ends.Version k = k
  opened_at_end ends.Serial k = serial_at_end k

  pub number_at_end : (which : Which) → LacksNumber heap r q op opened which
      → IsAtEnd (records_in (opened_records heap.opening) r.books.unit) q.calls which op opened history
  number_at_end which k =
      subst (λ (rs : List Held). IsAtEnd rs q.calls which op opened history) (sym (records_there heap r.books.unit inside))
      (opened_at_end which k)
