-- The plan of an operation on a queue.
use Rattle.std.proofs.Common.{◌≡◌, ℕ, List, [], ◌∷◌, sym, refl, ap, subst}
use Rattle.std.specs.Prelude.{Some, None, slice_get}
use Rattle.std.specs.List.{AllZip}
use Rattle.std.proofs.lemmas.List.{length-map}
use Rattle.std.proofs.lemmas.List.Elements.{All-head}
use Rattle.mont_base.specs.declared.effect.Effect.{Effect}
use Rattle.mont_base.specs.declared.effect.Thing.TheVariants.{Item}
use Rattle.mont_base.specs.declared.operation.Op.{Op}
use Rattle.mont_base.specs.declared.operation.Op.TheVariants as ops
use Rattle.mont_base.specs.declared.operation.Reply.TheVariants.{Nothing, Was, Count}
use Rattle.mont_base.specs.declared.record.Change.TheVariants.{Insert, Remove}
use Rattle.mont_base.specs.Bodies.{item_in, item_body}
use Rattle.mont_base.specs.Layout.{Shape}
use Rattle.mont_base.specs.State.{QueueOf, queue_step}
use Rattle.mont_base.specs.Structure.{is_serial}
use Rattle.mont_laws.specs.Effects.{IsOpOf}
use Rattle.mont_laws.specs.Structures.{HasStructure}
use Rattle.mont_laws.proofs.Holders.{fitted}
use Rattle.heap.specs.HeapShown.{HeapShown}
use Rattle.slots.specs.Books.{RegionShown, IsRegionOf}
use Rattle.structure_call.specs.Planning.{IsPlan, NamesThing, Makes}
use Rattle.pqueue.specs.declared.queued.Queued.{Queued}
use Rattle.pqueue.specs.Queued.{IsLiveItem, AreLiveItems}
use Rattle.pqueue.specs.PQueue.{IsQueueUnit}
use Rattle.pqueue.specs.QueuePlan.{ChangesNothing, looked_up}
use Rattle.pqueue.proofs.LiveItems.{items_in, structure_shown, first_least}

-- the unit of what a heap was asked
pub of_unit_here : (heap : HeapShown) (r : RegionShown) (op : Op) → IsRegionOf heap r → IsOpOf heap.opening.layout r.books.unit op
    → IsOpOf r.books.layout r.books.unit op
of_unit_here heap r op was of_unit = subst (λ (l : Shape). IsOpOf l r.books.unit op) (sym was.layout) of_unit

-- the items begin with the first one
begins_with : (items : List Queued) (q : Queued) → slice_get items 0 ≡ Some q → (rest : List Queued) × (items ≡ q ∷ rest)
begins_with [] q first = absurd (cc)
begins_with (p ∷ rest) q first = (rest, let same : p ≡ q = cc in ap (λ (x : Queued). x ∷ rest) same)

-- what an operation that changes nothing does to the plain queue
record DoesNothing (items : List Queued) (op : Op) : Type 0 where
  pub reply : (queue_step (items_in items) op).reply ≡ looked_up items op
  pub effects : (queue_step (items_in items) op).effects ≡ []

does : (items : List Queued) (op : Op) → ChangesNothing items op → DoesNothing items op
does items (ops.Enq u item) none = absurd none
does items (ops.Deq u) none = subst (λ (l : List Queued). DoesNothing l (ops.Deq u)) (sym none) (record { reply = refl; effects = refl })
does items (ops.Len u) none = record { reply = ap Count (length-map items (λ (q : Queued). q.item)); effects = refl }
does items _ none = record { reply = refl; effects = refl }

module _ (r : RegionShown) (items : List Queued) (unit : IsQueueUnit r items) (running : r.books.halted ≡ None) where
  live : AreLiveItems r.seat.known.part.records items
  live = unit.holds running

  shown : HasStructure r.books.layout r.books.unit r.seat.known.part.records (QueueOf (items_in items))
  shown = structure_shown r.seat.known.part.records items live r.books.layout r.books.unit unit.of_queue

  -- an item comes in
  pub enq_planned : (op : Op) (u item : ℕ) → op ≡ ops.Enq u item → IsOpOf r.books.layout r.books.unit op
      → IsPlan r op Nothing (Insert (item_body r.books.serial item) ∷ [])
  enq_planned op u item is of_unit = record {
    of_unit = of_unit;
    state = QueueOf (items_in items);
    shown = shown;
    replies = sym (ap (λ (o : Op). (queue_step (items_in items) o).reply) is);
    makes = subst (λ (o : Op). AllZip (Makes r.books r.seat.known.part.records) (queue_step (items_in items) o).effects
        (Insert (item_body r.books.serial item) ∷ [])) (sym is) (refl, tt);
  }

  -- the first item goes
  first_is : (u : ℕ) (q : Queued) (rest : List Queued) → items ≡ q ∷ rest → IsOpOf r.books.layout r.books.unit (ops.Deq u)
      → IsPlan r (ops.Deq u) (Was q.item) (Remove q.slot q.identity ∷ [])
  first_is u q rest is of_unit =
      let here : AreLiveItems r.seat.known.part.records (q ∷ rest) = subst (AreLiveItems r.seat.known.part.records) is live in
      let l : IsLiveItem r.seat.known.part.records q = All-head (IsLiveItem r.seat.known.part.records) q rest here.each in
      let named : NamesThing r.seat.known.part.records (Item q.item) q.slot q.identity = record {
        live = l.live;
        is = l.is;
        in_slot = l.in_slot;
        named = (
          q.serial,
          (fitted (λ (e : ℕ × ℕ). is_serial e.0) (item_in l.live.body) (q.serial, q.item) l.holds).0,
          first_least r.seat.known.part.records q rest here,
        );
      } in
      record {
        of_unit = of_unit;
        state = QueueOf (q.item ∷ items_in rest);
        shown = subst (λ (l : List Queued). HasStructure r.books.layout r.books.unit r.seat.known.part.records (QueueOf (items_in l))) is
            shown;
        replies = refl;
        makes = (named, tt);
      }

  pub deq_planned : (op : Op) (u : ℕ) (q : Queued) → op ≡ ops.Deq u → slice_get items 0 ≡ Some q → IsOpOf r.books.layout r.books.unit op
      → IsPlan r op (Was q.item) (Remove q.slot q.identity ∷ [])
  deq_planned op u q is first of_unit = subst (λ (o : Op). IsPlan r o (Was q.item) (Remove q.slot q.identity ∷ [])) (sym is)
      (let rest = begins_with items q first in
      first_is u q rest.0 rest.1 (subst (IsOpOf r.books.layout r.books.unit) is of_unit))

  -- nothing changes
  pub looked_planned : (op : Op) → ChangesNothing items op → IsOpOf r.books.layout r.books.unit op → IsPlan r op (looked_up items op) []
  looked_planned op none of_unit = record {
    of_unit = of_unit;
    state = QueueOf (items_in items);
    shown = shown;
    replies = sym (does items op none).reply;
    makes = subst (λ (es : List Effect). AllZip (Makes r.books r.seat.known.part.records) es []) (sym (does items op none).effects) tt;
  }
