-- A queue that is rebuilt holds the live items.
use Rattle.std.proofs.Common.{◌≡◌, List, sym, subst}
use Rattle.std.specs.Prelude.{filter_map}
use Rattle.std.specs.List.Sorted.{IsPermutation, IsNonDecreasingBy}
use Rattle.mont_base.specs.declared.record.Object.{Object}
use Rattle.mont_base.specs.State.{State}
use Rattle.mont_base.specs.Structure.{IsStructure}
use Rattle.mont_base.specs.Versions.{live_objects}
use Rattle.slots.specs.Books.{RegionShown, Agrees}
use Rattle.pqueue.specs.declared.queued.Queued.{Queued}
use Rattle.pqueue.specs.PQueue.{IsOfQueue, IsQueueUnit}
use Rattle.pqueue.specs.Queued.{AreLiveItems, queued_of, serial_in}
use Rattle.pqueue.proofs.SortedItems.{items_sorted}

pub rebuilt : (r : RegionShown) (objects : List Object) (sorted items : List Queued) → Agrees r → IsOfQueue r
    → objects ≡ live_objects r.seat.known.part.records → ((state : State) × IsStructure r.books.layout r.books.unit objects state)
    → IsPermutation (filter_map queued_of objects) sorted → IsNonDecreasingBy serial_in sorted → items ≡ sorted → IsQueueUnit r items
rebuilt r objects sorted items agrees queue are made same rising is = record {
  agrees = agrees;
  of_queue = queue;
  holds = λ running. subst (AreLiveItems r.seat.known.part.records) (sym is)
      (items_sorted r.books.layout r.books.unit r.seat.known.part.records made.0 sorted agrees.1.apart queue
      (subst (λ (l : List Object). IsStructure r.books.layout r.books.unit l made.0) are made.1)
      (subst (λ (l : List Object). IsPermutation (filter_map queued_of l) sorted) are same) rising);
}
