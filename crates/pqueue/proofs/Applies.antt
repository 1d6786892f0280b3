-- What a call leaves of a queue.
use Rattle.std.proofs.Common.{◌≡◌, ℕ, ◌≤◌, List, [], ◌∷◌, sym, refl, ap, ◌∙◌, subst, true}
use Rattle.std.specs.Prelude.{IsTrue, All, MatchOption, Option, Some, None, option_to_list}
use Rattle.std.specs.Option.{option_and_then}
use Rattle.mont_base.specs.declared.constants.TheConstants.{LAST}
use Rattle.mont_base.specs.declared.kinds.UnitKind.{UnitKind}
use Rattle.mont_base.specs.declared.kinds.UnitKind.TheVariants as unit_kinds
use Rattle.mont_base.specs.declared.operation.Op.{Op}
use Rattle.mont_base.specs.declared.operation.Receipt.{Receipt}
use Rattle.mont_base.specs.declared.operation.Reply.{Reply}
use Rattle.mont_base.specs.declared.record.Change.{Change}
use Rattle.mont_base.specs.declared.record.Change.TheVariants.{Insert, Replace, Remove}
use Rattle.mont_base.specs.declared.record.Held.{Held}
use Rattle.mont_base.specs.declared.refusal.CallRefusal.{CallRefusal}
use Rattle.mont_base.specs.declared.refusal.CallRefusal.TheVariants.{Full, Cut}
use Rattle.mont_base.specs.Layout.{Shape, kind_of, is_of_kind}
use Rattle.mont_base.specs.State.{step}
use Rattle.heap.specs.HeapShown.{HeapShown, CallerShown}
use Rattle.core_steps.specs.declared.parts.CallerPart.{CallerPart}
use Rattle.slots.specs.Books.{RegionShown, Agrees, IsRegionOf}
use Rattle.slots.specs.WrittenRecords.{NamesLive}
use Rattle.slots.specs.Serials.{is_queue, IsNextSerial}
use Rattle.structure_call.specs.Planning.{IsPlan, first_at_end, adds_item as adds_item_among}
use Rattle.structure_call.specs.Standing.{IsStanding}
use Rattle.structure_call.specs.Carrying.{HasCarried, LeavesUncarried}
use Rattle.structure_call.specs.Calling.{HasAnsweredCall}
use Rattle.structure_call.proofs.ChangeNumbers.{numbers_left, all_live}
use Rattle.pqueue.specs.declared.queued.Queued.{Queued}
use Rattle.pqueue.specs.PQueue.{IsOfQueue, IsQueueUnit}
use Rattle.pqueue.specs.Queued.{AreLiveItems, queued_at}
use Rattle.pqueue.specs.QueuePlan.{ChangesQueue, adds_item, items_behind}
use Rattle.pqueue.proofs.LiveItems.{live_items_move}
use Rattle.pqueue.proofs.Follows.{items_follow}

-- an option as a slice
pub as_list : {A : Type 0} (o : Option A) (xs : List A) → MatchOption o (xs ≡ []) (λ x. xs ≡ x ∷ []) → xs ≡ option_to_list o
as_list None xs h = h
as_list (Some x) xs h = h

-- what a plan changes is live
pub plan_names : (first r : RegionShown) (op : Op) (reply : Reply) (changes given : List Change) → r ≡ first
    → IsPlan first op reply changes → given ≡ changes → All (NamesLive r.seat.known.part.records) given
plan_names first r op reply changes given same plan is =
    subst (λ (x : RegionShown × List Change). All (NamesLive x.0.seat.known.part.records) x.1) (λ i. (sym same i, sym is i))
    (all_live first.books first.seat.known.part.records (step plan.state op).effects changes plan.makes)

-- ---- the unit is a queue still
kind_kept : (heap : HeapShown) (old new : RegionShown) → IsRegionOf heap old → IsRegionOf heap new → new.books.unit ≡ old.books.unit
    → IsOfQueue old → IsOfQueue new
kind_kept heap old new was now of_unit queue =
    subst (λ (x : Shape × ℕ). kind_of x.0 x.1 ≡ Some unit_kinds.Queue) (λ i. ((was.layout ∙ sym now.layout) i, sym of_unit i)) queue

-- an operation that couldn't be carried out, where the region was as the unit held it
pub uncarried_unit : (heap : HeapShown) (held old new : RegionShown) (q r : CallerShown) (many : ℕ) (why : CallRefusal)
    (items others : List Queued) → IsQueueUnit held items → old ≡ held → IsRegionOf heap held → held.books.halted ≡ None → others ≡ items
    → IsStanding heap new → Agrees new → LeavesUncarried heap old new q r many why → IsQueueUnit new others
uncarried_unit heap held old new q r many why items others unit same was running kept stands agrees k =
    by why (subst (λ (x : RegionShown). LeavesUncarried heap x new q r many why) same k)
  where
    by : (why : CallRefusal) → LeavesUncarried heap held new q r many why → IsQueueUnit new others
    by (Full need free clock) k = record {
      agrees = agrees;
      of_queue = kind_kept heap held new was stands.of_heap k.1.keeps.of_unit unit.of_queue;
      holds = λ on. subst (AreLiveItems new.seat.known.part.records) (sym kept)
          (live_items_move held.seat.known.part.records new.seat.known.part.records items k.1.keeps.live (unit.holds running));
    }
    by (Cut u) k = record {
      agrees = agrees;
      of_queue = kind_kept heap held new was stands.of_heap k.1.of_unit unit.of_queue;
      holds = λ on. absurd (let halted = k.1.by in cc);
    }
    by _ k = absurd k

-- ---- serials
-- a region of a queue counts serials
counts_serials : (r : RegionShown) → IsOfQueue r → IsTrue (is_queue r.books.layout r.books.unit)
counts_serials r queue = ap (λ (o : Option UnitKind). is_of_kind o unit_kinds.Queue) queue

next_above : (r : RegionShown) → IsOfQueue r → Agrees r → r.seat.known.part.written ≡ []
    → IsNextSerial r.seat.known.part.records [] r.books.serial
next_above r queue agrees rests =
    subst (λ (ws : List Held). IsNextSerial r.seat.known.part.records ws r.books.serial) rests (agrees.1.serials (counts_serials r queue))

adds_among : (r : RegionShown) (change : Option Change) → IsOfQueue r → IsTrue (adds_item change)
    → adds_item_among r.books (option_to_list change) ≡ true
adds_among r None queue adds = absurd (cc)
adds_among r (Some (Insert body)) queue adds = rw (counts_serials r queue) refl
adds_among r (Some (Replace slot identity body)) queue adds = absurd (cc)
adds_among r (Some (Remove slot identity)) queue adds = absurd (cc)

serial_last : (r : RegionShown) (q : CallerPart) (change : Option Change) → IsOfQueue r → first_at_end q r (option_to_list change) ≡ None
    → IsTrue (adds_item change) → r.books.serial ≤ LAST
serial_last r q change queue none adds = (numbers_left q r (option_to_list change) none).serial (adds_among r change queue adds)

-- ---- an operation was answered
-- where the region was as the unit held it, when it was planned and when it was carried out
module _ (heap : HeapShown) (held new : RegionShown) (items : List Queued) (change : Option Change) (unit : IsQueueUnit held items)
    (running : held.books.halted ≡ None) (stood : IsStanding heap held) (stands : IsStanding heap new) (agrees : Agrees new) where
  answered_at : (q r : CallerShown) (k : CallerPart) (op : Op) (receipt : Receipt) (slot : Option ℕ)
      → ChangesQueue held.books.serial items change
      → first_at_end k held (option_to_list change) ≡ None → HasAnsweredCall heap held new q r op receipt
      → HasCarried held new (option_to_list change) receipt slot
      → IsQueueUnit new (items_behind items change (option_and_then (queued_at new.seat.known.part.records) slot))
  answered_at q r k op receipt slot is none answered carried = record {
    agrees = agrees;
    of_queue = kind_kept heap held new stood.of_heap stands.of_heap answered.of_unit unit.of_queue;
    holds = λ on. items_follow held new items change receipt slot (unit.holds running) unit.agrees agrees is
        (next_above held unit.of_queue unit.agrees (stood.idle running).rests.written)
        (serial_last held k change unit.of_queue none) carried;
  }

  pub answered_unit : (mid old : RegionShown) (q r : CallerShown) (k : CallerPart) (op : Op) (receipt : Receipt) (slot : Option ℕ)
      (asked given : List Change) (before after : List Queued) → mid ≡ held → old ≡ held → asked ≡ option_to_list change
      → given ≡ option_to_list change → ChangesQueue held.books.serial items change → first_at_end k mid asked ≡ None
      → HasAnsweredCall heap old new q r op receipt → HasCarried old new given receipt slot → before ≡ items
      → after ≡ items_behind before change (option_and_then (queued_at new.seat.known.part.records) slot) → IsQueueUnit new after
  answered_unit mid old q r k op receipt slot asked given before after mid_is old_is asks gives is none answered carried kept follows =
      subst (IsQueueUnit new)
      (sym (follows ∙ ap (λ (l : List Queued). items_behind l change (option_and_then (queued_at new.seat.known.part.records) slot)) kept))
      (answered_at q r k op receipt slot is
      (subst (λ (x : RegionShown × List Change). first_at_end k x.0 x.1 ≡ None) (λ i. (mid_is i, asks i)) none)
      (subst (λ (x : RegionShown). HasAnsweredCall heap x new q r op receipt) old_is answered)
      (subst (λ (x : RegionShown × List Change). HasCarried x.0 new x.1 receipt slot) (λ i. (old_is i, gives i)) carried))
